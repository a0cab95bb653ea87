-- Document 02, request c: the months of one year share the year's factors.
use Rattle.std.specs.Prelude.{Bool, cond, not, ◌&&◌, ◌||◌, List, ℕ, ◌%◌, eqb, ltb}
use Rattle.waste.specs.Kind.{is_monthly}
use Rattle.waste.specs.Waste.{is_class}
use Rattle.record.specs.Fields.{kind_of, factor_of, class_of, captured_of}
use Rattle.record.specs.Ranges.{is_factor, is_share}
use Rattle.year_factors.specs.declared.YearFactors.{YearFactors}

-- 'Correction factor, captured share and site class' of a record.
unfoldable pub year_of : List ℕ → YearFactors
year_of bytes =
    record { factor = factor_of bytes; captured = captured_of bytes; class = class_of bytes }

-- None remembered: all zero.
unfoldable pub no_year : YearFactors
no_year = record { factor = 0; captured = 0; class = 0 }

-- A year has 12: behind n others a record is 12q + 1, the first of a year, where n is 12q.
abbrev pub months : ℕ
months = 12

abbrev pub begins_year : ℕ → Bool
begins_year n = eqb (n % months) 0

-- 'Records 12q + 2 to 12q + 12 must repeat those three values of record 12q + 1': else 17.
abbrev pub repeats : YearFactors → List ℕ → Bool
repeats year bytes =
    eqb (factor_of bytes) year.factor && eqb (captured_of bytes) year.captured && eqb (class_of bytes) year.class

unfoldable pub shares : (n : ℕ) → YearFactors → List ℕ → Bool
shares n year bytes = not (is_monthly (kind_of bytes)) || begins_year n || repeats year bytes

-- 'The ledger remembers them': record 12q + 1 of a monthly run sets them, and any other leaves them.
unfoldable pub remembered : (n : ℕ) → YearFactors → List ℕ → YearFactors
remembered n year bytes = cond (is_monthly (kind_of bytes) && begins_year n) (year_of bytes) year

-- Refusal 3: within 'their ranges when a monthly ledger has n above 0', and zero otherwise.
abbrev pub year_in_range : YearFactors → Bool
year_in_range year = is_factor year.factor && is_share year.captured && is_class year.class

abbrev pub nothing_kept : YearFactors → Bool
nothing_kept year = eqb year.factor 0 && eqb year.captured 0 && eqb year.class 0

unfoldable pub sound_year : (n kind : ℕ) → YearFactors → Bool
sound_year n kind year = cond (ltb 0 n && is_monthly kind) (year_in_range year) (nothing_kept year)
