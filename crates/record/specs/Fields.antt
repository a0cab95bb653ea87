-- Document 01, 'One record', with request f of document 02: what its 48 bytes say. A byte that is not there counts 0.
use Rattle.std.specs.Prelude.{cond, List, ℕ, ◌+◌, ◌*◌, eqb, get_or}
use Rattle.numbers.specs.Bytes.{number_at}
use Rattle.waste.specs.Waste.{mass_limit, most_carbon, carbon_of}
use Rattle.record.specs.declared.factors.Factors.{Factors}

-- 48 bytes, and as many for an output record.
abbrev pub record_bytes : ℕ
record_bytes = 48

module _ (bytes : List ℕ) where
  abbrev pub period_of : ℕ
  period_of = number_at 2 bytes 0

  -- 1 yearly, 2 monthly
  abbrev pub kind_of : ℕ
  kind_of = get_or bytes 2 0

  abbrev pub climate_of : ℕ
  climate_of = get_or bytes 3 0

  -- The correction factor, percent; site class; captured f, hundredths of a percent;
  abbrev pub factor_of : ℕ
  factor_of = get_or bytes 4 0

  abbrev pub class_of : ℕ
  class_of = get_or bytes 8 0

  abbrev pub captured_of : ℕ
  captured_of = number_at 2 bytes 10

  -- with them oxidation OX, methane share F and DOCf, percent, and warming potential GWP.
  unfoldable pub factors_of : Factors
  factors_of =
      record {
        factor = factor_of;
        oxidation = get_or bytes 5 0;
        methane = get_or bytes 6 0;
        docf = get_or bytes 7 0;
        class = class_of;
        potential = get_or bytes 9 0;
        captured = captured_of;
      }

  -- the organic dry matter m of sludge, percent: byte 12 gives it for type 7, byte 13 for type 8.
  unfoldable pub dry_of : (waste : ℕ) → ℕ
  dry_of waste = cond (eqb waste 7) (get_or bytes 12 0) (cond (eqb waste 8) (get_or bytes 13 0) 0)

  -- bytes 14 and 15, which are to be zero
  unfoldable pub zeros_of : ℕ
  zeros_of = number_at 2 bytes 14

  -- the mass at place t, in kg; 0 means nothing was brought
  unfoldable pub mass_of : (t : ℕ) → ℕ
  mass_of t = number_at 4 bytes (16 + 4 * t)

  -- 'One step': deposit = mass × DOC × 100 mg, with DOC of the record's own m
  unfoldable pub deposit_of : (t : ℕ) → ℕ
  deposit_of t = mass_of t * carbon_of (t + 1) (dry_of (t + 1)) * 100

-- The most that one deposit can be, in mg.
abbrev pub most_deposit : ℕ
most_deposit = mass_limit * most_carbon * 100
