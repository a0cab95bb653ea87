-- Document 02, request i: reference and project of a year and their bounds, in grams CO2e, and of a stretch of years.
use Rattle.std.specs.Prelude.{cond, List, [], ◌∷◌, ℕ, ◌+◌, ◌*◌, ◌/◌}
use Rattle.numbers.specs.Fault.{between}
use Rattle.numbers.specs.Lists.{added}
use Rattle.record.specs.declared.factors.Factors.{Factors}
use Rattle.figure.specs.Figure.{figure_of, bound_of}
use Rattle.reductions.specs.declared.year.Sums.{Sums}

-- Year y: its number, record y's factors, and of period y − 1 the release in mg, which is its x0, and B.
pub record Year : Type 0 where
  pub number : ℕ
  pub factors : Factors
  pub release : ℕ
  pub B : ℕ

-- Factors with another class in the place of the record's.
unfoldable pub in_class : (class : ℕ) → Factors → Factors
in_class class v =
    record {
      factor = v.factor;
      oxidation = v.oxidation;
      methane = v.methane;
      docf = v.docf;
      class = class;
      potential = v.potential;
      captured = v.captured;
    }

-- 'The reference figure uses class 1; each year's whole grams are then multiplied by 73, divided by 100 and rounded down'
unfoldable pub reference_of : Year → ℕ
reference_of year = figure_of (in_class 1 year.factors) year.release * 73 / 100

-- 'the project figure uses class 2 and no 73/100'
unfoldable pub project_of : Year → ℕ
project_of year = figure_of (in_class 2 year.factors) year.release

-- 'Both bounds use the B of period y − 1'; the reference's is 'one gram higher'.
unfoldable pub project_bound : Year → ℕ
project_bound year = bound_of year.factors year.B

unfoldable pub reference_bound : Year → ℕ
reference_bound year = project_bound year + 1

-- 'its bound is the bounds added'
unfoldable pub bounds_of : Year → ℕ
bounds_of year = reference_bound year + project_bound year

-- The years of a stretch, from a first to a last.
unfoldable pub stretch_of : (first last : ℕ) → List Year → List Year
stretch_of first last [] = []
stretch_of first last (year ∷ rest) =
    cond (between first year.number last) (year ∷ stretch_of first last rest) (stretch_of first last rest)

-- What the years of a stretch add up to.
unfoldable pub sums_of : List Year → Sums
sums_of stretch = record { reference = added reference_of stretch; project = added project_of stretch; bound = added bounds_of stretch }

unfoldable pub with_year : Sums → Year → Sums
with_year sums year =
    record {
      reference = sums.reference + reference_of year;
      project = sums.project + project_of year;
      bound = sums.bound + bounds_of year;
    }
