-- Document 02, request i: the answer over a stretch of the accepted years of a file.
use Rattle.std.specs.Prelude.{cond, List, ℕ, eqb, ℤ, pos, length}
use Rattle.numbers.specs.Lists.{added}
use Rattle.reductions.specs.Year.{Year, reference_of, project_of, bounds_of, stretch_of}
use Rattle.reductions.specs.Stretch.{all_grams, stretch_refusal, less_all}
use Rattle.tunisia.specs.Years.{accepted_years, refusal_after, years_of}

-- The refusal of the stretch, 0 if none; reference, project, reduction and bound in grams CO2e; how many years were accepted, and the
-- refusal of the record after them, 0 if none.
pub record Reduction : Type 0 where
  pub refusal : ℕ
  pub reference : ℕ
  pub project : ℕ
  pub reduction : ℤ
  pub bound : ℕ
  pub years : ℕ
  pub refused : ℕ

-- 'it answers reference, project, reduction and bound, the figures added over the stretch'; of a refused one 'all four answers 0'.
unfoldable pub answer_over : List Year → (electricity fuel : List ℕ) → (years refused : ℕ) → Reduction
answer_over stretch electricity fuel years refused =
    record {
      refusal = 0;
      reference = added reference_of stretch;
      project = added project_of stretch;
      reduction = less_all (added reference_of stretch) (added project_of stretch) (all_grams electricity) (all_grams fuel);
      bound = added bounds_of stretch;
      years = years;
      refused = refused;
    }

unfoldable pub no_answer : (refusal years refused : ℕ) → Reduction
no_answer refusal years refused =
    record { refusal = refusal; reference = 0; project = 0; reduction = pos 0; bound = 0; years = years; refused = refused }

-- The answer for a file, a first and a last year, and grams of electricity and fuel.
unfoldable pub reduction_of : (file : List ℕ) → (first last : ℕ) → (electricity fuel : List ℕ) → Reduction
reduction_of file first last electricity fuel =
    let years = length (accepted_years file) in
    let refusal = stretch_refusal first last years electricity fuel in
    cond (eqb refusal 0)
    (answer_over (stretch_of first last (years_of (accepted_years file))) electricity fuel years (refusal_after file))
    (no_answer refusal years (refusal_after file))
