-- The answer over a stretch, from the accepted years and the refusal of the stretch.
use mathlib.Core.Path.{◌≡◌}
use mathlib.Core.List.{List}
use Prim.Native.Nat.{ℕ}
use borrow.Author.Tests.{eq-eqb, ne_eqb}
use lib.IntN.{ℤ, pos}
use lib.ListN.{length}
use Rattle.tunisia.specs.Years.{accepted_years, refusal_after}
use Rattle.tunisia.specs.Reduction.{answer_over, no_answer, reduction_of}
use Rattle.reductions.specs.Stretch.{all_grams, stretch_refusal, less_all}
use Rattle.tunisia.specs.Walk.{taken_over, YearsTaken}
use Rattle.reductions.specs.Year.{sums_of}

module _ (file : List ℕ) (first last : ℕ) (electricity fuel : List ℕ) {taken : YearsTaken} {q : ℕ}
    (years : taken ≡ taken_over first last (accepted_years file) (refusal_after file)) (refusal : q ≡ stretch_refusal first last taken.years electricity fuel) where
  refusal_is : stretch_refusal first last (length (accepted_years file)) electricity fuel ≡ q
  unfolding taken_over
  refusal_is = rw (refusal, years)

  pub refused_is : (q ≡ 0 → ⊥)
      → record { refusal = q; reference = 0; project = 0; reduction = pos 0; bound = 0; years = taken.years; refused = taken.refused } ≡ reduction_of file first last electricity fuel
  unfolding reduction_of no_answer taken_over
  refused_is some = rw (refusal_is, years) (simp (ne_eqb q 0 some))

  pub answered-is : {z : ℤ} {e f : ℕ} → q ≡ 0 → z ≡ less_all taken.sums.reference taken.sums.project e f → e ≡ all_grams electricity → f ≡ all_grams fuel
      → record { refusal = 0; reference = taken.sums.reference; project = taken.sums.project; reduction = z; bound = taken.sums.bound; years = taken.years; refused = taken.refused }
      ≡ reduction_of file first last electricity fuel
  unfolding reduction_of answer_over taken_over sums_of
  answered-is none less e f = rw (refusal_is, less, e, f, years) (simp (eq-eqb q 0 none))
