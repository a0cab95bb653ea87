-- No year's reference is below its project, so no sum of them is; without grams the reduction is their difference.
use mathlib.Core.Path.{◌≡◌, ap}
use mathlib.Core.List.{List, [], ◌∷◌}
use Prim.Native.Nat.{ℕ, zero, suc, ◌-◌, ◌≤◌}
use native.Mathlib.Decide.{ℕ_discrete}
use native.Mathlib.Omega.{arith}
use borrow.Author.Tests.{eq-eqb, ne_eqb, le-ltb}
use lib.IntN.{pos, ◌-ℤ◌}
use lib.ListN.{length}
use Rattle.numbers.specs.Lists.{added}
use Rattle.tunisia.specs.Years.{accepted_years, years_of}
use Rattle.reductions.proofs.Years.{project_below}
use Rattle.reductions.specs.Year.{Year, reference_of, project_of, stretch_of}
use Rattle.tunisia.specs.Reduction.{answer_over, no_answer, reduction_of}
use Rattle.reductions.specs.Stretch.{all_grams, stretch_refusal, less_all}
use Rattle.promise_tunisia.specs.Reported.{StretchOfYears, reported}

pub added_most : (years : List Year) → added project_of years ≤ added reference_of years
added_most [] = omega arith
added_most (year ∷ rest) = omega (arith, project_below year, added_most rest)

pub never_below : (s : StretchOfYears) → (reported s).project ≤ (reported s).reference
unfolding reduction_of answer_over no_answer
never_below s =
    let years = accepted_years s.file in
    elim (ℕ_discrete (stretch_refusal s.first s.last (length years) s.electricity s.fuel) 0) [
      | yes z ↦ simp (eq-eqb _ 0 z) (added_most (stretch_of s.first s.last (years_of years)))
      | no z ↦ simp (ne_eqb _ 0 z) (omega arith)
    ]

-- a difference that is not below zero
less_is : (r p : ℕ) → p ≤ r → (pos r -ℤ pos p) ≡ pos (r - p)
less_is r zero h = ap pos (omega arith)
less_is r (suc p) h = rw (le-ltb r (suc p) h)

pub without_grams : (s : StretchOfYears) → all_grams s.electricity ≡ 0 → all_grams s.fuel ≡ 0 → (reported s).reduction ≡ pos ((reported s).reference - (reported s).project)
unfolding reduction_of answer_over no_answer less_all
without_grams s e f =
    let years = accepted_years s.file in
    let stretch = stretch_of s.first s.last (years_of years) in
    elim (ℕ_discrete (stretch_refusal s.first s.last (length years) s.electricity s.fuel) 0) [
      | yes z ↦ simp (eq-eqb _ 0 z)
          (rw (e, f, less_is (added reference_of stretch) (added project_of stretch) (added_most stretch)) (ap pos (omega arith)))
      | no z ↦ simp (ne_eqb _ 0 z)
    ]
