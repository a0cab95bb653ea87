-- The answers by what was tested: each refusal where those ahead of it are not there, and the factor where none is; and what they then say.
use mathlib.Core.Path.{◌≡◌, refl, sym, ap, ◌∙◌}
use mathlib.Core.Bool.{Bool, true, false, cond}
use mathlib.Core.List.{List}
use Prim.Native.Nat.{ℕ, zero, suc, ◌≤◌}
use native.Mathlib.Omega.{arith}
use borrow.Author.Tests.{ne_eqb, le-leb, not-false}
use lib.Dec.{eqb, lit≤}
use Rattle.std.proofs.Common.{Result, Ok, Err}
use Rattle.numbers.specs.Fault.{Fault, first_of}
use Rattle.numbers.proofs.Fault.{clear}
use Rattle.uncertainty.specs.Uncertainty.{are_percentages, squares_of, factor_for, are_codes, chosen, chosen_by, both_entered, percentage_faults, code_faults, ModelFactor, no_factor, unless, by_percentages, by_codes, numbers_of}
use Rattle.uncertainty.specs.declared.Uncertainties.{Uncertainties}
use Rattle.uncertainty.specs.declared.FactorRefusal.{FactorRefusal}
use Rattle.uncertainty.specs.declared.FactorRefusal.TheVariants.{PercentageTooLarge, UnknownCode}

module _ (u : Uncertainties) where
  pub percentage_over : are_percentages u ≡ false → no_factor 18 ≡ by_percentages u
  unfolding by_percentages percentage_faults
  percentage_over t = simp t

  pub factor_found : are_percentages u ≡ true → {factor : ℕ} → factor ≡ factor_for (squares_of u)
      → ◌≡◌ {A = ModelFactor} (record { refusal = 0; factor = factor }) (by_percentages u)
  unfolding by_percentages percentage_faults
  factor_found t is = simp (t, is)

  pub entered_over : both_entered u ≡ false → no_factor 18 ≡ by_codes u
  unfolding by_codes code_faults
  entered_over t = simp t

  module _ (t : both_entered u ≡ true) where
    pub not_coded : are_codes u ≡ false → no_factor 19 ≡ by_codes u
    unfolding by_codes code_faults
    not_coded s = simp (t, s)

    pub as_chosen : are_codes u ≡ true → by_percentages (chosen_by u) ≡ by_codes u
    unfolding by_codes code_faults
    as_chosen s = simp (t, s)

-- An answer without refusal is one without fault.
none_there : (faults : List Fault) (answer : ModelFactor) → (unless faults answer).refusal ≡ 0 → first_of faults ≡ 0
none_there faults answer = by_number (first_of faults)
  where
    by_number : (k : ℕ) → (cond (eqb k 0) answer (no_factor k)).refusal ≡ 0 → k ≡ 0
    by_number zero e = refl
    by_number (suc k) e = rw (ne_eqb (suc k) 0 (λ z. omega arith)) at e

module _ (u : Uncertainties) where
  pub when_entered : (by_percentages u).refusal ≡ 0 → are_percentages u ≡ true
  unfolding by_percentages percentage_faults
  when_entered z = not-false _ (clear 18 (percentage_faults u) refl (none_there (percentage_faults u) _ z))

  pub when_coded : (by_codes u).refusal ≡ 0 → (both_entered u ≡ true) × (are_codes u ≡ true)
  unfolding by_codes code_faults
  when_coded z =
      let none = none_there (code_faults u) (by_percentages (chosen_by u)) z in
      (not-false _ (clear 18 (code_faults u) refl none), not-false _ (clear 19 (code_faults u) refl none))

-- Chosen values are percentages, so that a choice is refused for its codes alone.
small : (code : ℕ) {lower higher : ℕ} → lower ≤ 100 → higher ≤ 100 → chosen code lower higher ≤ 100
small code {lower} {higher} low high = by_test (eqb code 1)
  where
    by_test : (b : Bool) → cond b lower higher ≤ 100
    by_test true = low
    by_test false = high

pub all_entered : (u : Uncertainties) → both_entered u ≡ true → u.c ≤ 100 → u.d ≤ 100 → u.e ≤ 100 → u.g ≤ 100 → are_percentages u ≡ true
unfolding are_percentages
all_entered u t hc hd he hg = simp (t, le-leb u.c 100 hc, le-leb u.d 100 hd, le-leb u.e 100 he, le-leb u.g 100 hg)

pub chosen_entered : (u : Uncertainties) → both_entered u ≡ true → are_percentages (chosen_by u) ≡ true
unfolding chosen_by
chosen_entered u t =
    all_entered (chosen_by u) t (small u.c (lit≤ tt) (lit≤ tt)) (small u.d (lit≤ tt) (lit≤ tt))
    (small u.e (lit≤ tt) (lit≤ tt)) (small u.g (lit≤ tt) (lit≤ tt))

-- With a fault the factor is 0.
pub none_found : (faults : List Fault) (answer : ModelFactor) → (first_of faults ≡ 0 → ⊥) → (unless faults answer).factor ≡ 0
none_found faults answer there = rw (ne_eqb (first_of faults) 0 there) refl

-- The case of the answer that has these numbers: so two cases with the same numbers are one.
case_of : ModelFactor → Result ℕ FactorRefusal
case_of n = cond (eqb n.refusal 18) (Err PercentageTooLarge) (cond (eqb n.refusal 19) (Err UnknownCode) (Ok n.factor))

same_case : (answer : Result ℕ FactorRefusal) → case_of (numbers_of answer) ≡ answer
unfolding case_of
same_case (Ok factor) = refl
same_case (Err PercentageTooLarge) = refl
same_case (Err UnknownCode) = refl

pub one_factor : (n : ModelFactor) (a b : Result ℕ FactorRefusal) → numbers_of a ≡ n → numbers_of b ≡ n → a ≡ b
one_factor n a b p q = sym (same_case a) ∙ ap case_of (p ∙ sym q) ∙ same_case b
