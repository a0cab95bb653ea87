-- The greatest number that passes a test, and what that makes of the factor: it is allowed, the next one is not, and it falls as S rises.
use mathlib.Core.Path.{◌≡◌, refl, sym, ◌∙◌}
use mathlib.Core.Bool.{Bool, true, false, cond, ◌&&◌, true≢false}
use mathlib.Core.Logic.{⊎_elim}
use Prim.Native.Nat.{ℕ, zero, suc, ◌+◌, ◌-◌, ◌*◌, ◌≤◌, ◌<◌, zero-le}
use native.Mathlib.Nat.{zero-mul, mul-le-mul, mul-le-mul_left, le_trans, eq-or-lt_of_le, le_of_suc-le-suc}
use native.Mathlib.Omega.{arith}
use borrow.Author.Tests.{leb-true, leb-false, le-leb}
use Rattle.numbers.proofs.Eight.{both_true, three_true}
use Rattle.uncertainty.specs.Uncertainty.{all_full, AtMost, is_percentage, are_percentages, squares_of, most_squares, allows, greatest, factor_for}
use Rattle.uncertainty.specs.declared.Uncertainties.{Uncertainties}

module _ (test : ℕ → Bool) where
  -- What is found passes, is no more than was asked for, and is no less than any other that passes.
  greatest_passes : (k : ℕ) → test 0 ≡ true → test (greatest test k) ≡ true
  greatest_passes zero h = h
  greatest_passes (suc k) h = by_test (test (suc k)) refl (greatest_passes k h)
    where
      by_test : (b : Bool) → test (suc k) ≡ b → test (greatest test k) ≡ true → test (cond b (suc k) (greatest test k)) ≡ true
      by_test true e on = e
      by_test false e on = on

  greatest_most : (k : ℕ) → greatest test k ≤ k
  greatest_most zero = zero-le
  greatest_most (suc k) = by_test (test (suc k)) (greatest_most k)
    where
      by_test : (b : Bool) → greatest test k ≤ k → cond b (suc k) (greatest test k) ≤ suc k
      by_test true h = omega arith
      by_test false h = omega arith

  none_greater : (k j : ℕ) → j ≤ k → test j ≡ true → j ≤ greatest test k
  none_greater zero j h e = h
  none_greater (suc k) j h e = by_test (test (suc k)) refl (λ less. none_greater k j less e)
    where
      by_test : (b : Bool) → test (suc k) ≡ b → (j ≤ k → j ≤ greatest test k) → j ≤ cond b (suc k) (greatest test k)
      by_test true t on = h
      by_test false t on =
          ⊎_elim (λ same. absurd (true≢false (sym e ∙ rw same t))) (λ less. on (le_of_suc-le-suc less)) (eq-or-lt_of_le h)

  -- A search that goes down: a number that passes is the greatest up to it, and one that does not gives way to the next.
  pub found : (k : ℕ) → test k ≡ true → greatest test k ≡ k
  found zero e = refl
  found (suc k) e = rw e

  pub passed_over : (k : ℕ) → 0 < k → test k ≡ false → greatest test k ≡ greatest test (k - 1)
  passed_over zero h e = absurd (omega arith)
  passed_over (suc k) h e = let back : suc k - 1 ≡ k = omega arith in rw (e, back)

module _ (S : ℕ) where
  none_allowed : allows S 0 ≡ true
  unfolding allows
  none_allowed = rw (zero-mul S)

  -- A factor that is not allowed is above 0.
  pub above_none : (p : ℕ) → allows S p ≡ false → 0 < p
  above_none zero e = absurd (true≢false (sym none_allowed ∙ e))
  above_none (suc p) e = omega arith

  pub factor_most : factor_for S ≤ 100
  unfolding factor_for
  factor_most = greatest_most (allows S) 100

  factor_allowed : allows S (factor_for S) ≡ true
  unfolding factor_for
  factor_allowed = greatest_passes (allows S) 100 none_allowed

  no_more_allowed : (p : ℕ) → p ≤ 100 → allows S p ≡ true → p ≤ factor_for S
  unfolding factor_for
  no_more_allowed p h e = none_greater (allows S) 100 p h e

  -- The rule for a number that is allowed, for the factor and for the next.
  rule : (p : ℕ) → allows S p ≡ true → p * p * S ≤ (10000 - 100 * p) * (10000 - 100 * p)
  unfolding allows
  rule p e = leb-true _ _ e

  pub factor_fits : let p = factor_for S in p * p * S ≤ (10000 - 100 * p) * (10000 - 100 * p)
  factor_fits = rule (factor_for S) factor_allowed

  pub next_fails : let t = factor_for S + 1 in t ≤ 100 → (10000 - 100 * t) * (10000 - 100 * t) < t * t * S
  unfolding allows
  next_fails h = by_test (allows S (factor_for S + 1)) refl
    where
      by_test : (b : Bool) → allows S (factor_for S + 1) ≡ b → let t = factor_for S + 1 in (10000 - 100 * t) * (10000 - 100 * t) < t * t * S
      by_test true e = absurd (omega (arith, no_more_allowed (factor_for S + 1) h e))
      by_test false e = leb-false _ _ e

-- What a larger sum allows, a smaller one does: so the factor falls as the sum rises.
fewer_allowed : (S S' p : ℕ) → S ≤ S' → allows S' p ≡ true → allows S p ≡ true
unfolding allows
fewer_allowed S S' p h e = le-leb _ _ (le_trans (mul-le-mul_left (p * p) h) (rule S' p e))

pub falls_as_s_rises : (S S' : ℕ) → S ≤ S' → factor_for S' ≤ factor_for S
falls_as_s_rises S S' h = no_more_allowed S (factor_for S') (factor_most S') (fewer_allowed S S' (factor_for S') h (factor_allowed S'))

-- Where each of six is at most the same of six others, so is their sum of squares.
pub squares_rise : (u u' : Uncertainties) → AtMost u u' → squares_of u ≤ squares_of u'
unfolding squares_of
squares_rise u u' h =
    omega (
      arith,
      mul-le-mul h.most_a h.most_a,
      mul-le-mul h.most_b h.most_b,
      mul-le-mul h.most_c h.most_c,
      mul-le-mul h.most_d h.most_d,
      mul-le-mul h.most_e h.most_e,
      mul-le-mul h.most_g h.most_g,
    )

-- Six percentages are at most 100 each, so S has its most where all are 100.
module _ (u : Uncertainties) where
  pub each_at_most_lem : are_percentages u ≡ true → AtMost u all_full
  unfolding are_percentages
  each_at_most_lem t =
      let four = is_percentage u.a && is_percentage u.b && is_percentage u.c && is_percentage u.d in
      let sixth = both_true (four && is_percentage u.e) (is_percentage u.g) t in
      let fifth = both_true four (is_percentage u.e) sixth.0 in
      let fourth = both_true (is_percentage u.a && is_percentage u.b && is_percentage u.c) (is_percentage u.d) fifth.0 in
      let three = three_true (is_percentage u.a) (is_percentage u.b) (is_percentage u.c) fourth.0 in
      record {
        most_a = leb-true u.a 100 three.0;
        most_b = leb-true u.b 100 three.1.0;
        most_c = leb-true u.c 100 three.1.1;
        most_d = leb-true u.d 100 fourth.1;
        most_e = leb-true u.e 100 fifth.1;
        most_g = leb-true u.g 100 sixth.1;
      }

  pub squares_most : are_percentages u ≡ true → squares_of u ≤ most_squares
  unfolding squares_of
  squares_most t = squares_rise u all_full (each_at_most_lem t)
