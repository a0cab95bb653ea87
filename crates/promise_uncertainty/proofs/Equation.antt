-- Equations (3) and (4) of source 000: the rule of request d over whole numbers (uncertainty), carried to fractions.
use mathlib.Core.Path.{◌≡◌, refl, sym, ap}
use Prim.Native.Nat.{ℕ, ◌+◌, ◌-◌, ◌*◌, ◌≤◌, ◌<◌}
use native.Mathlib.Nat.{mul-le-mul_right, mul-pos, le_of_eq, le_antisymm, div-eq_of_lt-le}
use native.Mathlib.Decide.{dec_le}
use native.Mathlib.Omega.{arith}
use lib.Dec.{lit<}
use Rattle.numbers.specs.Fraction.{Fraction, over, whole, ◌⊕◌, ◌⊗◌, ◌≼◌, ◌≈◌}
use Rattle.numbers.proofs.Fraction.{at_most_trans}
use Rattle.uncertainty.specs.Uncertainty.{squares_of, factor_for}
use Rattle.uncertainty.specs.declared.Uncertainties.{Uncertainties}
use Rattle.uncertainty.proofs.Laws
use Rattle.uncertainty.proofs.Rule.{fits_below, fails_above, still_below, yet_less}
use Rattle.promise_uncertainty.specs.Uncertainties.{V², v, v², φ, EquationFour}

pub phi_is : (n m : ℕ) (above : 0 < m) → φ n m above ⊗ (whole 1 ⊕ v n m above) ≈ whole 1
phi_is n m above = omega arith

-- The factor for S, at a V² that is S / 100².
module _ (S : ℕ) (square : Fraction) (is : square ≈ over S 10000 (lit< tt)) where
  abbrev pub p : ℕ
  p = factor_for S

  below : (n m : ℕ) (above : 0 < m) → v² n m above ≼ square → p * (m + n) ≤ 100 * m
  below n m above h =
      fits_below S p (10000 - 100 * p) n m (omega (arith, Laws.factor_most S)) (Laws.factor_fits S)
      (omega (arith, at_most_trans (v² n m above) square (over S 10000 (lit< tt)) h (le_of_eq is)))

  beyond : (n m : ℕ) (above : 0 < m) → square ≼ v² n m above → 100 * m < (p + 1) * (m + n)
  beyond n m above h =
      elim (dec_le (p + 1) 100) [
        | yes l ↦ fails_above S (p + 1) (10000 - 100 * (p + 1)) n m (omega arith) above (Laws.next_fails S l)
            (omega (arith, at_most_trans (over S 10000 (lit< tt)) square (v² n m above) (le_of_eq (sym is)) h))
        | no l ↦ let more : 101 ≤ p + 1 = omega arith in omega (arith, mul-le-mul_right (m + n) more)
      ]

  pub equation_four : EquationFour square p
  equation_four =
      record {
        at_root = λ n m above h.
            sym (div-eq_of_lt-le _ (omega (arith, below n m above (le_of_eq h))) (omega (arith, beyond n m above (le_of_eq (sym h)))));
        below_root = λ n m above h. omega (arith, below n m above h);
        above_root = λ n m above h. omega (arith, beyond n m above h);
      }

  -- No other number meets it: one below p does not at v = (100 − p) / p, which is at or above V, and one above p at no v that is close below V.
  module _ (some : 0 < p) (q : ℕ) (met : EquationFour square q) where
    not_less : p ≤ q
    not_less =
        let k = 100 - p in
        let whole : p + k ≡ 100 = omega (arith, Laws.factor_most S) in
        let r : 10000 - 100 * p ≡ 100 * k = omega arith in
        let fits : S * (p * p) ≤ k * k * 10000 = omega (arith, rw r at (Laws.factor_fits S)) in
        let h = met.above_root k p some (at_most_trans square (over S 10000 (lit< tt)) (v² k p some) (le_of_eq is) (omega arith)) in
        omega (arith, h, ap (λ (x : ℕ). (q + 1) * x) whole)

    at_most_at : (n m : ℕ) (above : 0 < m) → n * n * 10000 ≤ S * (m * m) → q * (m + n) ≤ 100 * m
    at_most_at n m above h =
        omega (arith, met.below_root n m above (at_most_trans (v² n m above) (over S 10000 (lit< tt)) square (omega arith) (le_of_eq (sym is))))

    not_more : q ≤ p
    not_more =
        elim (dec_le (p + 1) 100) [
          | yes l ↦ let r = 10000 - 100 * (p + 1) in
              let k = 2 * r + 1 in
              let left : r + 100 * (p + 1) ≡ 10000 = omega arith in
              let pos : 0 < 100 * (p + 1) * k = mul-pos (omega arith) (omega arith) in
              let h = at_most_at (r * k + 1) (100 * (p + 1) * k) pos (still_below S (p + 1) r k left refl (Laws.next_fails S l)) in
              let less : q < p + 1 = yet_less S (p + 1) r k left refl q (omega arith) h in
              omega arith
          | no l ↦ omega (arith, at_most_at 0 1 (lit< tt) (omega arith))
        ]

    pub no_other : q ≡ p
    no_other = le_antisymm not_more not_less

module _ (u : Uncertainties) where
  -- V² is S / 100².
  pub v_is : V² u ≈ over (squares_of u) 10000 (lit< tt)
  unfolding V² squares_of
  v_is = omega arith
