-- The rule of a factor beside a fraction v = n / m: both sides of p × p × S ≤ (10000 − 100p)² are squares, and so is v², so that their roots
-- are compared without taking one. Here r is 10000 − 100p.
use mathlib.Core.Path.{◌≡◌, ap}
use Prim.Native.Nat.{ℕ, ◌+◌, ◌*◌, ◌≤◌, ◌<◌}
use native.Mathlib.Nat.{mul-le-mul_left, mul-le-mul_right, mul-lt-mul_of_pos_right, mul-pos}
use native.Mathlib.Decide.{dec_le}
use native.Mathlib.Omega.{arith}
use Rattle.numbers.proofs.Root.{root_at_most, root_below}

module _ (S p r n m : ℕ) (left : r + 100 * p ≡ 10000) where
  -- p² × S ≤ r² and v² ≤ S / 10^4: then p × (1 + v) ≤ 100.
  pub fits_below : p * p * S ≤ r * r → n * n * 10000 ≤ S * (m * m) → p * (m + n) ≤ 100 * m
  fits_below hp hv =
      let square : (100 * p * n) * (100 * p * n) ≤ (r * m) * (r * m) = omega (arith, mul-le-mul_left (p * p) hv, mul-le-mul_right (m * m) hp) in
      omega (arith, root_at_most (100 * p * n) (r * m) square, ap (λ (x : ℕ). x * m) left)

  -- r² < p² × S and S / 10^4 ≤ v²: then 100 < p × (1 + v).
  pub fails_above : 0 < m → r * r < p * p * S → S * (m * m) ≤ n * n * 10000 → 100 * m < p * (m + n)
  fails_above pos hp hv =
      let square : (r * m) * (r * m) < (100 * p * n) * (100 * p * n)
      = omega (arith, mul-le-mul_left (p * p) hv, mul-lt-mul_of_pos_right hp (mul-pos pos pos)) in
      omega (arith, root_below (r * m) (100 * p * n) square, ap (λ (x : ℕ). x * m) left)

-- Where p fails the rule, v = (r + 1/k) / 100p is still at or below √S / 100, and p is more than 100 / (1 + v).
module _ (S p r k : ℕ) (left : r + 100 * p ≡ 10000) (fine : k ≡ 2 * r + 1) where
  pub still_below : r * r < p * p * S → (r * k + 1) * (r * k + 1) * 10000 ≤ S * (100 * p * k * (100 * p * k))
  still_below h =
      let more : r * r + 1 ≤ p * p * S = omega arith in
      omega (arith, mul-le-mul_right (k * k) more, ap (λ (x : ℕ). x * k) fine)

  pub yet_less : (q : ℕ) → 0 < p → q * (100 * p * k + (r * k + 1)) ≤ 100 * (100 * p * k) → q < p
  yet_less q pos h =
      elim (dec_le p q) [
        | yes l ↦ absurd (omega (arith, mul-le-mul_right (100 * p * k + (r * k + 1)) l, ap (λ (x : ℕ). x * k * p) left))
        | no l ↦ omega arith
      ]
