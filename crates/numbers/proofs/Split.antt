-- a × b / c by parts, once over the divisor: a is split by c, and only the remainder's product is divided.
use mathlib.Core.Path.{◌≡◌, ◌∙◌, sym, ap}
use Prim.Native.Nat.{ℕ, ◌+◌, ◌-◌, ◌*◌, ◌/◌, ◌%◌, ◌^◌, ◌≤◌, ◌<◌}
use native.Mathlib.Nat.{div-add-mod', mul-add-div_right, mul-le-mul_left, mul-le-mul_right, mod-lt, div-le_of_le-mul, lt_of_le_of_lt, le_trans, div-mul-le_self, le-div_iff_mul-le}
use native.Mathlib.Omega.{arith}

pub split : (a b c : ℕ) → 0 < c → a / c * b + a % c * b / c ≡ a * b / c
split a b c h =
    let parts : a / c * b * c + a % c * b ≡ a * b = omega (arith, ap (λ (n : ℕ). n * b) (div-add-mod' a c))
    in sym (mul-add-div_right h (a / c * b) (a % c * b)) ∙ ap (λ (n : ℕ). n / c) parts

-- The remainder's product is at most that of the divisor less one.
pub rest_most : (a b c : ℕ) → 0 < c → a % c * b ≤ (c - 1) * b
rest_most a b c h = mul-le-mul_right b (omega (arith, mod-lt a h))

-- A share of at most all is at most all.
pub share_most : (a b c : ℕ) → b ≤ c → a * b / c ≤ a
share_most a b c h = div-le_of_le-mul c (omega (arith, mul-le-mul_left a h))

-- More is, divided and rounded down, not less.
pub share_rises : (a b c : ℕ) → 0 < c → a ≤ b → a / c ≤ b / c
share_rises a b c pos h = (le-div_iff_mul-le pos).1 (le_trans (div-mul-le_self a c) h)

-- A part of what is divided, taken by rounding down with it and without it, is less than 1 from exact, both ways.
pub share_near : (a b c : ℕ) → 0 < c → a ≤ b → (b < (b / c - a / c) * c + a + c) × ((b / c - a / c) * c + a < b + c)
share_near a b c pos h =
    let part : a / c + (b / c - a / c) ≡ b / c = omega (arith, share_rises a b c pos h) in
    let parts : a / c * c + (b / c - a / c) * c ≡ b / c * c = omega (arith, ap (λ (n : ℕ). n * c) part) in
    (omega (arith, parts, div-add-mod' a c, div-add-mod' b c, mod-lt b pos), omega (arith, parts, div-add-mod' a c, div-add-mod' b c, mod-lt a pos))

-- What multiply-and-divide asks, where b is at most a small c.
pub share_fits : (a b c : ℕ) → a < 2 ^ 64 → 0 < c → b ≤ c → (c - 1) * c < 2 ^ 64 → (0 < c) × (((c - 1) * b < 2 ^ 64) × (a * b / c < 2 ^ 64))
share_fits a b c fits pos most small =
    (pos, (lt_of_le_of_lt (mul-le-mul_left (c - 1) most) small, lt_of_le_of_lt (share_most a b c most) fits))
