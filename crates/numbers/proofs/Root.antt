-- Of two squares the larger one has the larger root.
use Prim.Native.Nat.{ℕ, ◌+◌, ◌*◌, ◌≤◌, ◌<◌}
use native.Mathlib.Nat.{mul-le-mul}
use native.Mathlib.Decide.{dec_le}
use native.Mathlib.Omega.{arith}

pub root_at_most : (x y : ℕ) → x * x ≤ y * y → x ≤ y
root_at_most x y h =
    elim (dec_le x y) [
      | yes l ↦ l
      | no l ↦ let more : y + 1 ≤ x = omega arith in absurd (omega (arith, mul-le-mul more more))
    ]

pub root_below : (x y : ℕ) → x * x < y * y → x < y
root_below x y h =
    elim (dec_le y x) [
      | yes l ↦ absurd (omega (arith, mul-le-mul l l))
      | no l ↦ omega arith
    ]
