-- How large a signed difference can be: `mag` of a number below zero is one less than its size.
use mathlib.Core.Path.{◌≡◌}
use mathlib.Core.Bool.{Bool, true, false, cond}
use Prim.Native.Nat.{ℕ, zero, suc, ◌+◌, ◌-◌, ◌^◌, ◌≤◌, ◌<◌}
use native.Mathlib.Omega.{arith}
use lib.Dec.{ltb}
use lib.IntN.{ℤ, pos, negsuc, ◌-ℤ◌}
use lib.Signed.{mag}
use mir.Syntax.{w64}
use mir.Val.{SFits, to_z, of_z}
use mir.Facts.{to_z-of_z}

by_order : (below : Bool) (a b : ℕ) → mag (cond below (negsuc (b - suc a)) (pos (a - b))) ≤ a + (b - 1)
by_order true a b = omega arith
by_order false a b = omega arith

pub less_most : (z : ℤ) (x : ℕ) → mag (z -ℤ pos x) ≤ mag z + x
less_most (pos a) zero = omega arith
less_most (pos a) (suc x) = omega (arith, by_order (ltb a (suc x)) a (suc x))
less_most (negsuc a) zero = omega (arith, by_order (ltb 0 (suc a)) 0 (suc a))
less_most (negsuc a) (suc x) = omega arith

pub less_fits : (z : ℤ) (x : ℕ) → mag z + x < 2 ^ 63 → SFits w64 (z -ℤ pos x)
less_fits z x h = record { sfits = omega (arith, less_most z x) }

-- The answer of a call is read back from its bits.
pub signed_back : {z : ℤ} → mag z < 2 ^ 63 → to_z w64 (of_z w64 z) ≡ z
signed_back h = to_z-of_z {w = w64} (record { sfits = h })

pub same_size : (z : ℤ) → mag z < 2 ^ 63 → mag (to_z w64 (of_z w64 z)) ≡ mag z
same_size z h = rw (signed_back h)
