-- A test of every entry of a list, or of every number up to a last one, computed at once.
use mathlib.Core.Bool.{Bool, true, ◌&&◌}
use mathlib.Core.List.{List, [], ◌∷◌}
use Prim.Native.Nat.{ℕ, zero, suc, ◌≤◌}
use native.Mathlib.Decide.{ℕ_discrete}
use native.Mathlib.Omega.{arith}
use lib.Dec.{T}
use lib.Ieee.Fits.{and_l, and_r}

-- The test holds of every entry with its number, the first one's being k.
abbrev pub every_from : (ℕ → ℕ → Bool) → ℕ → List ℕ → Bool
every_from test k [] = true
every_from test k (x ∷ xs) = test k x && every_from test (suc k) xs

-- The test holds of 1, 2, .., n.
abbrev pub up_to : (ℕ → Bool) → ℕ → Bool
up_to test zero = true
up_to test (suc n) = test (suc n) && up_to test n

pub number_at : (test : ℕ → Bool) (n : ℕ) → T (up_to test n) → (r : ℕ) → 1 ≤ r → r ≤ n → T (test r)
number_at test zero ok r low high = absurd (omega arith)
number_at test (suc n) ok r low high =
    elim (ℕ_discrete r (suc n)) [
      | yes e ↦ rw e (and_l (test (suc n)) (up_to test n) ok)
      | no e ↦ number_at test n (and_r (test (suc n)) (up_to test n) ok) r low (omega arith)
    ]
