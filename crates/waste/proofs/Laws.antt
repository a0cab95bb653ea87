-- Laws of the constants: what stands past the lists, what has no group, and how large a constant can be.
use mathlib.Core.Path.{◌≡◌, refl, sym}
use mathlib.Core.Bool.{true, false}
use mathlib.Core.List.{List, [], ◌∷◌}
use Prim.Native.Nat.{ℕ, zero, suc, ◌+◌, ◌≤◌, ◌<◌, zero-le}
use native.Mathlib.Nat.{le_refl}
use native.Mathlib.Decide.{ℕ_discrete}
use native.Mathlib.Omega.{arith}
use borrow.Author.Tests.{eqb-true, eqb-false, eq-eqb, ne_eqb}
use lib.Dec.{T, eqb, leb, leb→le}
use lib.ListN.{length, get_or, get_or-eq_default}
use Rattle.numbers.proofs.Eight.{cond_most}
use Rattle.waste.specs.Waste.{numbered, domestic_of, industrial_of, carbons, carbon_of, most_dry, most_carbon_of, most_carbon, inert, corrections, correction_of}

pub past_list : (xs : List ℕ) (k : ℕ) → length xs < k → 0 ≡ numbered xs k
past_list xs k h = sym (get_or-eq_default (0 ∷ xs) 0 h)

-- What holds of 0, of inert waste and past the eight types holds of whatever is none of the others.
pub other_type : (P : ℕ → Type 0) → P 0 → P 6 → ((k : ℕ) → P (suc (suc (suc (suc (suc (suc (suc (suc (suc k)))))))))) → (waste : ℕ) → (waste ≡ 1 → ⊥) → (waste ≡ 2 → ⊥) → (waste ≡ 3 → ⊥) → (waste ≡ 4 → ⊥) → (waste ≡ 5 → ⊥) → (waste ≡ 7 → ⊥) → (waste ≡ 8 → ⊥) → P waste
other_type P none inert past zero a b c d e g h = none
other_type P none inert past (suc zero) a b c d e g h = absurd (a refl)
other_type P none inert past (suc (suc zero)) a b c d e g h = absurd (b refl)
other_type P none inert past (suc (suc (suc zero))) a b c d e g h = absurd (c refl)
other_type P none inert past (suc (suc (suc (suc zero)))) a b c d e g h = absurd (d refl)
other_type P none inert past (suc (suc (suc (suc (suc zero))))) a b c d e g h = absurd (e refl)
other_type P none inert past (suc (suc (suc (suc (suc (suc zero)))))) a b c d e g h = inert
other_type P none inert past (suc (suc (suc (suc (suc (suc (suc zero))))))) a b c d e g h = absurd (g refl)
other_type P none inert past (suc (suc (suc (suc (suc (suc (suc (suc zero)))))))) a b c d e g h = absurd (h refl)
other_type P none inert past (suc (suc (suc (suc (suc (suc (suc (suc (suc waste))))))))) a b c d e g h = past waste

-- a bound of every entry of a list, by one test
abbrev each_at_most : ℕ → List ℕ → Type 0
each_at_most b [] = Unit
each_at_most b (x ∷ xs) = T (leb x b) × each_at_most b xs

entry_most : (b : ℕ) (xs : List ℕ) → each_at_most b xs → (k : ℕ) → get_or xs k 0 ≤ b
entry_most b [] h k = zero-le
entry_most b (x ∷ xs) h zero = leb→le x b h.0
entry_most b (x ∷ xs) h (suc k) = entry_most b xs h.1 k

-- a list below another, place by place
abbrev Below : List ℕ → List ℕ → Type 0
Below [] ys = Unit
Below (x ∷ xs) [] = ⊥
Below (x ∷ xs) (y ∷ ys) = (x ≤ y) × Below xs ys

below_at : (xs ys : List ℕ) → Below xs ys → (k : ℕ) → get_or xs k 0 ≤ get_or ys k 0
below_at [] ys h k = zero-le
below_at (x ∷ xs) [] h k = absurd h
below_at (x ∷ xs) (y ∷ ys) h zero = h.0
below_at (x ∷ xs) (y ∷ ys) h (suc k) = below_at xs ys h.1 k

-- Dry sludge has the most carbon, and no type more than dry domestic sludge.
pub carbon_most : (waste m : ℕ) → m ≤ most_dry → carbon_of waste m ≤ most_carbon_of waste
unfolding carbon_of
carbon_most waste m h =
    let dry7 : domestic_of m ≤ domestic_of most_dry = cond_most (eqb m 0) (omega arith) (omega arith) in
    let dry8 : industrial_of m ≤ industrial_of most_dry = cond_most (eqb m 0) (omega arith) (omega arith) in
    below_at (0 ∷ carbons m) (0 ∷ carbons most_dry)
    (le_refl _, (le_refl _, (le_refl _, (le_refl _, (le_refl _, (le_refl _, (le_refl _, (dry7, (dry8, tt))))))))) waste

pub highest_most : (waste : ℕ) → most_carbon_of waste ≤ most_carbon
unfolding carbon_of
highest_most waste = entry_most most_carbon (0 ∷ carbons most_dry) (search tt) waste

pub correction_most : (class : ℕ) → correction_of class ≤ 100
unfolding correction_of
correction_most class = entry_most 100 (0 ∷ corrections) (search tt) class

-- Inert waste has no carbon, whatever m is.
pub inert_no_carbon : (t m : ℕ) → inert t ≡ true → carbon_of (t + 1) m ≡ 0
unfolding carbon_of
inert_no_carbon t m e =
    let p : t ≡ 5 = omega (arith, eqb-true) in
    rw p refl

-- Every other type has some, whatever m is.
sludge_some : (m : ℕ) → (0 < domestic_of m) × (0 < industrial_of m)
sludge_some m =
    elim (ℕ_discrete m 0) [
      | yes e ↦ simp (eq-eqb m 0 e) (omega arith, omega arith)
      | no e ↦ simp (ne_eqb m 0 e) (omega arith, omega arith)
    ]

pub carbon_some : (t m : ℕ) → t < 8 → inert t ≡ false → 0 < carbon_of (t + 1) m
unfolding carbon_of
carbon_some zero m place e = omega arith
carbon_some (suc zero) m place e = omega arith
carbon_some (suc (suc zero)) m place e = omega arith
carbon_some (suc (suc (suc zero))) m place e = omega arith
carbon_some (suc (suc (suc (suc zero)))) m place e = omega arith
carbon_some (suc (suc (suc (suc (suc zero))))) m place e = absurd (eqb-false 6 6 e refl)
carbon_some (suc (suc (suc (suc (suc (suc zero)))))) m place e = (sludge_some m).0
carbon_some (suc (suc (suc (suc (suc (suc (suc zero))))))) m place e = (sludge_some m).1
carbon_some (suc (suc (suc (suc (suc (suc (suc (suc t)))))))) m place e = absurd (omega arith)
