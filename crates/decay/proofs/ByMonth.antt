-- Brackets stay within the whole, what they come to is the entry, and a table filled to its end is the table.
use mathlib.Core.Path.{◌≡◌, sym, ap, ◌∙◌}
use mathlib.Core.List.{List}
use Prim.Native.Nat.{ℕ, zero, suc, ◌+◌, ◌-◌, ◌*◌, ◌/◌, ◌≤◌, ◌<◌}
use native.Mathlib.Nat.{div-le_of_le-mul, mul-le-mul}
use native.Mathlib.Numerals.{add-one, sub-one}
use native.Mathlib.Omega.{arith}
use native.Mathlib.Decide.{ℕ_discrete}
use lib.ListN.{length, get_or, set, length-set, length-replicate}
use lib.Seq.{get_or-set_same, get_or-set_other, ext_get_or}
use Rattle.decay.specs.Series.{entry_of, entries_from, table_of}
use Rattle.decay.specs.ByMonth.{per_billionth, scale, bracket_of, outwards, left_after_month, filled_to}
use Rattle.decay.proofs.Rule.{worked_passes, monthly_entry, entry_at, entries_size}

pub outwards_next : (rate n left : ℕ) → 0 < n → outwards rate n left ≡ outwards rate (n - 1) (bracket_of rate n left)
unfolding outwards
outwards_next rate zero left h = absurd (omega arith)
outwards_next rate (suc n) left h = rw sub-one

pub bracket_within : (rate n left : ℕ) → bracket_of rate n left ≤ scale
unfolding bracket_of
bracket_within rate n left = omega arith

-- The quotient is within the whole too, since x is below 1.
pub quotient_within : (rate n left : ℕ) → rate ≤ 400 → 0 < n → left ≤ scale → left * rate / (12000 * n) ≤ scale
quotient_within rate n left r h l =
    let less : left * rate ≤ scale * (12000 * n) = mul-le-mul l (omega arith) in
    div-le_of_le-mul (12000 * n) (omega (arith, less))

pub worked_out : (rate : ℕ) → 1 ≤ rate → rate ≤ 400 → left_after_month rate / per_billionth ≡ entry_of 2 rate
worked_out rate low high = monthly_entry rate (left_after_month rate / per_billionth) low high (worked_passes _ rate low high)

-- A table filled to a place, whichever way the place is told; and with one entry more.
pub same_place : {table : List ℕ} {j k : ℕ} → table ≡ filled_to j → j ≡ k → table ≡ filled_to k
same_place p e = p ∙ ap filled_to e

pub filled_next : (k : ℕ) {table : List ℕ} {D : ℕ} → table ≡ filled_to k → D ≡ entry_of 2 (k + 1) → set table k D ≡ filled_to (k + 1)
unfolding filled_to
filled_next k p q = rw (p, q, add-one k)

filled_size : (k : ℕ) → length (filled_to k) ≡ 400
unfolding filled_to
filled_size zero = length-replicate {A = ℕ} 400 0
filled_size (suc k) = length-set (filled_to k) k (entry_of 2 (suc k)) ∙ filled_size k

filled_at : (k i : ℕ) → k ≤ 400 → i < k → get_or (filled_to k) i 0 ≡ entry_of 2 (suc i)
unfolding filled_to
filled_at zero i h l = absurd (omega arith)
filled_at (suc k) i h l =
    elim (ℕ_discrete i k) [
      | yes e ↦ rw e (get_or-set_same (filled_to k) k (entry_of 2 (suc k)) 0 (omega (arith, filled_size k)))
      | no e ↦ get_or-set_other (filled_to k) k i (entry_of 2 (suc k)) 0 e ∙ filled_at k i (omega arith) (omega arith)
    ]

pub filled_whole : filled_to 400 ≡ table_of 2
unfolding table_of
filled_whole =
    ext_get_or 0 (filled_to 400) (entries_from 2 1 400) (filled_size 400 ∙ sym (entries_size 2 1 400))
    (λ i l. let h : i < 400 = omega (arith, filled_size 400) in let next : 1 + i ≡ suc i = omega arith in filled_at 400 i (omega arith) h ∙ sym (rw next at (entry_at 2 1 400 i h)))
