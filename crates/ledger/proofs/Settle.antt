-- What is worked out for one type, from its deposit and the entry that was looked up, and for all of them, is what the definitions say.
use mathlib.Core.Path.{◌≡◌}
use mathlib.Core.List.{List, [], ◌∷◌}
use Prim.Native.Nat.{ℕ, ◌+◌, ◌-◌, ◌*◌, ◌≤◌}
use native.Mathlib.Nat.{zero-add, add-zero, add_assoc}
use native.Mathlib.Decide.{ℕ_discrete}
use native.Mathlib.Omega.{arith}
use borrow.Author.Tests.{lt-ltb}
use lib.Dec.{ltb}
use Rattle.numbers.specs.Eight.{one}
use Rattle.numbers.proofs.Eight.{sum_each, sum_most, sum_none, cond_most}
use Rattle.record.specs.Fields.{kind_of, climate_of, deposit_of}
use Rattle.carbon.specs.Carbon.{entry_at, left_of}
use Rattle.ledger.specs.Step.{brought_at, stock_at, new_brought, held, new_stock, release, work, decayed_at, x0_of, work_of, period_of_all}
use Rattle.ledger.specs.declared.book.Ledger.{Ledger}
use Rattle.ledger.specs.declared.period.Decayed.{Decayed}
use Rattle.ledger.proofs.Accepted.{NoneAt}

pub decayed_is : (l : Ledger) (bytes : List ℕ) (t : ℕ) {D brings left counts : ℕ} → D ≡ entry_at (kind_of bytes) (climate_of bytes) t
    → brings ≡ deposit_of bytes t → left ≡ left_of (stock_at l t + brings) D → counts ≡ one (ltb 0 (stock_at l t + brings))
    → record { brought = brought_at l t + brings; stock = left; release = stock_at l t + brings - left; work = counts } ≡ decayed_at l bytes t
unfolding decayed_at new_brought new_stock release work held
decayed_is l bytes t e d k w = rw (w, k, d, e)

-- A type without carbon has no decay work, no type has more than 1, and so a record has no more than 8.
pub none_to_decay : (l : Ledger) (bytes : List ℕ) (t : ℕ) → held l bytes t ≡ 0 → work l bytes t ≡ 0
unfolding work
none_to_decay l bytes t e = rw e

pub work_most : (l : Ledger) (bytes : List ℕ) (t : ℕ) → work l bytes t ≤ 1
unfolding work
work_most l bytes t = cond_most (ltb 0 (held l bytes t)) (omega arith) (omega arith)

-- A record without decay work releases nothing.
idle : (l : Ledger) (bytes : List ℕ) (t : ℕ) → work l bytes t ≡ 0 → release l bytes t ≡ 0
unfolding work release
idle l bytes t e =
    elim (ℕ_discrete (held l bytes t) 0) [
      | yes z ↦ omega (arith, z)
      | no z ↦ absurd (omega (arith, simp (lt-ltb 0 (held l bytes t) (omega (arith, z))) at e))
    ]

pub none_released : (l : Ledger) (bytes : List ℕ) → work_of l bytes ≡ 0 → x0_of l bytes ≡ 0
unfolding work_of x0_of
none_released l bytes e =
    omega (arith, sum_each (release l bytes) 0 8 (λ t place. idle l bytes t (sum_none (work l bytes) 8 e t place)))

pub work_small : (l : Ledger) (bytes : List ℕ) → work_of l bytes ≤ 8
unfolding work_of
work_small l bytes = sum_most (work l bytes) 1 8 (λ t place. work_most l bytes t)

-- Seven types decay, and inert waste has no carbon: what all of them then have, ...
pub all_decayed : (l : Ledger) (bytes : List ℕ) {a b c d e g h : Decayed} → NoneAt l bytes 5
    → a ≡ decayed_at l bytes 0 → b ≡ decayed_at l bytes 1 → c ≡ decayed_at l bytes 2 → d ≡ decayed_at l bytes 3
    → e ≡ decayed_at l bytes 4 → g ≡ decayed_at l bytes 6 → h ≡ decayed_at l bytes 7
    → record {
      brought = a.brought ∷ b.brought ∷ c.brought ∷ d.brought ∷ e.brought ∷ 0 ∷ g.brought ∷ h.brought ∷ [];
      stock = a.stock ∷ b.stock ∷ c.stock ∷ d.stock ∷ e.stock ∷ 0 ∷ g.stock ∷ h.stock ∷ [];
      x0 = a.release + b.release + c.release + d.release + (e.release + g.release + h.release);
      work = a.work + b.work + c.work + d.work + e.work + g.work + h.work;
    } ≡ period_of_all l bytes
unfolding period_of_all x0_of work_of decayed_at
all_decayed l bytes none a b c d e g h =
    simp (a, b, c, d, e, g, h, none.T, none.R, none.G, none_to_decay l bytes 5 none.H, zero-add, add-zero, add_assoc)

-- ... and that seven small numbers add up to less than 64 bits hold.
pub seven_small : {most a b c d e g h : ℕ} → a ≤ most → b ≤ most → c ≤ most → d ≤ most → e ≤ most → g ≤ most → h ≤ most
    → a + b + c + d + e + g + h ≤ 7 * most
seven_small a b c d e g h = omega (arith, a, b, c, d, e, g, h)
