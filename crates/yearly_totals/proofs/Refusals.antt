-- The refusal of a record follows from that of the plain step: 27 takes the place of the tests from 6 on, and 32 comes last.
use mathlib.Core.Path.{◌≡◌, refl, sym, ◌∙◌}
use mathlib.Core.Bool.{Bool, true, false, cond, ◌&&◌, ◌||◌}
use mathlib.Core.List.{List}
use Prim.Native.Nat.{ℕ, zero, suc}
use native.Mathlib.Decide.{ℕ_discrete}
use native.Mathlib.Omega.{arith}
use borrow.Author.Tests.{eq-eqb, ne_eqb}
use lib.Dec.{eqb, ltb, eqb-suc-zero}
use lib.ListN.{length}
use Rattle.numbers.specs.Fault.{Fault, ◌when◌, inserted}
use Rattle.numbers.proofs.Fault.{inserted_turns, inserted_numbered, first_last}
use Rattle.waste.specs.Kind.{is_yearly}
use Rattle.record.specs.Fields.{period_of, kind_of}
use Rattle.refusal.specs.Refusal.{faults_of}
use Rattle.ledger.specs.Refusal.{sound, refusal_of}
use Rattle.ledger.specs.declared.book.Ledger.{Ledger}
use Rattle.year_slots.specs.Slots.{totals_bytes, differs}
use Rattle.yearly_totals.specs.Months.{month_faults, month_refusal}
use Rattle.yearly_totals.specs.YearRun.{as_monthly}

-- A refusal and one that comes last, from a test and the refusal without both.
both_last : (test d : Bool) (q : ℕ) → cond (eqb (cond test 27 q) 0) (cond d 32 0) (cond test 27 q) ≡ cond test 27 (cond (eqb q 0 && d) 32 q)
both_last true d q = refl
both_last false d zero = refl
both_last false d (suc q) = rw (eqb-suc-zero q)

module _ (l : Ledger) (totals bytes : List ℕ) (room : ℕ) where
  abbrev faults : List Fault
  faults = faults_of (sound l) l.n l.kind l.climate l.year bytes room

  abbrev pub q : ℕ
  q = refusal_of l bytes room

  abbrev pub year : Bool
  year = is_yearly (kind_of bytes)

  abbrev pub other : Bool
  other = differs totals (period_of bytes)

  pub wrong_length : (length totals ≡ totals_bytes → ⊥) → month_refusal l totals bytes room ≡ 28
  unfolding month_refusal month_faults
  wrong_length e = simp (ne_eqb (length totals) totals_bytes e)

  pub month_refused : length totals ≡ totals_bytes → month_refusal l totals bytes room ≡ as_monthly q year other
  unfolding month_refusal month_faults refusal_of faults_of as_monthly
  month_refused size =
      simp (eq-eqb (length totals) totals_bytes size)
      (first_last 32 other (inserted 6 (27 when year) faults) (inserted_numbered 6 27 year faults refl)
      ∙ rw (inserted_turns 6 27 5 year faults refl refl refl) (both_last (year && (eqb q 0 || ltb 5 q)) other q))

-- The buffer's slot decides only where nothing else refuses.
pub refused_any : (q : ℕ) (y d : Bool) → (q ≡ 0 → ⊥) → as_monthly q y d ≡ as_monthly q y false
unfolding as_monthly
refused_any q y d some = simp (ne_eqb q 0 some)

pub refused_some : (q : ℕ) (y d : Bool) → (q ≡ 0 → ⊥) → as_monthly q y d ≡ 0 → ⊥
unfolding as_monthly
refused_some q y d some = let e = ne_eqb q 0 some in simp e (by (y && (false || ltb 5 q)))
  where
    by : (test : Bool) → cond test 27 q ≡ 0 → ⊥
    by true z = omega arith
    by false z = some z

-- A record is accepted where the plain step accepts it, it is not yearly, and its slot does not differ; and only there.
pub accepted_none : as_monthly 0 false false ≡ 0
unfolding as_monthly
accepted_none = refl

pub accepted_only : (q : ℕ) (y d : Bool) → as_monthly q y d ≡ 0 → (q ≡ 0) × (y ≡ false) × (d ≡ false)
unfolding as_monthly
accepted_only zero true d e = absurd (omega arith)
accepted_only zero false true e = absurd (omega arith)
accepted_only zero false false e = (refl, refl, refl)
accepted_only (suc q) y d e = absurd (refused_some (suc q) y d (λ z. omega arith) e)

module _ (l : Ledger) (totals bytes : List ℕ) (room : ℕ) where
  pub month_taken : length totals ≡ totals_bytes → refusal_of l bytes room ≡ 0 → is_yearly (kind_of bytes) ≡ false → differs totals (period_of bytes) ≡ false
      → month_refusal l totals bytes room ≡ 0
  month_taken size none y d = month_refused l totals bytes room size ∙ rw (none, y, d) accepted_none

  pub record MonthTaken : Type 0 where
    pub size : length totals ≡ totals_bytes
    pub none : refusal_of l bytes room ≡ 0
    pub month : is_yearly (kind_of bytes) ≡ false
    pub agrees : differs totals (period_of bytes) ≡ false

  pub taken_meets : month_refusal l totals bytes room ≡ 0 → MonthTaken
  taken_meets e =
      elim (ℕ_discrete (length totals) totals_bytes) [
        | yes size ↦
            let p = accepted_only (refusal_of l bytes room) (is_yearly (kind_of bytes)) (differs totals (period_of bytes)) (sym (month_refused l totals bytes room size) ∙ e) in
            record { size = size; none = p.0; month = p.1; agrees = p.2 }
        | no size ↦ absurd (let z : 28 ≡ 0 = sym (wrong_length l totals bytes room size) ∙ e in omega arith)
      ]
