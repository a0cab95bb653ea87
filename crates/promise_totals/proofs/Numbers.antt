-- Which record is refused by which number, and what a slot that fits is.
use mathlib.Core.Path.{◌≡◌, refl, sym, ◌∙◌}
use mathlib.Core.Bool.{Bool, true, false, cond, ◌&&◌, ◌||◌}
use mathlib.Core.Logic.{⊎_elim}
use mathlib.Core.List.{List}
use Prim.Native.Nat.{ℕ, ◌+◌, ◌-◌, ◌*◌, ◌/◌, ◌%◌, ◌≤◌}
use native.Mathlib.Decide.{ℕ_discrete}
use native.Mathlib.Omega.{arith}
use borrow.Author.Tests.{eq-eqb, eqb-true, ltb-true, not-false}
use lib.Dec.{eqb, ltb}
use lib.ListN.{get_or}
use Rattle.numbers.specs.Fault.{Fault, first_of, ahead}
use Rattle.numbers.proofs.Eight.{both_true, either_true, every_at, every_each}
use Rattle.numbers.proofs.Fault.{onward, parted, first_up_to, first_over}
use Rattle.refusal.specs.Refusal.{faults_of}
use Rattle.ledger.specs.Refusal.{sound, refusal_of, NoneAhead}
use Rattle.ledger.specs.declared.book.Ledger.{Ledger}
use Rattle.year_slots.specs.Slots.{slot_size, slot_at, is_blank, differs}
use Rattle.year_slots.proofs.Slots.{agreed, counts_well, agrees, agrees_blank, differs_none, differs_some}
use Rattle.yearly_totals.specs.YearRun.{as_monthly}
use Rattle.promise_totals.specs.Promise.{SlotFits}

-- The refusal of a record is that of the plain step, at most 17, or 27, or 32.
module _ (q : ℕ) (y d : Bool) (small : q ≤ 17) where
  abbrev test : Bool
  test = y && (eqb q 0 || ltb 5 q)

  by_test : (t : Bool) → test ≡ t → (b : Bool) → (eqb q 0 && d) ≡ b
      → ((cond t 27 (cond b 32 q) ≡ 28 → ⊥) × (cond t 27 (cond b 32 q) ≡ 27 → t ≡ true) × (cond t 27 (cond b 32 q) ≡ 32 → (t ≡ false) × (b ≡ true)))
  by_test true e b f = (λ z. omega arith, λ z. refl, λ z. absurd (omega arith))
  by_test false e true f = (λ z. omega arith, λ z. absurd (omega arith), λ z. (refl, refl))
  by_test false e false f = (λ z. omega (arith, z), λ z. absurd (omega (arith, z)), λ z. absurd (omega (arith, z)))

  pub never_28 : as_monthly q y d ≡ 28 → ⊥
  unfolding as_monthly
  never_28 = (by_test test refl (eqb q 0 && d) refl).0

  pub is_27 : as_monthly q y d ≡ 27 → (y ≡ true) × ((eqb q 0 || ltb 5 q) ≡ true)
  unfolding as_monthly
  is_27 z = both_true y (eqb q 0 || ltb 5 q) ((by_test test refl (eqb q 0 && d) refl).1 z)

  pub is_32 : as_monthly q y d ≡ 32 → (q ≡ 0) × (y ≡ false) × (d ≡ true)
  unfolding as_monthly
  is_32 z =
      let p = (by_test test refl (eqb q 0 && d) refl).2 z in
      let b = both_true (eqb q 0) d p.1 in
      let none : q ≡ 0 = eqb-true q 0 b.0 in
      (none, by y (rw none at p.0), b.1)
    where
      by : (y : Bool) → (y && (eqb 0 0 || ltb 5 0)) ≡ false → y ≡ false
      by true e = e
      by false e = refl

-- No test before 6 refuses a record whose refusal is 0 or above 5.
module _ (l : Ledger) (bytes : List ℕ) (room : ℕ) where
  abbrev faults : List Fault
  faults = faults_of (sound l) l.n l.kind l.climate l.year bytes room

  pub plain_small : refusal_of l bytes room ≤ 17
  unfolding refusal_of faults_of
  plain_small = first_up_to 17 faults refl

  pub none_ahead : (eqb (refusal_of l bytes room) 0 || ltb 5 (refusal_of l bytes room)) ≡ true → NoneAhead 6 l bytes room
  unfolding refusal_of faults_of
  none_ahead e =
      elim (ℕ_discrete (first_of (ahead 6 faults)) 0) [
        | yes z ↦ z
        | no z ↦
            let same = (parted 6 faults refl).0 z in
            let low = first_up_to 5 (ahead 6 faults) refl in
            absurd (⊎_elim (λ t. z (sym same ∙ eqb-true (first_of faults) 0 t)) (λ t. omega (arith, ltb-true 5 (first_of faults) t, same, low)) (either_true (eqb (first_of faults) 0) (ltb 5 (first_of faults)) e))
      ]

  pub ahead_none : NoneAhead 6 l bytes room → (eqb (refusal_of l bytes room) 0 || ltb 5 (refusal_of l bytes room)) ≡ true
  unfolding refusal_of faults_of
  ahead_none z = rw ((parted 6 faults refl).1 z) (first_over 5 (onward 6 faults) refl)

-- A slot fits where it does not differ.
module _ (totals : List ℕ) (p : ℕ) where
  abbrev n : ℕ
  n = p - 1

  same_slot : differs totals p ≡ differs totals (n + 1)
  unfolding differs
  same_slot = let e : p - 1 + 1 - 1 ≡ p - 1 = omega arith in rw e

  pub fits_is : differs totals p ≡ false → SlotFits totals p
  unfolding is_blank
  fits_is e =
      let e' = sym same_slot ∙ e in
      let a = agreed totals n e' in
      let well = counts_well totals n a in
      record {
        months = omega (arith, a.months);
        x0 = omega (arith, a.x0);
        figure = omega (arith, a.figure);
        bound = omega (arith, a.bound);
        begun = λ some.
            let year = eqb-true (slot_at totals (n / 12)).year (n / 12 + 1) (not-false (eqb (slot_at totals (n / 12)).year (n / 12 + 1)) (sym (differs_some totals n well (λ z. omega (arith, some, z))) ∙ e')) in
            omega (arith, year);
        blank = λ z i h. eqb-true (get_or totals (32 * (n / 12) + i) 0) 0
            (every_at (λ i. eqb (get_or totals (slot_size * (n / 12) + i) 0) 0) slot_size i (omega arith) (not-false (is_blank totals (n / 12)) (sym (differs_none totals n well z) ∙ e')));
      }

  pub is_fit : SlotFits totals p → differs totals p ≡ false
  unfolding is_blank
  is_fit f =
      same_slot
      ∙ elim (ℕ_discrete (n % 12) 0) [
        | yes z ↦ agrees_blank totals n z (every_each (λ i. eqb (get_or totals (slot_size * (n / 12) + i) 0) 0) slot_size (λ i h. eq-eqb (get_or totals (32 * (n / 12) + i) 0) 0 (f.blank (omega (arith, f.months, z)) i (omega arith))))
        | no z ↦
            agrees totals n (record { months = omega (arith, f.months); x0 = omega (arith, f.x0); figure = omega (arith, f.figure); bound = omega (arith, f.bound) }) z
            (let year = f.begun (omega (arith, f.months, z)) in omega (arith, year))
      ]
