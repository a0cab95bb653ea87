-- The slot that was read, with one month more.
use mathlib.Core.Path.{◌≡◌, ◌∙◌}
use mathlib.Core.List.{List}
use Prim.Native.Nat.{ℕ, ◌+◌, ◌-◌, ◌/◌}
use native.Mathlib.Omega.{arith}
use Rattle.year_slots.specs.Slots.{slot_of, slot_at, added_to, with_month}
use Rattle.year_slots.specs.Months.{MonthFits}
use Rattle.year_slots.specs.declared.Slot.{Slot}
use Rattle.year_slots.proofs.add.Goals as goal

-- what is asked of the slot holds of what was read
fits : (totals out : List ℕ) (n : ℕ) {slot : Slot} → slot ≡ slot_at totals (n / 12) → MonthFits (slot_at totals (slot_of (n + 1))) out → MonthFits slot out
fits totals out n read asked =
    let e : n + 1 - 1 ≡ n = omega arith in
    rw read (rw e at asked)

pub returns : goal.returns
unfolding added_to with_month
returns c =
    let e : c.args.n + 1 - 1 ≡ c.args.n = omega arith in
    c.write.ensures
    ∙ rw (e, c.read-slot.ensures.0, c.read-3.ensures.0, c.read-2.ensures.0, c.read.ensures.0)

pub overflow_add-more-3 : goal.overflow_add-more-3
overflow_add-more-3 c = omega (arith, (fits _ _ _ c.read-slot.ensures.0 c.requires.month_fits).x0, c.read.ensures.0)

pub overflow_add-more-4 : goal.overflow_add-more-4
overflow_add-more-4 c = omega (arith, (fits _ _ _ c.read-slot.ensures.0 c.requires.month_fits).figure, c.read-2.ensures.0)

pub overflow_add-more-5 : goal.overflow_add-more-5
overflow_add-more-5 c = omega (arith, (fits _ _ _ c.read-slot.ensures.0 c.requires.month_fits).bound, c.read-3.ensures.0)
