-- The slot's five numbers decide: a blank slot is one whose numbers are all 0.
use mathlib.Core.Path.{◌≡◌, sym, ap, ◌∙◌}
use mathlib.Core.Bool.{false, not}
use Prim.Native.Nat.{◌/◌}
use Rattle.year_slots.specs.Slots.{is_blank}
use Rattle.year_slots.proofs.Slots.{counts, blank_is, differs_counts, differs_none, differs_some}
use Rattle.year_slots.proofs.is_other.Goals as goal

pub returns-then-slot-n : goal.returns-then-slot-n
returns-then-slot-n c =
    let s = c.args in
    sym (differs_counts s.totals.now s.n (rw (← c.read-slot.ensures.0, ← c.is_above.ensures) c.if-slot-n.true))

pub returns-then-slot-eq0 : goal.returns-then-slot-eq0
returns-then-slot-eq0 c =
    let s = c.args in
    let read = c.read-slot.ensures.0 in
    let blank = c.default.ensures in
    let counted : counts s.totals.now s.n ≡ false = rw (← read, ← c.is_above.ensures) c.if-slot-n.false in
    let same : c.ne.result ≡ not (is_blank s.totals.now (s.n / 12))
    = c.ne.ensures ∙ rw (blank.0, blank.1.0, blank.1.1.0, blank.1.1.1.0, blank.1.1.1.1, read) (ap not (sym (blank_is s.totals.now (s.n / 12)))) in
    same ∙ sym (differs_none s.totals.now s.n counted (rw read at c.if-slot-eq0.true))

pub returns : goal.returns
returns c =
    let s = c.args in
    let read = c.read-slot.ensures.0 in
    let counted : counts s.totals.now s.n ≡ false = rw (← read, ← c.is_above.ensures) c.if-slot-n.false in
    rw read (sym (differs_some s.totals.now s.n counted (rw read at c.if-slot-eq0.false)))
