-- `MidListing` holds at the head of the loop; each stretch and the end is a law of it.
use Rattle.std.proofs.Common.{◌≡◌, refl, ap, ◌∙◌, Option, Some}
use Rattle.std.specs.Slice.Iter.{chunks_rest}
use Rattle.refusal.specs.Numbers.{numbered}
use Rattle.refusal.specs.declared.why.Refusal.{Refusal}
use Rattle.refusal.proofs.Numbers.{number_some}
use Rattle.lines.proofs.MidListing.{listing_starts, listing_ends, output_stays, lines_fit, stretch_on, refusal_room, stretch_ends}
use Rattle.lines.proofs.by_stretch.write_listing.Goals as goal

-- a refusal has a number that is not 0
some : (why : Refusal) {refusal : Option Refusal} → refusal ≡ Some why → numbered refusal ≡ 0 → ⊥
some why is zero = number_some why (rw is at zero)

pub loop-part-init : goal.loop-part-init
loop-part-init c =
    let its = c.into_iter-part-iterator.ensures.into_iter_gives in
    let chunks = c.chunks-part-items.ensures in
    (rw (its, chunks.rest, c.fresh-ledger.ensures) (listing_starts c.args.file.now c.args.text.now c.requires), rw its chunks.size, refl)

pub put_lines-length-requires : goal.put_lines-length-requires
put_lines-length-requires c =
    let h = c.loop-part.invariant in
    let next = c.in-Some.ensures.steps.1 in
    let ran = c.run-ran.ensures in
    lines_fit h.0 c.in-Some.part.now (chunks_rest c.next.new.self) next.0 h.1 next.1 c.loop-part.out h.2 ran.value ran.out_after

pub put_refusal-requires : goal.put_refusal-requires
put_refusal-requires c =
    let h = c.loop-part.invariant in
    let next = c.in-Some.ensures.steps.1 in
    let ran = c.run-ran.ensures in
    let put = c.put_lines-length.ensures in
    refusal_room h.0 c.in-Some.part.now (chunks_rest c.next.new.self) next.0 h.1 next.1 c.loop-part.out h.2 ran.value ran.out_after put.writes put.upper_bound (some c.in-Some-refusal.why c.in-Some-refusal.is)

pub returns-in-Some-refusal : goal.returns-in-Some-refusal
returns-in-Some-refusal c =
    let h = c.loop-part.invariant in
    let next = c.in-Some.ensures.steps.1 in
    let ran = c.run-ran.ensures in
    let put = c.put_lines-length.ensures in
    let end = c.put_refusal.ensures in
    stretch_ends h.0 c.in-Some.part.now (chunks_rest c.next.new.self) next.0 h.1 next.1 c.loop-part.out h.2 ran.value ran.out_after put.writes put.upper_bound
    (some c.in-Some-refusal.why c.in-Some-refusal.is) (rw c.in-Some-refusal.is end.writes) end.upper_bound

pub loop-part-preserved : goal.loop-part-preserved
loop-part-preserved c =
    let h = c.loop-part.invariant in
    let steps = c.in-Some.ensures.steps in
    let next = steps.1 in
    let ran = c.run-ran.ensures in
    let put = c.put_lines-length.ensures in
    let part = c.in-Some.part.now in
    let rest = chunks_rest c.next.new.self in (
      stretch_on h.0 part rest next.0 h.1 next.1 c.loop-part.out h.2 ran.value ran.out_after put.writes put.upper_bound (ap numbered c.in_default.is),
      steps.0 ∙ h.1,
      output_stays h.0 part rest next.0 h.1 next.1 c.loop-part.out h.2 ran.value ran.out_after,
    )

pub returns : goal.returns
returns c = listing_ends c.loop-part.invariant.0 c.in-None.ensures.steps.1.0
