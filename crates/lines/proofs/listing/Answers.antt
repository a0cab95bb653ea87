-- With room the listing is written; without, the text stays.
use mathlib.Core.Path.{◌≡◌}
use Prim.Native.Nat.{◌*◌, ◌≤◌}
use native.Mathlib.Omega.{arith}
use lib.ListN.{length}
use Rattle.run.proofs.History.{records_count}
use Rattle.line.specs.Line.{line_bytes}
use Rattle.lines.specs.Listing.{room_for}
use Rattle.lines.proofs.MidListing.{text_too_short, whole_text}
use Rattle.lines.proofs.listing.Goals as goal

pub overflow_mul-most_lines : goal.overflow_mul-most_lines
overflow_mul-most_lines c = omega (arith, c.most_lines.ensures.1)

pub returns-then-text-most_lines : goal.returns-then-text-most_lines
unfolding room_for
returns-then-text-most_lines c =
    let room-is : line_bytes * c.most_lines.result ≡ room_for c.args.file.now = rw (c.most_lines.ensures.0, records_count c.args.file.now) in
    let is = text_too_short c.args.file.now c.args.text.now (rw (← room-is) c.if-text-most_lines.true) in
    record { value = is.0; text_after = is.1.0; lendable_text = is.1.1 }

pub write_listing-requires : goal.write_listing-requires
unfolding room_for
write_listing-requires c =
    let room-is : line_bytes * c.most_lines.result ≡ room_for c.args.file.now = rw (c.most_lines.ensures.0, records_count c.args.file.now) in
    let enough : room_for c.args.file.now ≤ length c.args.text.now = rw (← room-is) c.if-text-most_lines.false in
    enough

pub returns : goal.returns
unfolding room_for
returns c =
    let room-is : line_bytes * c.most_lines.result ≡ room_for c.args.file.now = rw (c.most_lines.ensures.0, records_count c.args.file.now) in
    let enough : room_for c.args.file.now ≤ length c.args.text.now = rw (← room-is) c.if-text-most_lines.false in
    let is = whole_text c.args.file.now c.args.text.now enough c.write_listing.ensures in
    record { value = is.0; text_after = is.1.0; lendable_text = is.1.1 }
