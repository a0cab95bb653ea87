-- The next place is written where its bit is set; the places of all eight bits are those of the line.
use Rattle.std.proofs.Common.{arith, ◌≡◌}
use Rattle.changes.specs.Report.{places_text}
use Rattle.changes.proofs.Text.{set_place, clear_place}
use Rattle.changes.proofs.put_places.Goals as goal

pub loop-t-preserved : goal.loop-t-preserved
loop-t-preserved c =
    let bits = c.args.bits in
    let t = c.loop-t.t in
    let so_far = c.loop-t.invariant.1 in
    grind (arith, set_place bits t so_far, clear_place bits t so_far)

pub returns-clause-writes : goal.returns-clause-writes
unfolding places_text
returns-clause-writes c = let all : c.loop-t.t ≡ 8 = omega arith in rw all at c.loop-t.invariant.1
