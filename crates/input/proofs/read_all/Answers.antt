-- What is read comes after what was read before.
use Rattle.std.proofs.Common.{rules}
use Rattle.input.proofs.Reading.{read_more, read_none}
use Rattle.input.proofs.read_all.Goals as goal
use Rattle.input.proofs.read_all.Goals.{in-Ok, in-Err}

pub loop-preserved : goal.loop-preserved
loop-preserved g c =
    let loop = c.loop in
    elim c.match-read.branch [
      | in-Ok w ↦ (
        search rules,
        search rules,
        rw w.length-is (read_more _ _ _ loop.file c.read.new.buf _ loop.length (search rules) loop.invariant.2 w.in-Ok.got (search rules) (w.in-Ok.ensures.bytes.0)),
      )
      | in-Err w ↦ (
        search rules,
        search rules,
        rw w.length-is (read_none _ _ _ loop.file c.read.new.buf _ loop.length (search rules) loop.invariant.2 w.in-Err.ensures.bytes),
      )
    ]
