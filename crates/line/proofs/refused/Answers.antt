-- Each word and number is written where the one before it ends.
use mathlib.Core.List.{append_assoc}
use native.Mathlib.Omega.{arith}
use Rattle.line.specs.Line.{line_text, refused_text}
use Rattle.line.proofs.Writing.{write_on, written_line}
use Rattle.line.proofs.refused.Goals as goal

pub returns : goal.returns
unfolding refused_text line_text
returns c =
    let two = write_on c.put-refusal_at.ensures c.number-words_at.ensures.writes in
    let three = write_on two c.put-place_at.ensures in
    let line = written_line (simp append_assoc at (write_on three c.number-len.ensures.writes)) (omega (arith, c.number-words_at.ensures.upper_bound)) in
    record { value = line.0; lendable = line.1 }
