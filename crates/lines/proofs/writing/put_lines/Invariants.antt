-- The loop has written the lines of the first i output records, none longer than 90 bytes.
use Prim.Native.Nat.{◌+◌, ◌*◌, ◌≤◌}
use Rattle.line.specs.Writing.{Writes}
use Rattle.lines.specs.Outputs.{output_lines}
use Rattle.lines.proofs.writing.put_lines.Given as goal

abbrev pub invariant-loop-i : goal.invariant-loop-i
invariant-loop-i l = (Writes l.initial.text l.at (output_lines l.out l.i) l.text l.end) × (l.end ≤ l.at + 90 * l.i)
