-- `MidWhole` holds at the head of the loop; each stretch and the end is a law of it.
use Rattle.std.proofs.Common.{◌≡◌, length}
use Rattle.std.specs.Slice.Iter.{chunks_rest, chunks_size}
use Rattle.stretches.specs.Stretches.{stretch_bytes}
use Rattle.stretches.proofs.Stretches.{MidWhole}
use Rattle.stretches.proofs.whole_run.Given as goal

abbrev pub invariant-loop-part : goal.invariant-loop-part
invariant-loop-part l =
    MidWhole l.file l.ledger (chunks_rest l.part-iterator) 0 l.work
    × (chunks_size l.part-iterator ≡ stretch_bytes)
    × (length l.out ≡ stretch_bytes)
