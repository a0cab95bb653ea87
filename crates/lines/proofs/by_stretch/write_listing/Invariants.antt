-- `MidListing` holds at the head of the loop; each stretch and the end is a law of it.
use Rattle.std.proofs.Common.{◌≡◌, length}
use Rattle.std.specs.Slice.Iter.{chunks_rest, chunks_size}
use Rattle.stretches.specs.Stretches.{stretch_bytes}
use Rattle.lines.proofs.MidListing.{MidListing}
use Rattle.lines.proofs.by_stretch.write_listing.Given as goal

abbrev pub invariant-loop-part : goal.invariant-loop-part
invariant-loop-part l =
    MidListing l.file l.initial.text l.text l.ledger (chunks_rest l.part-iterator) l.length
    × (chunks_size l.part-iterator ≡ stretch_bytes)
    × (length l.out ≡ stretch_bytes)
