-- Before sample n the loop has added the n samples before it, the sum of the last of them tells whether all add up, and the rest are still to come.
use mathlib.Core.Path.{◌≡◌}
use Prim.Native.Nat.{◌*◌, ◌≤◌}
use lib.Dec.{eqb}
use lib.ListN.{length, drop}
use Rattle.std.specs.Slice.Iter.{chunks_exact_rest, chunks_exact_size}
use Rattle.numbers.specs.Eight.{eight, every_of}
use Rattle.samples.specs.Samples.{sample_bytes, whole_sample, adds_up}
use Rattle.samples.proofs.Laws.{of_place}
use Rattle.samples.proofs.add_samples.Given as goal

abbrev pub invariant-loop-sample : goal.invariant-loop-sample
invariant-loop-sample l = (chunks_exact_size l.sample-iterator ≡ sample_bytes)
    × (chunks_exact_rest l.sample-iterator ≡ drop (sample_bytes * length l.yielded) l.samples)
    × (sample_bytes * length l.yielded ≤ length l.samples)
    × (l.added ≡ eight (of_place l.samples (length l.yielded)))
    × (eqb l.sum whole_sample ≡ every_of (adds_up l.samples) (length l.yielded))
