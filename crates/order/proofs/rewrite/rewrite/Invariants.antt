-- Before record q the first q records are written, with their bytes of the report, and their bits are counted; the rest is still to come.
use mathlib.Core.Path.{◌≡◌}
use mathlib.Core.Bool.{Bool}
use mathlib.Core.List.{List, [], ◌∷◌}
use Prim.Native.Nat.{ℕ, ◌*◌, ◌≤◌}
use lib.ListN.{length, drop, get_or}
use lib.Seq.{sets}
use Rattle.std.specs.Iterator.Adapters.{enumerate_source, enumerate_count}
use Rattle.std.specs.Slice.Iter.{chunks_exact_rest, chunks_exact_size}
use Rattle.numbers.specs.Eight.{one, sum_of}
use Rattle.numbers.specs.Lists.{joined}
use Rattle.order.specs.Order.{eight_bits}
use Rattle.order.specs.Repair.{rewritten, is_other, record_in}
use Rattle.order.proofs.rewrite.rewrite.Given as goal

module _ (file places : List ℕ) where
  abbrev pub other : ℕ → ℕ → Bool
  other q = is_other (λ u. get_or places u 0) (record_in file q)

  abbrev pub anew : ℕ → List ℕ
  anew q = rewritten (λ u. get_or places u 0) (record_in file q)

  abbrev pub byte : ℕ → List ℕ
  byte q = eight_bits (other q) ∷ []

  abbrev pub bits : ℕ → ℕ
  bits q = sum_of (λ t. one (other q t)) 8

abbrev pub invariant-loop-q : goal.invariant-loop-q
invariant-loop-q l =
    let q = enumerate_count l.q-iterator in
    (chunks_exact_size (enumerate_source l.q-iterator) ≡ 48)
    × (chunks_exact_rest (enumerate_source l.q-iterator) ≡ drop (48 * q) l.file)
    × (48 * q ≤ length l.file)
    × (l.out ≡ sets l.initial.out 0 (joined (anew l.file l.places) q))
    × (l.report ≡ sets l.initial.report 0 (joined (byte l.file l.places) q))
    × (l.changed ≡ sum_of (bits l.file l.places) q)
    × (length l.out ≡ length l.initial.out)
    × (length l.report ≡ length l.initial.report)
