-- Before a place the loop has counted the types that brought something in, and added the shares, of the types before it.
use mathlib.Core.Path.{◌≡◌}
use Prim.Native.Nat.{◌+◌, ◌*◌, ◌^◌, ◌≤◌}
use lib.ListN.{get_or}
use Rattle.numbers.specs.Eight.{sum_of}
use Rattle.figure.specs.Figure.{margin_of}
use Rattle.figure.proofs.margins.Given as goal

abbrev pub invariant-loop-of_type : goal.invariant-loop-of_type
invariant-loop-of_type l = (l.types * (l.n + 1) + l.shares ≡ sum_of (λ u. margin_of l.n (get_or l.of_type-items u 0)) l.of_type-index) × (l.types ≤ l.of_type-index) × (l.shares ≤ l.of_type-index * 2 ^ 51)
