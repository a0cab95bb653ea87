-- Before each byte the set has the types of the bytes passed; eight bytes are an order exactly where all types are seen in them.
use mathlib.Core.Path.{◌≡◌}
use lib.ListN.{take}
use Rattle.order.specs.Order.{types_seen}
use Rattle.order.proofs.types.is_order.Given as goal

abbrev pub invariant-loop-byte : goal.invariant-loop-byte
invariant-loop-byte l = l.seen ≡ types_seen (take l.byte-index l.order)
