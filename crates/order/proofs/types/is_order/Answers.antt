-- Before each byte the set has the types of the bytes passed; eight bytes are an order exactly where all types are seen in them.
use mathlib.Core.Path.{refl, ap, ◌∙◌}
use Prim.Native.Nat.{ℕ}
use native.Mathlib.Omega.{arith}
use borrow.Author.Tests.{ne_eqb}
use lib.Dec.{eqb}
use lib.Seq.{take_all}
use Rattle.order.specs.Order.{eight_bits, times_named, is_order, types_seen}
use Rattle.order.proofs.Named.{seen_more, full_set}
use Rattle.order.proofs.types.is_order.Goals as goal

pub returns-then-order : goal.returns-then-order
unfolding is_order
returns-then-order c = rw (ne_eqb _ 8 c.if-order.true)

pub loop-byte-init : goal.loop-byte-init
unfolding types_seen eight_bits times_named
loop-byte-init c = refl

pub loop-byte-preserved : goal.loop-byte-preserved
loop-byte-preserved c = seen_more c.args.order.now c.loop-byte.byte-index (omega arith) c.loop-byte.invariant c.seen_with-seen.ensures

pub returns : goal.returns
returns c =
    let order = c.args.order.now in
    let seen = rw (take_all c.loop-byte.byte-index order (omega arith)) at c.loop-byte.invariant in
    ap (λ (types : ℕ). eqb types 255) seen ∙ full_set order c.if-order.false
