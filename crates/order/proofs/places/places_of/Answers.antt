-- Before place p each place passed stands at its type; no two places have one type, so none is lost.
use mathlib.Core.Path.{◌≡◌, ◌∙◌}
use mathlib.Core.Bool.{true}
use mathlib.Core.List.{List}
use mathlib.Core.Logic.{⊎_elim}
use Prim.Native.Nat.{ℕ, suc, ◌+◌, ◌-◌, ◌<◌}
use native.Mathlib.Nat.{eq-or-lt_of_le, le_of_suc-le-suc}
use native.Mathlib.Omega.{arith}
use lib.ListN.{length, get_or, set, length-set}
use lib.Seq.{get_or-set_same, get_or-set_other}
use Rattle.order.specs.Order.{is_order}
use Rattle.order.proofs.Named.{eight_bytes, type_at, apart, places_are}
use Rattle.order.proofs.places.places_of.Invariants.{Placed}
use Rattle.order.proofs.places.places_of.Goals as goal

placed-more : (order : List ℕ) → is_order order ≡ true → (places : List ℕ) (p : ℕ) → p < 8 → length places ≡ 8 → Placed order places p
    → Placed order (set places (get_or order p 0 - 1) p) (p + 1)
placed-more order ok places p l size before q m =
    let here = type_at order ok p l in
    ⊎_elim
    (λ e. rw e (get_or-set_same places (get_or order p 0 - 1) p 0 (omega (arith, here.0, here.1))))
    (λ lt. let there = type_at order ok q (omega arith) in
    let differ : get_or order q 0 - 1 ≡ get_or order p 0 - 1 → ⊥ = λ e. apart order ok q p (omega arith) l (λ same. omega arith) (omega (arith, here.0, there.0)) in
    get_or-set_other places (get_or order p 0 - 1) (get_or order q 0 - 1) p 0 differ ∙ before q lt)
    (eq-or-lt_of_le (le_of_suc-le-suc (rw-add m)))
  where
    rw-add : q < p + 1 → q < suc p
    rw-add h = omega arith

pub overflow_sub-places : goal.overflow_sub-places
overflow_sub-places c = (type_at c.args.order.now c.requires c.loop-p.p (omega (arith, eight_bytes c.args.order.now c.requires))).0

pub bounds-places-byte : goal.bounds-places-byte
bounds-places-byte c =
    let here = type_at c.args.order.now c.requires c.loop-p.p (omega (arith, eight_bytes c.args.order.now c.requires)) in
    omega (arith, here.0, here.1)

pub loop-p-preserved : goal.loop-p-preserved
loop-p-preserved c =
    let order = c.args.order.now in
    let within : c.loop-p.p < 8 = omega (arith, eight_bytes order c.requires) in
    let loop = c.loop-p in (
      length-set loop.places (get_or order loop.p 0 - 1) loop.p ∙ loop.invariant.0,
      placed-more order c.requires loop.places loop.p within loop.invariant.0 loop.invariant.1,
    )

pub returns : goal.returns
returns c =
    let order = c.args.order.now in
    let loop = c.loop-p in
    places_are order c.requires loop.places loop.invariant.0 (λ p l. loop.invariant.1 p (omega (arith, eight_bytes order c.requires)))
