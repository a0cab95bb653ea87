-- A mass is another than the one there, and its bit is set, or it is the same; after the last the bits are the record's byte.
use mathlib.Core.Path.{◌≡◌}
use native.Mathlib.Omega.{arith}
use Rattle.order.specs.Order.{eight_bits}
use Rattle.order.proofs.Anew.{other_done, same_done}
use Rattle.order.proofs.masses.write_masses.Goals as goal
use Rattle.order.proofs.masses.write_masses.Goals.{then-mass-mass_at, else-mass-mass_at}

pub loop-t-preserved : goal.loop-t-preserved
loop-t-preserved c =
    let a = c.args in
    let comes = c.mass_at-mass.ensures in
    let was = c.mass_at.ensures in
    let wrote = c.write.ensures in
    elim c.if-mass-mass_at.branch [
      | then-mass-mass_at w ↦ other_done a.«record».now a.at a.places c.requires.0 (λ i. (c.type_inv.«record» i).fits) c.requires.2 a.out.now c.loop-t-test.true c.loop-t.invariant comes was wrote w.if-mass-mass_at.true w.bits-is
      | else-mass-mass_at w ↦ same_done a.«record».now a.at a.places c.requires.0 (λ i. (c.type_inv.«record» i).fits) c.requires.2 a.out.now c.loop-t-test.true c.loop-t.invariant comes was wrote w.if-mass-mass_at.false w.bits-is
    ]

pub returns-clause-value : goal.returns-clause-value
unfolding eight_bits
returns-clause-value c =
    let all : c.loop-t.t ≡ 8 = omega arith in
    rw all at c.loop-t.invariant.2
