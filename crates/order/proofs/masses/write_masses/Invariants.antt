-- Before place t the first t masses are written, and their bits are set where they are others (Anew.antt).
use Rattle.order.proofs.Anew.{Done}
use Rattle.order.proofs.masses.write_masses.Given as goal

abbrev pub invariant-loop-t : goal.invariant-loop-t
invariant-loop-t l = Done l.«record» l.at l.fn.places l.initial.out l.out l.bits l.t
