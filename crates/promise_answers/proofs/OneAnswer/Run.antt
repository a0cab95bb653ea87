-- The public functions of `run` and `stretches`.
use mathlib.Core.Path.{sym, ◌∙◌}
use Rattle.run.proofs.run.Reads as run
use Rattle.run.proofs.RunEnd.taken.Reads as taken
use Rattle.stretches.proofs.stretch_end.Reads as stretch-end
use Rattle.stretches.proofs.run_stretch.Reads as run-stretch
use Rattle.stretches.proofs.whole_run.Reads as whole_run
use Rattle.ledger.proofs.Numbers.{one_taken}
use Rattle.run.proofs.Numbers.{one_end}
use Rattle.promise_answers.proofs.OneAnswer.{OneAnswer, Settled, by_equation, ◌&◌, both}

pub run_one : Settled run.Learnt (λ κs r s. r & s.1.1.0.now)
run_one κs a r r' s s' p q = both (one_end r r' (p.0 ∙ sym q.0)) (p.1 ∙ sym q.1)

pub taken_one : OneAnswer taken.Learnt
taken_one κs a r r' s s' p q = one_taken a.1.0 r r' (p ∙ sym q)

pub stretch_end_one : OneAnswer stretch-end.Learnt
stretch_end_one = by_equation (λ κs a r s p. p)

pub run_stretch_one : Settled run-stretch.Learnt (λ κs r s. r & s.1.1.1.0.now)
run_stretch_one κs a r r' s s' p q = both (one_end r r' (p.0 ∙ sym q.0)) (p.1 ∙ sym q.1)

pub whole_run_one : OneAnswer whole_run.Learnt
whole_run_one κs a r r' s s' p q = one_end r r' (p ∙ sym q)
