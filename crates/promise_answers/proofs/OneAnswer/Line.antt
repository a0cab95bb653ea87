-- The public functions of `line`.
use Rattle.line.proofs.put.Reads as put
use Rattle.line.proofs.put_number.Reads as put_number
use Rattle.line.proofs.accepted.Reads as accepted
use Rattle.line.proofs.refused.Reads as refused
use Rattle.promise_answers.proofs.OneAnswer.{OneAnswer, Settled, by_equation, ◌&◌, both}

pub put_one : Settled put.Learnt (λ κs r s. r & s.0.now)
put_one = by_equation (λ κs a r s p. both p.ends p.stands)

pub put_number_one : Settled put_number.Learnt (λ κs r s. r & s.0.now)
put_number_one = by_equation (λ κs a r s p. both p.0.ends p.0.stands)

pub accepted_one : OneAnswer accepted.Learnt
accepted_one = by_equation (λ κs a r s p. p.0)

pub refused_one : OneAnswer refused.Learnt
refused_one = by_equation (λ κs a r s p. p.0)
