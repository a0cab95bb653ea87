-- The public functions of `samples`.
use Rattle.samples.proofs.masses.Reads as masses
use Rattle.samples.proofs.SamplesRefusal.number.Reads as number
use Rattle.samples.proofs.Answer.{one_sorted}
use Rattle.promise_answers.proofs.OneAnswer.{OneAnswer, by_equation}

pub masses_one : OneAnswer masses.Learnt
masses_one κs a r r' s s' p q = one_sorted _ r r' p q

pub number_one : OneAnswer number.Learnt
number_one = by_equation (λ κs a r s p. p)
