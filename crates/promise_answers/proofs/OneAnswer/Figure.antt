-- The public functions of `figure`.
use Rattle.figure.proofs.figure.Reads as figure
use Rattle.figure.proofs.margins.Reads as margins
use Rattle.figure.proofs.bound.Reads as bound
use Rattle.figure.proofs.filed.Reads as filed
use Rattle.promise_answers.proofs.OneAnswer.{OneAnswer, by_equation}

pub figure_one : OneAnswer figure.Learnt
figure_one = by_equation (λ κs a r s p. p)

pub margins_one : OneAnswer margins.Learnt
margins_one = by_equation (λ κs a r s p. p)

pub bound_one : OneAnswer bound.Learnt
bound_one = by_equation (λ κs a r s p. p)

pub filed_one : OneAnswer filed.Learnt
filed_one = by_equation (λ κs a r s p. p)
