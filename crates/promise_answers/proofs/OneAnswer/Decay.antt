-- The public functions of `decay`.
use Rattle.decay.proofs.entry.Reads as entry
use Rattle.decay.proofs.table_of.Reads as table_of
use Rattle.decay.proofs.at_rate.Reads as at-rate
use Rattle.promise_answers.proofs.OneAnswer.{OneAnswer, by_equation}

pub entry_one : OneAnswer entry.Learnt
entry_one = by_equation (λ κs a r s p. p)

pub table_of_one : OneAnswer table_of.Learnt
table_of_one = by_equation (λ κs a r s p. p)

pub at_rate_one : OneAnswer at-rate.Learnt
at_rate_one = by_equation (λ κs a r s p. p)
