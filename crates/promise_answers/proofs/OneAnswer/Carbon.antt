-- The public functions of `carbon`.
use Rattle.carbon.proofs.entries.Reads as type-entries
use Rattle.carbon.proofs.left.Reads as left
use Rattle.carbon.proofs.less.Reads as less
use Rattle.carbon.proofs.are_within.Reads as are-within
use Rattle.carbon.proofs.total.Reads as total
use Rattle.promise_answers.proofs.OneAnswer.{OneAnswer, by_equation}

pub type_entries_one : OneAnswer type-entries.Learnt
type_entries_one = by_equation (λ κs a r s p. p)

pub left_one : OneAnswer left.Learnt
left_one = by_equation (λ κs a r s p. p.0)

pub less_one : OneAnswer less.Learnt
less_one = by_equation (λ κs a r s p. p)

pub are_within_one : OneAnswer are-within.Learnt
are_within_one = by_equation (λ κs a r s p. p)

pub total_one : OneAnswer total.Learnt
total_one = by_equation (λ κs a r s p. p)
