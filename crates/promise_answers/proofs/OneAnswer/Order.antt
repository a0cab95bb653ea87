-- The public functions of `order`.
use mathlib.Core.Path.{sym, ◌∙◌}
use Rattle.order.proofs.RepairRefusal.number.Reads as number
use Rattle.order.proofs.repair.Reads as repair
use Rattle.order.proofs.Answer.{one_repaired}
use Rattle.promise_answers.proofs.OneAnswer.{OneAnswer, Settled, by_equation, ◌&◌, both}

pub number_one : OneAnswer number.Learnt
number_one = by_equation (λ κs a r s p. p)

pub repair_one : Settled repair.Learnt (λ κs r s. r & s.1.1.0.now & s.1.1.1.0.now)
repair_one κs a r r' s s' p q = both (one_repaired _ r r' p.0 q.0) (both (p.1.0 ∙ sym q.1.0) (p.1.1 ∙ sym q.1.1))
