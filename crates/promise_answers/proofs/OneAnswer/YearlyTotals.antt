-- The public functions of `year_slots`, `yearly_totals` and `month_calls`: the answer, the buffer of totals and every other lent buffer.
use mathlib.Core.Path.{sym, ◌∙◌}
use Rattle.year_slots.proofs.read.Reads as read-slot
use Rattle.year_slots.proofs.is_other.Reads as is-other
use Rattle.year_slots.proofs.add_months.Reads as add-months
use Rattle.yearly_totals.proofs.run_months.Reads as run-months
use Rattle.yearly_totals.proofs.take_month.Reads as take-month
use Rattle.month_calls.proofs.take.Reads as month-take
use Rattle.month_calls.proofs.run.Reads as month-run
use Rattle.ledger.proofs.Numbers.{one_taken}
use Rattle.run.proofs.Numbers.{one_end}
use Rattle.promise_answers.proofs.OneAnswer.{OneAnswer, Settled, by_equation, ◌&◌, both}

pub read_slot_one : OneAnswer read-slot.Learnt
read_slot_one = by_equation (λ κs a r s p. p.0)

pub is_other_one : OneAnswer is-other.Learnt
is_other_one = by_equation (λ κs a r s p. p)

pub add_months_one : Settled add-months.Learnt (λ κs r s. s.0.now)
add_months_one = by_equation (λ κs a r s p. p)

pub run_months_one : Settled run-months.Learnt (λ κs r s. r & s.1.0.now & s.1.1.1.0.now)
run_months_one κs a r r' s s' p q = both (one_end r r' (p.0 ∙ sym q.0)) (both (p.1.0 ∙ sym q.1.0) (p.1.1 ∙ sym q.1.1))

pub take_month_one : Settled take-month.Learnt (λ κs r s. r & s.1.0.now & s.1.1.1.0.now)
take_month_one κs a r r' s s' p q = both (one_taken _ r r' (p.0 ∙ sym q.0)) (both (p.1.0 ∙ sym q.1.0) (p.1.1 ∙ sym q.1.1))

-- image, totals, record, output and answer
pub month_take_one : Settled month-take.Learnt (λ κs r s. r & s.0.now & s.1.0.now & s.1.1.1.0.now & s.1.1.1.1.0.now)
month_take_one = by_equation (λ κs a r s p. both p.0 (both p.1.0 (both p.1.1.0 (both p.1.1.1.0 p.1.1.1.1))))

-- image, totals, records, output, and the two numbers that are written
pub month_run_one : Settled month-run.Learnt (λ κs r s. r & s.0.now & s.1.0.now & s.1.1.1.0.now & s.1.1.1.1.0.now & s.1.1.1.1.1.0.now)
month_run_one = by_equation (λ κs a r s p. both p.0 (both p.1.0 (both p.1.1.0 (both p.1.1.1.0 (both p.1.1.1.1.0 p.1.1.1.1.1)))))
