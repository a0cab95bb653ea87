-- The public functions of `calls`.
use Rattle.calls.proofs.write_answer.Reads as write-answer
use Rattle.calls.proofs.room.Reads as room
use Rattle.calls.proofs.keep.Reads as keep
use Rattle.calls.proofs.end_run.Reads as end-run
use Rattle.calls.proofs.take.Reads as call-take
use Rattle.calls.proofs.run.Reads as call-run
use Rattle.ledger.specs.Step.{fresh}
use Rattle.promise_answers.proofs.OneAnswer.{OneAnswer, Settled, by_equation, ◌&◌, both}

pub write_answer_one : Settled write-answer.Learnt (λ κs r s. s.0.now)
write_answer_one = by_equation (λ κs a r s p. p fresh)

pub room_one : OneAnswer room.Learnt
room_one = by_equation (λ κs a r s p. p)

-- image and answer
pub keep_one : Settled keep.Learnt (λ κs r s. r & s.0.now & s.1.0.now)
keep_one = by_equation (λ κs a r s p. both (p.0 fresh) (both (p.1.0 fresh) (p.1.1 fresh)))

-- image, and the two numbers that are written
pub end_run_one : Settled end-run.Learnt (λ κs r s. r & s.0.now & s.1.0.now & s.1.1.0.now)
end_run_one = by_equation (λ κs a r s p. both p.0 (both p.1.0 (both p.1.1.0 p.1.1.1)))

pub call_take_one : Settled call-take.Learnt (λ κs r s. r & s.0.now & s.1.1.0.now & s.1.1.1.0.now)
call_take_one = by_equation (λ κs a r s p. both p.0 (both p.1.0 (both p.1.1.0 p.1.1.1)))

pub call_run_one : Settled call-run.Learnt (λ κs r s. r & s.0.now & s.1.1.0.now & s.1.1.1.0.now & s.1.1.1.1.0.now)
call_run_one = by_equation (λ κs a r s p. both p.0 (both p.1.0 (both p.1.1.0 (both p.1.1.1.0 p.1.1.1.1))))
