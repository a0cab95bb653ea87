-- The public functions of `output`.
use Rattle.output.proofs.write.Reads as write
use Rattle.promise_answers.proofs.OneAnswer.{Settled, by_equation}

pub write_one : Settled write.Learnt (λ κs r s. s.0.now)
write_one = by_equation (λ κs a r s p. p)
