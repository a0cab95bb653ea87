-- The public functions of `image`.
use Rattle.image.proofs.read.Reads as read
use Rattle.image.proofs.write.Reads as write-image
use Rattle.promise_answers.proofs.OneAnswer.{OneAnswer, Settled, by_equation}

pub read_one : OneAnswer read.Learnt
read_one = by_equation (λ κs a r s p. p)

pub write_image_one : Settled write-image.Learnt (λ κs r s. s.0.now)
write_image_one = by_equation (λ κs a r s p. p)
