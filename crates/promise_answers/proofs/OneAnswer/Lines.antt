-- The public functions of `lines`.
use mathlib.Core.Path.{sym, ◌∙◌}
use Rattle.lines.proofs.listing.Reads as listing
use Rattle.lines.proofs.room.NoRoom.number.Reads as number
use Rattle.lines.proofs.OneListing.{one_listing}
use Rattle.promise_answers.proofs.OneAnswer.{OneAnswer, Settled, by_equation, ◌&◌, both}

pub listing_one : Settled listing.Learnt (λ κs r s. r & s.1.0.now)
listing_one κs a r r' s s' p q = both (one_listing r r' p.0 q.0) (p.1.0 ∙ sym q.1.0)

pub number_one : OneAnswer number.Learnt
number_one = by_equation (λ κs a r s p. p)
