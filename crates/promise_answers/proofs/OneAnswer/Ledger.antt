-- The public functions of `ledger`.
use mathlib.Core.Path.{sym, ◌∙◌}
use Rattle.ledger.proofs.book.Ledger.fresh.Reads as fresh
use Rattle.ledger.proofs.book.Ledger.is_sound.Reads as is_sound
use Rattle.ledger.proofs.book.Ledger.totals.Reads as totals
use Rattle.ledger.proofs.book.Ledger.enter.Reads as enter
use Rattle.ledger.proofs.book.Ledger.take.Reads as take
use Rattle.ledger.proofs.Numbers.{one_taken, one_totals}
use Rattle.promise_answers.proofs.OneAnswer.{OneAnswer, Settled, by_equation, ◌&◌, both}

pub fresh_one : OneAnswer fresh.Learnt
fresh_one = by_equation (λ κs a r s p. p)

pub is_sound_one : OneAnswer is_sound.Learnt
is_sound_one = by_equation (λ κs a r s p. p)

pub totals_one : OneAnswer totals.Learnt
totals_one κs a r r' s s' p q = one_totals r r' (p ∙ sym q)

pub enter_one : Settled enter.Learnt (λ κs r s. r & s.1.1.1.0.now)
enter_one = by_equation (λ κs a r s p. both p.0 p.1)

pub take_one : Settled take.Learnt (λ κs r s. r & s.1.1.0.now)
take_one κs a r r' s s' p q = both (one_taken a.0 r r' (p.0 ∙ sym q.0)) (p.1 ∙ sym q.1)
