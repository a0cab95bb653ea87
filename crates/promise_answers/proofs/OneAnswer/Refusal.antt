-- The public functions of `refusal`.
use mathlib.Core.Path.{sym, ◌∙◌}
use Rattle.refusal.proofs.early.Reads as early
use Rattle.refusal.proofs.with_masses.Reads as with-masses
use Rattle.refusal.proofs.number_with_masses.Reads as number-with-masses
use Rattle.refusal.proofs.reach.Reads as reach
use Rattle.refusal.proofs.left_over.Reads as left_over
use Rattle.refusal.proofs.why.Refusal.number.Reads as number
use Rattle.refusal.proofs.number_or_zero.Reads as number-or-zero
use Rattle.refusal.proofs.Numbers.{one_refusal}
use Rattle.promise_answers.proofs.OneAnswer.{OneAnswer, by_equation}

pub early_one : OneAnswer early.Learnt
early_one κs a r r' s s' p q = one_refusal r r' (p ∙ sym q)

pub with_masses_one : OneAnswer with-masses.Learnt
with_masses_one κs a r r' s s' p q = one_refusal r r' (p ∙ sym q)

pub number_with_masses_one : OneAnswer number-with-masses.Learnt
number_with_masses_one = by_equation (λ κs a r s p. p)

pub reach_one : OneAnswer reach.Learnt
reach_one = by_equation (λ κs a r s p. p)

pub left_over_one : OneAnswer left_over.Learnt
left_over_one κs a r r' s s' p q = one_refusal r r' (p ∙ sym q)

pub refusal_number_one : OneAnswer number.Learnt
refusal_number_one = by_equation (λ κs a r s p. p)

pub number_or_zero_one : OneAnswer number-or-zero.Learnt
number_or_zero_one = by_equation (λ κs a r s p. p)
