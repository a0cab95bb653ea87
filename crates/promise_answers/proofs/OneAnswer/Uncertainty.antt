-- The public functions of `uncertainty`.
use Rattle.uncertainty.proofs.FactorRefusal.number.Reads as number
use Rattle.uncertainty.proofs.Uncertainties.by_percentages.Reads as by-percentages
use Rattle.uncertainty.proofs.Uncertainties.by_codes.Reads as by_codes
use Rattle.uncertainty.proofs.Answer.{one_factor}
use Rattle.promise_answers.proofs.OneAnswer.{OneAnswer, by_equation}

pub number_one : OneAnswer number.Learnt
number_one = by_equation (λ κs a r s p. p)

pub by_percentages_one : OneAnswer by-percentages.Learnt
by_percentages_one κs a r r' s s' p q = one_factor _ r r' p q

pub by_codes_one : OneAnswer by_codes.Learnt
by_codes_one κs a r r' s s' p q = one_factor _ r r' p q
