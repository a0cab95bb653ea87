-- The public functions of `year_factors`.
use Rattle.year_factors.proofs.YearFactors.none.Reads as none
use Rattle.year_factors.proofs.YearFactors.of.Reads as year-of
use Rattle.year_factors.proofs.YearFactors.is_shared.Reads as is_shared
use Rattle.year_factors.proofs.YearFactors.after.Reads as after
use Rattle.year_factors.proofs.YearFactors.is_sound.Reads as year-is-sound
use Rattle.promise_answers.proofs.OneAnswer.{OneAnswer, by_equation}

pub none_one : OneAnswer none.Learnt
none_one = by_equation (λ κs a r s p. p)

pub year_of_one : OneAnswer year-of.Learnt
year_of_one = by_equation (λ κs a r s p. p)

pub is_shared_one : OneAnswer is_shared.Learnt
is_shared_one = by_equation (λ κs a r s p. p)

pub after_one : OneAnswer after.Learnt
after_one = by_equation (λ κs a r s p. p)

pub year_is_sound_one : OneAnswer year-is-sound.Learnt
year_is_sound_one = by_equation (λ κs a r s p. p)
