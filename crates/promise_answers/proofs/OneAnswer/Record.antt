-- The public functions of `record`.
use Rattle.record.proofs.factors.Factors.of.Reads as factors-of
use Rattle.record.proofs.factors.Factors.is_in_range.Reads as is_in_range
use Rattle.record.proofs.is_factor.Reads as is-factor
use Rattle.record.proofs.is_share.Reads as is_share
use Rattle.record.proofs.period.Reads as period
use Rattle.record.proofs.kind.Reads as kind
use Rattle.record.proofs.climate.Reads as climate
use Rattle.record.proofs.factor.Reads as factor
use Rattle.record.proofs.class.Reads as class
use Rattle.record.proofs.captured.Reads as captured
use Rattle.record.proofs.is_coded.Reads as is-coded
use Rattle.record.proofs.is_dry_in_range.Reads as is-dry-in-range
use Rattle.record.proofs.is_light.Reads as is_light
use Rattle.record.proofs.deposit.Reads as deposit
use Rattle.promise_answers.proofs.OneAnswer.{OneAnswer, by_equation}

pub factors_of_one : OneAnswer factors-of.Learnt
factors_of_one = by_equation (λ κs a r s p. p)

pub is_in_range_one : OneAnswer is_in_range.Learnt
is_in_range_one = by_equation (λ κs a r s p. p)

pub is_factor_one : OneAnswer is-factor.Learnt
is_factor_one = by_equation (λ κs a r s p. p)

pub is_share_one : OneAnswer is_share.Learnt
is_share_one = by_equation (λ κs a r s p. p)

pub period_one : OneAnswer period.Learnt
period_one = by_equation (λ κs a r s p. p)

pub kind_one : OneAnswer kind.Learnt
kind_one = by_equation (λ κs a r s p. p)

pub climate_one : OneAnswer climate.Learnt
climate_one = by_equation (λ κs a r s p. p)

pub record_factor_one : OneAnswer factor.Learnt
record_factor_one = by_equation (λ κs a r s p. p)

pub class_one : OneAnswer class.Learnt
class_one = by_equation (λ κs a r s p. p)

pub captured_one : OneAnswer captured.Learnt
captured_one = by_equation (λ κs a r s p. p)

pub is_coded_one : OneAnswer is-coded.Learnt
is_coded_one = by_equation (λ κs a r s p. p)

pub is_dry_in_range_one : OneAnswer is-dry-in-range.Learnt
is_dry_in_range_one = by_equation (λ κs a r s p. p)

pub is_light_one : OneAnswer is_light.Learnt
is_light_one = by_equation (λ κs a r s p. p)

pub deposit_one : OneAnswer deposit.Learnt
deposit_one = by_equation (λ κs a r s p. p)
