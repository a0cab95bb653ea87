-- P1 to P10 by computing the definitions.
use mathlib.Core.Path.{◌≡◌, refl}
use mathlib.Core.Bool.{true}
use mathlib.Core.List.{map}
use Rattle.numbers.specs.Eight.{all_of}
use Rattle.promise_worked.specs.Worked.{rows, holds, first_record, first_answer}
use Rattle.numbers.specs.Fraction.{power, total}
use Rattle.decay.specs.Series.{factorial, term, E, rounded_down, entry_of}
use Rattle.waste.specs.Waste.{carbon_of, rate_of}
use Rattle.record.specs.Fields
use Rattle.record.specs.Ranges
use Rattle.carbon.specs.Carbon.{entry_at, left_of}
use Rattle.year_factors.specs.YearFactors
use Rattle.refusal.specs.Refusal.{faults_of}
use Rattle.ledger.specs.Refusal
use Rattle.ledger.specs.Step
use Rattle.ledger.specs.Take

pub worked : all_of (map holds rows) ≡ true
unfolding holds first_record first_answer power total factorial term E rounded_down entry_of carbon_of rate_of Fields.factors_of Fields.dry_of Fields.zeros_of Fields.mass_of Fields.deposit_of Ranges.coded Ranges.in_range Ranges.dry_in_range Ranges.light Step.fresh entry_at left_of Step.held Step.new_stock Step.release Step.after YearFactors.year_of YearFactors.no_year YearFactors.shares YearFactors.remembered YearFactors.sound_year Refusal.empty_at Refusal.all_zero Refusal.sound faults_of Refusal.refusal_of Take.accepted_of Take.take_of
worked = refl
