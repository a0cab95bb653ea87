-- The public functions of `reductions`.
use mathlib.Core.Path.{sym, ◌∙◌}
use Rattle.reductions.proofs.with_year.Reads as with-year
use Rattle.reductions.proofs.all_grams.Reads as all-grams
use Rattle.reductions.proofs.grams.Stretch.contains.Reads as contains
use Rattle.reductions.proofs.grams.Stretch.check.Reads as check
use Rattle.reductions.proofs.grams.StretchRefusal.number.Reads as number
use Rattle.reductions.proofs.less_all.Reads as less-all
use Rattle.reductions.proofs.Refusals.{one_refusal}
use Rattle.promise_answers.proofs.OneAnswer.{OneAnswer, by_equation}

pub with_year_one : OneAnswer with-year.Learnt
with_year_one = by_equation (λ κs a r s p. p)

pub all_grams_one : OneAnswer all-grams.Learnt
all_grams_one = by_equation (λ κs a r s p. p.0)

pub contains_one : OneAnswer contains.Learnt
contains_one = by_equation (λ κs a r s p. p)

pub stretch_refusal_one : OneAnswer check.Learnt
stretch_refusal_one κs a r r' s s' p q = one_refusal r r' (p ∙ sym q)

pub number_one : OneAnswer number.Learnt
number_one = by_equation (λ κs a r s p. p)

pub less_all_one : OneAnswer less-all.Learnt
less_all_one = by_equation (λ κs a r s p. p)
