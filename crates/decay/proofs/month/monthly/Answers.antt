-- What is left of the whole, in billionths, is the entry; any other rate has none.
use Rattle.std.proofs.Common.{◌≡◌, ℕ, ◌/◌, ap, ◌∙◌, arith}
use Rattle.std.proofs.lemmas.Bool.Decides.{nat_tests}
use Rattle.decay.specs.Series.{entry_of}
use Rattle.decay.specs.ByMonth.{per_billionth}
use Rattle.decay.proofs.Rule.{entry_below}
use Rattle.decay.proofs.ByMonth.{worked_out}
use Rattle.decay.proofs.month.monthly.Goals as goal

pub returns-in_default : goal.returns-in_default
unfolding entry_of
returns-in_default c = grind (arith, nat_tests)

pub returns-in_default-2 : goal.returns-in_default-2
unfolding entry_of
returns-in_default-2 c = grind (arith, nat_tests)

pub overflow_cast-result : goal.overflow_cast-result
overflow_cast-result c =
    let is : c.left_after_a_month.result / per_billionth ≡ entry_of 2 c.args.rate =
    ap (λ (left : ℕ). left / per_billionth) c.left_after_a_month.ensures ∙ worked_out c.args.rate (omega arith) (omega arith) in
    omega (arith, is, entry_below 2 c.args.rate)

pub returns-in-1-to-400 : goal.returns-in-1-to-400
returns-in-1-to-400 c =
    ap (λ (left : ℕ). left / per_billionth) c.left_after_a_month.ensures ∙ worked_out c.args.rate (omega arith) (omega arith)
