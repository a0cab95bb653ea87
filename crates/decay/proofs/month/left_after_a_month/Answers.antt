-- The brackets that are still to come, from `left` outwards, give what all of them give.
use Rattle.std.proofs.Common.{◌≡◌, ◌+◌, ◌-◌, refl, sym, ◌∙◌, arith}
use Rattle.decay.specs.ByMonth.{outwards, left_after_month, bracket_of}
use Rattle.decay.proofs.ByMonth.{outwards_next, bracket_within}
use Rattle.decay.proofs.month.left_after_a_month.Goals as goal

pub loop-n-init : goal.loop-n-init
unfolding left_after_month
loop-n-init c = (omega arith, refl)

pub loop-n-preserved : goal.loop-n-preserved
loop-n-preserved c =
    let rate = c.args.rate in
    let at = c.loop-n in
    let this : at.n - 1 + 1 ≡ at.n = omega arith in
    let next : c.bracket-left.result ≡ bracket_of rate at.n at.left = rw this at c.bracket-left.ensures in (
      rw next (bracket_within rate at.n at.left),
      rw next (sym (outwards_next rate at.n at.left (omega arith)) ∙ at.invariant.1),
    )

pub returns : goal.returns
unfolding outwards
returns c = let none : c.loop-n.n ≡ 0 = omega arith in rw none at c.loop-n.invariant.1
