-- The public function of `tunisia`.
use mathlib.Core.Path.{sym, ◌∙◌}
use Rattle.tunisia.proofs.reduction_over.Reads as reduction-over
use Rattle.tunisia.proofs.OneReport.{one_report}
use Rattle.promise_answers.proofs.OneAnswer.{OneAnswer}

pub reduction_over_one : OneAnswer reduction-over.Learnt
reduction_over_one κs a r r' s s' p q = one_report r r' (p.0 ∙ sym q.0)
