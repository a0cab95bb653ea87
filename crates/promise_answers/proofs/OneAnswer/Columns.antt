-- The public functions of `columns`: the answer, all nine columns and the references to those of the types, which stay, so that the columns are
-- the caller's own buffers; and the number of a refusal.
use mathlib.Core.Path.{sym, ◌∙◌}
use Rattle.releases.specs.Columns.{references}
use Rattle.columns.specs.Lent.{lent}
use Rattle.columns.proofs.OneFilled.{one_filled}
use Rattle.columns.proofs.fill.Reads as fill
use Rattle.columns.proofs.refused.ColumnsRefusal.number.Reads as number
use Rattle.promise_answers.proofs.OneAnswer.{Settled, OneAnswer, by_equation, ◌&◌, both}

pub fill_one : Settled fill.Learnt (λ κs r s. r & lent s.1.0.now s.1.1.0.now & references s.1.0.now)
fill_one κs a r r' s s' p q = both (one_filled r r' (p.0 ∙ sym q.0)) (both (p.1.1 ∙ sym q.1.1) (p.1.0 ∙ sym q.1.0))

pub number_one : OneAnswer number.Learnt
number_one = by_equation (λ κs a r s p. p)
