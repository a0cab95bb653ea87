-- The 400 numbers pass the rule's test, so they are the entries.
use Rattle.std.proofs.Common.{refl}
use Rattle.decay.specs.Series.{factorial}
use Rattle.decay.proofs.Rule.{low?, high?, within?, encloses?, yearly_table}
use Rattle.decay.proofs.table.yearly_table.Goals as goal

pub returns : goal.returns
unfolding encloses? within? low? high? factorial
returns c = yearly_table _ tt refl
