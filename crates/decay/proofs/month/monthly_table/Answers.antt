-- Eight times fifty entries, each fifty where the ones before end, fill the table.
use Rattle.std.proofs.Common.{refl, ◌∙◌}
use Rattle.decay.specs.ByMonth.{filled_to}
use Rattle.decay.proofs.ByMonth.{filled_whole}
use Rattle.decay.proofs.month.monthly_table.Goals as goal

pub fill_fifty-requires-clause-table_value : goal.fill_fifty-requires-clause-table_value
unfolding filled_to
fill_fifty-requires-clause-table_value c = refl

pub returns : goal.returns
returns c = c.fill_fifty-8.ensures ∙ filled_whole
