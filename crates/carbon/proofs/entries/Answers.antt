-- The table of the kind, asked for the types' rates in the climate.
use Rattle.std.proofs.Common.{◌≡◌, ℕ, ◌+◌, List, ap, ◌∙◌}
use Rattle.numbers.specs.Eight.{eight}
use Rattle.decay.specs.Series.{table_of, at_rate}
use Rattle.decay.proofs.Rule.{looked_up}
use Rattle.waste.specs.Waste.{rate_of}
use Rattle.carbon.specs.Carbon.{entry_at}
use Rattle.carbon.proofs.entries.Goals as goal

all_looked_up : (kind climate : ℕ) → eight (λ t. at_rate (table_of kind) (rate_of (t + 1) climate)) ≡ eight (entry_at kind climate)
unfolding entry_at
all_looked_up kind climate = λ i. eight (λ t. looked_up kind (rate_of (t + 1) climate) i)

pub returns : goal.returns
returns c =
    let a = c.args in
    c.in_climate.ensures ∙ ap (λ (table : List ℕ). eight (λ t. at_rate table (rate_of (t + 1) a.climate))) c.table_of-table.ensures ∙ all_looked_up a.kind a.climate
