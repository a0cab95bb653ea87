-- `grams_light` tests each entry as the closure does.
use mathlib.Core.Path.{◌∙◌}
use Rattle.std.proofs.Common.{leb, rules, tests}
use Rattle.std.proofs.lemmas.Iterator.{YieldsList-from_slice}
use Rattle.std.proofs.lemmas.Iterator.Search.{all_from_yields_List}
use Rattle.reductions.specs.Stretch.{most_grams}
use Rattle.reductions.proofs.Entries.{light_all}
use Rattle.reductions.proofs.grams.are_light.Goals as goal

pub returns : goal.returns
returns c =
    let grams = c.args.grams.now in
    all_from_yields_List (λ entry. leb entry most_grams) _ _ _ c.all.ensures.ran (YieldsList-from_slice grams (cc)) (λ x b q k. search (rules, tests))
    ∙ light_all grams
