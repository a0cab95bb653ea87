-- All grams are std's sum of the list, which is small where its entries are light.
use mathlib.Core.Path.{◌≡◌, ◌∙◌}
use native.Mathlib.Omega.{arith}
use Rattle.std.specs.List.{sum}
use Rattle.std.proofs.lemmas.Iterator.{YieldsList-from_slice}
use Rattle.std.proofs.lemmas.Iterator.Consumers.{sum_from_yields_List, fits_from_yields_list}
use Rattle.reductions.proofs.Entries.{light_most, grams_sum}
use Rattle.reductions.proofs.grams.all_grams.Goals as goal

pub sum-requires-clause-fits : goal.sum-requires-clause-fits
sum-requires-clause-fits c =
    let grams = c.args.grams.now in
    fits_from_yields_list c.iter.result _ (YieldsList-from_slice grams (cc)) (omega (arith, grams_sum grams, light_most grams c.requires.0, c.requires.1))

pub returns : goal.returns
returns c =
    let grams = c.args.grams.now in
    let all : c.sum.result ≡ sum grams = sum_from_yields_List c.iter.result _ c.sum.ensures.ran (YieldsList-from_slice grams (cc)) in
    (all ∙ grams_sum grams, omega (arith, all, grams_sum grams, light_most grams c.requires.0, c.requires.1))
