-- One more digit is named; past the last all are.
use Rattle.std.proofs.Common.{rules, refl, ◌∙◌}
use Rattle.repair.specs.Digits.{types_named}
use Rattle.repair.proofs.Named.{name_next, all_named}
use Rattle.repair.proofs.arguments.name_types.Goals as goal

pub loop-byte-init : goal.loop-byte-init
unfolding types_named
loop-byte-init c = refl

pub loop-byte-preserved : goal.loop-byte-preserved
loop-byte-preserved c =
    let loop = c.loop-byte in name_next c.args.word.now loop.byte-index (search rules) loop.invariant c.type_of.ensures

pub returns : goal.returns
returns c = c.loop-byte.invariant ∙ all_named c.args.word.now c.loop-byte.byte-index (search rules)
