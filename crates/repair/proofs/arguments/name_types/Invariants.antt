-- The types of the digits passed stand in their places.
use Rattle.std.proofs.Common.{◌≡◌}
use Rattle.repair.proofs.Named.{named_to}
use Rattle.repair.proofs.arguments.name_types.Given as goal

abbrev pub invariant-loop-byte : goal.invariant-loop-byte
invariant-loop-byte l = l.word ≡ named_to l.byte-index l.initial.word
