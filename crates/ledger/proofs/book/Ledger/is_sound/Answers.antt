-- One test over the types serves a ledger with records and one with none.
use mathlib.Core.Path.{sym}
use Rattle.ledger.specs.Refusal.{within_at}
use Rattle.ledger.proofs.Sound.{sound_tests}
use Rattle.ledger.proofs.book.Ledger.is_sound.Goals as goal

pub returns : goal.returns
unfolding within_at
returns c = rw (c.are_within.ensures, c.has_codes.ensures, c.is_sound-remembers.ensures) (sym (sound_tests _))
