-- What is left is at most what was held, and what was held is small.
use mathlib.Core.Path.{◌≡◌, ap, ◌∙◌}
use mathlib.Core.List.{List}
use Prim.Native.Nat.{ℕ, ◌≤◌, ◌<◌}
use native.Mathlib.Omega.{arith}
use lib.ListN.{get_or}
use Rattle.numbers.specs.Eight.{eight}
use Rattle.numbers.proofs.Eight.{eight_at}
use Rattle.record.specs.Fields.{kind_of, climate_of, most_deposit}
use Rattle.record.proofs.Laws.{deposit_most}
use Rattle.carbon.specs.Carbon.{entry_at}
use Rattle.ledger.proofs.Sound.{WithinCeiling}
use Rattle.ledger.proofs.Accepted.{Accepted, accepted_meets}
use Rattle.carbon.proofs.Laws.{entry_small}
use Rattle.ledger.proofs.Settle.{decayed_is}
use Rattle.ledger.proofs.book.Ledger.decay.Goals as goal

-- the entry that was looked up is the type's
entry_here : (bytes entries : List ℕ) (t : ℕ) → t < 8 → entries ≡ eight (entry_at (kind_of bytes) (climate_of bytes)) → get_or entries t 0 ≡ entry_at (kind_of bytes) (climate_of bytes) t
entry_here bytes entries t h e = ap (λ (xs : List ℕ). get_or xs t 0) e ∙ eight_at (entry_at (kind_of bytes) (climate_of bytes)) t h

pub left-left-requires : goal.left-left-requires
left-left-requires c =
    let s = c in
    let bytes = s.args.bytes.now in
    rw (entry_here bytes s.args.entries s.args.t s.requires.record_bytes_value.1 s.requires.entries_value) (entry_small (kind_of bytes) (climate_of bytes) s.args.t)

pub returns : goal.returns
returns c =
    let s = c in
    let bytes = s.args.bytes.now in
    decayed_is s.args.self bytes s.args.t (entry_here bytes s.args.entries s.args.t s.requires.record_bytes_value.1 s.requires.entries_value)
    c.deposit-deposit.ensures c.left-left.ensures.0 c.decay_work.ensures

pub overflow_add-held : goal.overflow_add-held
overflow_add-held c =
    let taken : Accepted c.args.self c.args.bytes.now = accepted_meets c.args.self c.args.bytes.now 48 c.requires.record_bytes_value.0 in
    let within : WithinCeiling c.args.self c.args.t = taken.ledger.at c.args.t c.requires.record_bytes_value.1 in
    let brings : c.deposit-deposit.result ≤ most_deposit = let s = c in
    rw c.deposit-deposit.ensures (deposit_most s.args.bytes.now s.args.t (taken.light_each s.args.t s.requires.record_bytes_value.1) taken.dry) in
    let w = within in omega (arith, w.kept, w.small, brings)

pub overflow_add-result : goal.overflow_add-result
overflow_add-result c =
    let taken : Accepted c.args.self c.args.bytes.now = accepted_meets c.args.self c.args.bytes.now 48 c.requires.record_bytes_value.0 in
    let within : WithinCeiling c.args.self c.args.t = taken.ledger.at c.args.t c.requires.record_bytes_value.1 in
    let brings : c.deposit-deposit.result ≤ most_deposit = let s = c in
    rw c.deposit-deposit.ensures (deposit_most s.args.bytes.now s.args.t (taken.light_each s.args.t s.requires.record_bytes_value.1) taken.dry) in
    let w = within in omega (arith, w.small, brings)
