-- An accepted record of a ledger with records has its kind and climate; of a fresh one it is the file's first.
use native.Mathlib.Omega.{arith}
use lib.ListN.{take}
use lib.Seq.{get_or-take}
use Rattle.ledger.proofs.Accepted.{accepted_meets}
use Rattle.run.proofs.run_entries.Goals as goal

pub returns-then-ledger-gt0 : goal.returns-then-ledger-gt0
returns-then-ledger-gt0 c = λ ok.
    let s = c.args in
    let same = (accepted_meets s.ledger (take 48 s.records.now) 48 ok).same (λ z. omega arith) in
    rw (same.0, same.1) c.entries.ensures

pub returns : goal.returns
returns c = λ ok.
    let file = c.args.records.now in
    rw (get_or-take 48 file 2 0 (omega arith), get_or-take 48 file 3 0 (omega arith), ← c.climate.ensures, ← c.kind.ensures) c.entries-2.ensures
