-- A run of one record is the step.
use mathlib.Core.Path.{◌∙◌}
use native.Mathlib.Omega.{arith}
use Rattle.ledger.proofs.Take.{refused_by}
use Rattle.run.proofs.OneRecord.{no_record, one_written, one_is, one_released, one_room}
use Rattle.calls.proofs.take_one.Goals as goal

pub returns-then-bytes-ne-BYTES : goal.returns-then-bytes-ne-BYTES
returns-then-bytes-ne-BYTES c =
    let a = c.args in
    let r = refused_by a.ledger a.bytes.now a.out.now 1 (no_record a.ledger a.bytes.now a.out.now c.if-bytes-ne-BYTES.true) (omega arith) in
    record { value = r.0; out_after = r.1 }

pub taken-requires : goal.taken-requires
taken-requires c =
    let a = c.args in
    let e = c.run-end.ensures in
    let size = c.if-bytes-ne-BYTES.false in
    record {
      out_value = λ none. omega (arith, one_room a.ledger a.bytes.now a.out.now size e.value e.out_after none);
      released_value = λ none. one_released a.ledger a.bytes.now a.out.now size e.value e.out_after none;
    }

pub returns : goal.returns
returns c =
    let a = c.args in
    let e = c.run-end.ensures in
    let size = c.if-bytes-ne-BYTES.false in
    record {
      value = c.taken.ensures ∙ one_is a.ledger a.bytes.now a.out.now size e.value e.out_after;
      out_after = e.out_after ∙ one_written a.ledger a.bytes.now a.out.now size;
    }
