-- The digits that are put are the number in plain decimal.
use Rattle.std.proofs.Common.{rules, ◌≡◌, ◌∙◌}
use Rattle.line.specs.Line.{decimal_of}
use Rattle.line.proofs.Decimal.{plain_decimal}
use Rattle.line.proofs.text.put_number.Goals as goal

pub returns-clause-writes : goal.returns-clause-writes
returns-clause-writes c =
    let spelt : c.as_bytes.result.now ≡ decimal_of c.args.n
    = c.as_bytes.ensures.value ∙ c.format.ensures.text ∙ plain_decimal c.args.n (search rules) in
    rw spelt at c.put.ensures
