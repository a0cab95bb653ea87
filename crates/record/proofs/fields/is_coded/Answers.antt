-- The four tests, one after the other.
use mathlib.Core.Bool.{and-true}
use Rattle.record.specs.Fields.{zeros_of}
use Rattle.record.specs.Ranges.{coded}
use Rattle.record.proofs.fields.is_coded.Goals as goal

pub returns : goal.returns
unfolding coded zeros_of
returns c =
    simp (
      c.is_kind.ensures,
      c.kind.ensures,
      c.is_climate.ensures,
      c.climate.ensures,
      c.two.ensures,
      c.is_class.ensures,
      c.class.ensures,
      and-true,
    )
