-- Each factor at its place.
use Rattle.record.specs.Fields.{factors_of}
use Rattle.record.proofs.factors.Factors.of.Goals as goal

pub returns : goal.returns
unfolding factors_of
returns c =
    rw (c.two.ensures, c.byte-6.ensures, c.byte-5.ensures, c.byte-4.ensures, c.byte-3.ensures, c.byte-2.ensures, c.byte.ensures)
