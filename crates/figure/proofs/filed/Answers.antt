-- Each number is what its call ensures, and the totals of small numbers fit 64 bits. Where there was no decay work x0 is 0, and no figure is
-- above x0.
use Rattle.std.proofs.Common.{get_or, arith}
use Rattle.record.specs.Fields.{factors_of}
use Rattle.carbon.proofs.Laws.{sum_fits}
use Rattle.figure.proofs.Laws.{figure_most}
use Rattle.figure.proofs.filed.Goals as goal

pub returns : goal.returns
returns c =
    let a = c.args in
    let s = c.requires in
    let most = figure_most (factors_of a.bytes.now) a.x0 s.bytes_value in
    simp (
      c.climate.ensures,
      c.kind.ensures,
      c.total-all.ensures,
      c.bound-bound.ensures,
      c.margins.ensures,
      c.total-left.ensures,
      c.of-factors.ensures,
      sum_fits (λ t. get_or a.stock t 0) (λ t h. (s.by_index t h).1),
      sum_fits (λ t. get_or a.brought t 0) (λ t h. (s.by_index t h).0),
    )
    (grind (arith, most, s.x0_value, c.of-factors.ensures))
