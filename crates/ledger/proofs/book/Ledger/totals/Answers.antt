-- A sound ledger's totals are small.
use mathlib.Core.Path.{sym, ◌∙◌}
use native.Mathlib.Omega.{arith}
use Rattle.carbon.proofs.Laws.{sum_fits}
use Rattle.ledger.specs.Step.{brought_at, stock_at, released_at}
use Rattle.ledger.specs.Take.{total_stock, total_brought, total_released, totals_of}
use Rattle.ledger.proofs.Sound.{sound_is}
use Rattle.ledger.proofs.book.Ledger.totals.Goals as goal

pub returns : goal.returns
unfolding totals_of total_stock total_brought total_released
returns c =
    let test = c in
    let l = test.args.self in
    let good = sym test.is_sound.ensures ∙ test.if-not-is_sound.false in
    let at = (sound_is l good).at in
    simp (
      good,
      c.total-3.ensures,
      c.total-2.ensures,
      c.total.ensures,
      sum_fits (stock_at l) (λ t h. let w = at t h in omega (arith, w.kept, w.small)),
      sum_fits (brought_at l) (λ t h. (at t h).small),
      sum_fits (released_at l) (λ t h. let w = at t h in omega (arith, w.parted, w.small)),
    )

pub returns-then-not-is_sound : goal.returns-then-not-is_sound
unfolding totals_of
returns-then-not-is_sound c = simp (sym c.is_sound.ensures ∙ c.if-not-is_sound.true)
