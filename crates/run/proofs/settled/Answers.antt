-- In a sound ledger what was released is T less R.
use mathlib.Core.Path.{◌≡◌, sym, ◌∙◌}
use mathlib.Core.List.{List}
use Prim.Native.Nat.{ℕ}
use Rattle.ledger.specs.declared.book.Ledger.{Ledger}
use Rattle.ledger.proofs.Sound.{sound_is, gone_is}
use Rattle.run.proofs.settled.Goals.{then-accepted-eq0, else-accepted-eq0}
use Rattle.run.proofs.settled.Goals as goal

-- the same ledger with the same carbon released
again : (l : Ledger) {released : List ℕ} → released ≡ l.released
    → record { n = l.n; kind = l.kind; climate = l.climate; year = l.year; brought = l.brought; stock = l.stock; released = released } ≡ l
again l e = λ i. record { n = l.n; kind = l.kind; climate = l.climate; year = l.year; brought = l.brought; stock = l.stock; released = e i }

pub less-released-requires : goal.less-released-requires
less-released-requires c = λ t place. let s = c in ((sound_is s.args.ledger (s.requires.ledger_value c.if-accepted-eq0.false).0).at t place).kept

pub returns : goal.returns
returns c =
    let s = c in
    elim c.if-accepted-eq0.branch [
      | then-accepted-eq0 w ↦ again s.args.ledger (w.released-is ∙ sym (s.requires.released_value w.if-accepted-eq0.true))
      | else-accepted-eq0 w ↦
          let good = s.requires.ledger_value w.if-accepted-eq0.false in
          again s.args.ledger (w.released-is ∙ w.less-released.ensures ∙ gone_is s.args.ledger good.0 ∙ sym good.1)
    ]
