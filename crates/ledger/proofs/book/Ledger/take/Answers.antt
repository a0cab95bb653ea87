-- The first fault decides; an accepted record is entered with the entries of its own kind and climate, and its releases are what was
-- released since.
use mathlib.Core.Path.{◌≡◌, sym, ◌∙◌}
use mathlib.Core.List.{List}
use Prim.Native.Nat.{ℕ, ◌-◌}
use native.Mathlib.Omega.{arith}
use lib.ListN.{length, get_or}
use Rattle.numbers.specs.Eight.{eight}
use Rattle.refusal.specs.Numbers.{number_of}
use Rattle.refusal.proofs.Laws.{first_with_masses}
use Rattle.refusal.proofs.Numbers.{number_some}
use Rattle.ledger.specs.Refusal.{refusal_of}
use Rattle.ledger.specs.Take.{accepted_of, entered_of, output_fields, take_of}
use Rattle.ledger.specs.declared.book.Ledger.{Ledger}
use Rattle.ledger.specs.declared.answer.Entered.{Entered}
use Rattle.ledger.proofs.Step.{released_after, released_between}
use Rattle.ledger.proofs.Take.{taken, refused_by, accepted_writes}
use Rattle.ledger.proofs.book.Ledger.take.Goals as goal

-- what is entered of an accepted record, with the releases, is the answer
answer_is : (l : Ledger) (bytes : List ℕ) (room : ℕ) {e : Entered} {releases : List ℕ} → refusal_of l bytes room ≡ 0 → e ≡ entered_of l bytes
    → releases ≡ eight (λ t. get_or e.ledger.released t 0 - get_or l.released t 0)
    → record { ledger = e.ledger; refusal = 0; releases = releases; x0 = e.says.x0; figure = e.says.figure; bound = e.says.bound } ≡ take_of l bytes room
unfolding entered_of accepted_of output_fields
answer_is l bytes room none entered since = rw (taken l bytes room none, since, entered, released_between l bytes)

pub returns-in-Some : goal.returns-in-Some
unfolding refusal_of
returns-in-Some c =
    let a = c.args in
    let found : number_of c.in-Some.why ≡ refusal_of a.self a.bytes.now (length a.out.now) =
    rw (c.early-early.ensures, c.is_sound-good.ensures) at c.in-Some.ensures
    ∙ sym (first_with_masses _ _ _ _ _ _ _) in
    let r = refused_by a.self a.bytes.now a.out.now (number_of c.in-Some.why) (sym found) (number_some c.in-Some.why) in
    record { value = r.0; out_after = r.1 }

pub enter-requires-clause-out_value : goal.enter-requires-clause-out_value
unfolding refusal_of
enter-requires-clause-out_value c =
    first_with_masses _ _ _ _ _ _ _ ∙ sym (rw (c.early-early.ensures, c.is_sound-good.ensures) at c.in_default.ensures)

pub less-requires : goal.less-requires
unfolding entered_of accepted_of
less-requires c = λ t place.
    let a = c.args in
    rw c.enter.ensures.value (omega (arith, released_after a.self a.bytes.now t place))

pub returns : goal.returns
unfolding refusal_of
returns c =
    let a = c.args in
    let none : refusal_of a.self a.bytes.now (length a.out.now) ≡ 0 =
    first_with_masses _ _ _ _ _ _ _ ∙ sym (rw (c.early-early.ensures, c.is_sound-good.ensures) at c.in_default.ensures) in
    record {
      value = answer_is a.self a.bytes.now (length a.out.now) none c.enter.ensures.value c.less.ensures;
      out_after = c.enter.ensures.out_after ∙ sym (accepted_writes a.self a.bytes.now a.out.now none);
    }
