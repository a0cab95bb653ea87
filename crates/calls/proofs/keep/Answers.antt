-- What the step answers decides: an accepted record's image is written, a refused one's stays.
use mathlib.Core.Path.{◌≡◌, refl, sym, ◌∙◌}
use native.Mathlib.Omega.{arith}
use Rattle.std.specs.Result.{result_err}
use Rattle.std.specs.Prelude.{Result, Ok, Err}
use Rattle.refusal.specs.declared.why.Refusal.{Refusal}
use Rattle.refusal.specs.Numbers.{number_of, numbered}
use Rattle.refusal.proofs.Numbers.{number_some}
use Rattle.ledger.specs.declared.book.Ledger.{Ledger}
use Rattle.ledger.specs.declared.answer.Taken.{Taken}
use Rattle.ledger.specs.Numbers.{answer_numbers}
use Rattle.ledger.specs.Take.{refused_of}
use Rattle.calls.specs.Calls.{image_over}
use Rattle.calls.proofs.Takes.{when_not}
use Rattle.calls.proofs.keep.Goals.{in-Ok, in_default}
use Rattle.calls.proofs.keep.Goals as goal

number_is : (l : Ledger) (taken : Result Taken Refusal) → numbered (result_err taken) ≡ (answer_numbers l taken).refusal
unfolding refused_of
number_is l (Ok kept) = refl
number_is l (Err why) = refl

pub returns-clause-value : goal.returns-clause-value
returns-clause-value c = λ l.
    let kept : c.match-taken.taken ≡ c.args.taken = elim c.match-taken.branch [ in-Ok w ↦ w.taken-is ∙ sym w.in-Ok.is | in_default w ↦ w.taken-is ] in
    let number : c.number_or_zero.result ≡ (answer_numbers l c.args.taken).refusal = c.number_or_zero.ensures ∙ rw (c.err.ensures.value, kept) (number_is l c.args.taken) in
    omega (arith, number)

pub returns-clause-image_after : goal.returns-clause-image_after
unfolding image_over refused_of
returns-clause-image_after c = λ l. elim c.match-taken.branch [
  | in-Ok w ↦ w.image-is ∙ rw w.in-Ok.is w.write.ensures
  | in_default w ↦ let why = w.in_default.field-0 in w.image-is ∙ rw w.in_default.is (sym (when_not (number_of why) _ _ (number_some why)))
]
