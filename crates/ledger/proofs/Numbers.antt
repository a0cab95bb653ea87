-- Two answers that have the same numbers are one.
use Rattle.std.proofs.Common.{◌≡◌, refl, sym, ap, ◌∙◌, cond, eqb, Result, Ok, Err}
use Rattle.refusal.proofs.Numbers.{reason_of, same_reason, number_not_zero}
use Rattle.refusal.specs.declared.why.Refusal.{Refusal}
use Rattle.ledger.specs.Answer.{Answer, Totals}
use Rattle.ledger.specs.Take.{refused_of}
use Rattle.ledger.specs.Numbers.{answer_numbers, totals_numbers}
use Rattle.ledger.specs.declared.book.Ledger.{Ledger}
use Rattle.ledger.specs.declared.answer.Taken.{Taken}
use Rattle.ledger.specs.declared.answer.CarbonTotals.{CarbonTotals}

-- the answer that has some numbers
taken_by : Answer → Result Taken Refusal
taken_by a =
    cond (eqb a.refusal 0)
    (Ok (record { ledger = a.ledger; releases = a.releases; x0 = a.x0; figure = a.figure; bound = a.bound }))
    (Err (reason_of a.refusal))

same_taken : (l : Ledger) (answer : Result Taken Refusal) → taken_by (answer_numbers l answer) ≡ answer
unfolding taken_by refused_of
same_taken l (Ok taken) = refl
same_taken l (Err why) = rw (number_not_zero why, same_reason why) refl

pub one_taken : (l : Ledger) (a b : Result Taken Refusal) → answer_numbers l a ≡ answer_numbers l b → a ≡ b
one_taken l a b e = sym (same_taken l a) ∙ ap taken_by e ∙ same_taken l b

-- the totals that have some numbers
totals_by : Totals → Result CarbonTotals Refusal
totals_by all =
    cond (eqb all.refusal 0) (Ok (record { stock = all.stock; brought = all.brought; released = all.released })) (Err (reason_of all.refusal))

same_totals : (all : Result CarbonTotals Refusal) → totals_by (totals_numbers all) ≡ all
unfolding totals_by
same_totals (Ok all) = refl
same_totals (Err why) = rw (number_not_zero why, same_reason why) refl

pub one_totals : (a b : Result CarbonTotals Refusal) → totals_numbers a ≡ totals_numbers b → a ≡ b
one_totals a b e = sym (same_totals a) ∙ ap totals_by e ∙ same_totals b
