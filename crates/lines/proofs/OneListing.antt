-- The numbers of a listing's answer leave one answer.
use Rattle.std.proofs.Common.{◌≡◌, ℕ, Result, Ok, Err, refl, sym, ap, ◌∙◌, eqb, cond}
use Rattle.lines.specs.declared.room.NoRoom.{NoRoom}
use Rattle.lines.specs.Listed.{Listed}
use Rattle.lines.specs.Listing.{numbers_of}

-- the answer that has these numbers
answer_of : NoRoom → Listed → Result ℕ NoRoom
answer_of why listed = cond (eqb listed.refusal 0) (Ok listed.length) (Err why)

same_refusal : (a b : NoRoom) → a ≡ b
same_refusal a b = refl

same_answer : (why : NoRoom) (answer : Result ℕ NoRoom) → answer_of why (numbers_of answer) ≡ answer
unfolding answer_of
same_answer why (Ok length) = refl
same_answer why (Err other) = ap Err (same_refusal why other)

-- Two answers with the same numbers are the same.
pub one_listing : (a b : Result ℕ NoRoom) {numbers : Listed} → numbers_of a ≡ numbers → numbers_of b ≡ numbers → a ≡ b
one_listing (Ok m) b p q = sym (same_answer (record {}) (Ok m)) ∙ ap (answer_of (record {})) (p ∙ sym q) ∙ same_answer (record {}) b
one_listing (Err why) b p q = sym (same_answer why (Err why)) ∙ ap (answer_of why) (p ∙ sym q) ∙ same_answer why b
