-- The lines of output records: those of a run are the lines of its accepted records.
use mathlib.Core.Path.{◌≡◌, refl, sym, ap, ◌∙◌}
use mathlib.Core.List.{List, [], ◌∷◌, ◌++◌, append_assoc, append-nil}
use Prim.Native.Nat.{ℕ, zero, suc, ◌+◌, ◌-◌, ◌*◌}
use native.Mathlib.Decide.{ℕ_discrete}
use native.Mathlib.Nat.{add_assoc}
use native.Mathlib.Omega.{arith}
use lib.ListN.{length, drop, length-append}
use lib.Seq.{drop_at}
use Rattle.numbers.specs.Bytes.{number_at}
use Rattle.numbers.proofs.Bytes.{number_drop}
use Rattle.record.specs.Fields.{record_bytes}
use Rattle.ledger.specs.Refusal.{refusal_of}
use Rattle.ledger.specs.Take.{accepted_of, output_record, output_fields}
use Rattle.run.specs.History.{Turn, outputs, Run, run_of}
use Rattle.ledger.specs.declared.book.Ledger.{Ledger}
use Rattle.ledger.proofs.Accepted.{accepted_meets}
use Rattle.ledger.proofs.Fits.{output_says}
use Rattle.ledger.proofs.Take.{output_length}
use Rattle.run.proofs.History.{on_from, run_goes_on, run_stops, run_ends}
use Rattle.line.specs.Line.{accepted_text}
use Rattle.lines.specs.Listing.{answer_text, lines_of, run_text}
use Rattle.lines.specs.Outputs.{output_text, output_lines}

-- An output record behind the first one says what it says in the rest.
text_behind : (at : ℕ) (bytes : List ℕ) → output_text bytes (48 + at) ≡ output_text (drop 48 bytes) at
unfolding output_text
text_behind at bytes =
    let number : (k j : ℕ) → number_at k bytes (48 + at + j) ≡ number_at k (drop 48 bytes) (at + j)
    = λ k j. ap (number_at k bytes) (add_assoc 48 at j) ∙ number_drop k 48 (at + j) bytes in
    λ i. accepted_text (number_drop 2 48 at bytes i) (number 8 8 i) (number 8 16 i) (number 8 24 i) (number 8 32 i)

lines_none : (bytes : List ℕ) → output_lines bytes 0 ≡ []
unfolding output_lines
lines_none bytes = refl

-- The first of them and the others.
lines_first : (k : ℕ) (bytes : List ℕ) → output_lines bytes (suc k) ≡ output_text bytes 0 ++ output_lines (drop 48 bytes) k
unfolding output_lines
lines_first zero bytes = sym (append-nil (output_text bytes 0))
lines_first (suc k) bytes =
    let place : 48 * suc k ≡ 48 + 48 * k = omega arith in
    ap (λ (xs : List ℕ). xs ++ output_text bytes (48 * suc k)) (lines_first k bytes)
    ∙ rw (place, text_behind (48 * k) bytes)
    (append_assoc (output_text bytes 0) (output_lines (drop 48 bytes) k) (output_text (drop 48 bytes) (48 * k)))

-- the line of an accepted record's output record is its line
line_says : (l : Ledger) (bytes rest : List ℕ) (room : ℕ) → refusal_of l bytes room ≡ 0
    → output_text (output_record (accepted_of l bytes) ++ rest) 0 ≡ answer_text (accepted_of l bytes)
unfolding output_text answer_text output_fields
line_says l bytes rest room e =
    let s = output_says l bytes (accepted_meets l bytes room e) rest in
    rw (s.period, s.x0, s.figure, s.bound, s.stock)

pub lines_say : (l : Ledger) (xs : List (List ℕ)) (room : ℕ) (rest : List ℕ)
    → output_lines (outputs (run_of l xs room).accepted ++ rest) (length (run_of l xs room).accepted) ≡ lines_of (run_of l xs room).accepted
unfolding lines_of outputs
lines_say l [] room rest = rw (run_ends l room) (lines_none rest)
lines_say l (bytes ∷ xs) room rest =
    elim (ℕ_discrete (refusal_of l bytes room) 0) [
      | yes e ↦
          let r = run_of (accepted_of l bytes).ledger xs (room - record_bytes) in
          let o = output_record (accepted_of l bytes) in
          rw (run_goes_on l bytes xs room e, append_assoc o (outputs r.accepted) rest)
          (lines_first (length r.accepted) (o ++ (outputs r.accepted ++ rest))
          ∙ rw (
            line_says l bytes (outputs r.accepted ++ rest) room e,
            drop_at o (outputs r.accepted ++ rest) record_bytes (output_length (accepted_of l bytes)),
            lines_say (accepted_of l bytes).ledger xs (room - record_bytes) rest,
          ))
      | no e ↦ rw (run_stops l bytes xs room (refusal_of l bytes room) refl e) (lines_none rest)
    ]

-- Lines of accepted records in front of a listing.
lines_join : (done more : List Turn) → lines_of (done ++ more) ≡ lines_of done ++ lines_of more
unfolding lines_of
lines_join [] more = refl
lines_join (turn ∷ rest) more = rw (lines_join rest more, append_assoc)

pub text_join : (place : ℕ) (done : List Turn) (r : Run) → run_text place (on_from done r) ≡ lines_of done ++ run_text (place + length done) r
unfolding run_text
text_join place done r =
    let n : place + length (done ++ r.accepted) ≡ place + length done + length r.accepted = omega (arith, length-append done r.accepted) in
    rw (lines_join done r.accepted, n) (append_assoc (lines_of done) (lines_of r.accepted) _)
