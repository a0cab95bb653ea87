-- Laws of a step that callers use instead of its definition.
use mathlib.Core.Path.{◌≡◌, refl, ap, sym, ◌∙◌}
use mathlib.Core.List.{List, ◌++◌}
use Prim.Native.Nat.{ℕ, ◌+◌}
use native.Mathlib.Decide.{ℕ_discrete}
use borrow.Author.Tests.{ne_eqb}
use lib.ListN.{length, drop}
use Rattle.record.specs.Fields.{record_bytes}
use Rattle.ledger.specs.Step.{after}
use Rattle.ledger.specs.Refusal.{refusal_of}
use Rattle.output.specs.Output.{output_of}
use Rattle.ledger.specs.Take.{accepted_of, refused_of, take_of, written_of, output_fields, output_record}
use Rattle.ledger.specs.declared.book.Ledger.{Ledger}
use Rattle.ledger.specs.Answer.{Answer}

-- The output record has 48 bytes.
pub output_length : (a : Answer) → length (output_record a) ≡ 48
unfolding output_record output_fields output_of
output_length a = refl

module _ (l : Ledger) (bytes : List ℕ) (room : ℕ) where
  pub taken : refusal_of l bytes room ≡ 0 → take_of l bytes room ≡ accepted_of l bytes
  unfolding take_of
  taken e = rw e

  pub not_taken : (refusal_of l bytes room ≡ 0 → ⊥) → take_of l bytes room ≡ refused_of l (refusal_of l bytes room)
  unfolding take_of
  not_taken e = simp (ne_eqb (refusal_of l bytes room) 0 e)

  -- The refusal that a step answers is the number of the first fault.
  pub take_refusal : (take_of l bytes room).refusal ≡ refusal_of l bytes room
  unfolding accepted_of refused_of
  take_refusal =
      elim (ℕ_discrete (refusal_of l bytes room) 0) [
        | yes e ↦ ap (λ (a : Answer). a.refusal) (taken e) ∙ sym e
        | no e ↦ ap (λ (a : Answer). a.refusal) (not_taken e)
      ]

  -- An accepted record raises n by one.
  pub taken_counts : refusal_of l bytes room ≡ 0 → (take_of l bytes room).ledger.n ≡ l.n + 1
  unfolding accepted_of after
  taken_counts e = ap (λ (a : Answer). a.ledger.n) (taken e)

  -- A refusal changes nothing: neither the ledger ...
  pub refused_keeps : (refusal_of l bytes room ≡ 0 → ⊥) → (take_of l bytes room).ledger ≡ l
  unfolding refused_of
  refused_keeps e = ap (λ (a : Answer). a.ledger) (not_taken e)

-- ... nor a byte of the output.
pub refused_writes_nothing : (l : Ledger) (bytes out : List ℕ) → (refusal_of l bytes (length out) ≡ 0 → ⊥) → written_of l bytes out ≡ out
unfolding written_of
refused_writes_nothing l bytes out e = simp (ne_eqb (refusal_of l bytes (length out)) 0 e)

-- A record that is refused by a number, and what an accepted one leaves in the output.
module _ (l : Ledger) (bytes out : List ℕ) where
  pub refused_by : (q : ℕ) → refusal_of l bytes (length out) ≡ q → (q ≡ 0 → ⊥) → (refused_of l q ≡ take_of l bytes (length out)) × (out ≡ written_of l bytes out)
  refused_by q e ne =
      let some : refusal_of l bytes (length out) ≡ 0 → ⊥ = λ z. ne (sym e ∙ z) in
      (sym (not_taken l bytes (length out) some ∙ ap (refused_of l) e), sym (refused_writes_nothing l bytes out some))

  pub accepted_writes : refusal_of l bytes (length out) ≡ 0 → written_of l bytes out ≡ output_record (accepted_of l bytes) ++ drop record_bytes out
  unfolding written_of
  accepted_writes e = rw e
