-- Whatever is offered, what comes of it is a fresh ledger and then accepted records, one after another: promises go by induction on
-- these.
use mathlib.Core.Path.{◌≡◌, refl, sym, ap, ◌∙◌}
use mathlib.Core.Bool.{true}
use mathlib.Core.List.{List, [], ◌∷◌, ◌++◌, map-append, append-nil, append_assoc}
use Prim.Native.Nat.{ℕ, ◌+◌, ◌≤◌, ◌<◌}
use native.Mathlib.Numerals.{add-one}
use native.Mathlib.Omega.{arith}
use native.Mathlib.Decide.{ℕ_discrete}
use lib.ListN.{length, get_or}
use Rattle.numbers.specs.Lists.{added}
use Rattle.numbers.proofs.Eight.{eight_at}
use Rattle.numbers.proofs.Lists.{length_more, added_more}
use Rattle.waste.specs.Kind.{is_kind}
use Rattle.waste.specs.Waste.{is_climate}
use Rattle.record.specs.Fields.{deposit_of}
use Rattle.ledger.specs.Step.{fresh, x0_of, after}
use Rattle.ledger.specs.Refusal.{refusal_of}
use Rattle.ledger.specs.Take.{accepted_of, total_released}
use Rattle.run.specs.History.{Offer, Turn}
use Rattle.ledger.proofs.Accepted as step
use Rattle.run.proofs.History.{accepted_turn}
use Rattle.ledger.proofs.Step.{brought_after, release_answered, released_after, balanced, released_grows}
use Rattle.promise_three.specs.Offering.{Offering, offering_to, offering, records_in}
use Rattle.promise_three.specs.DemandThree.{Conserved}
use Rattle.promise_three.proofs.Offering.{offering_ends, offering_goes_on, offering_passes_over, behind}

-- no record, and one accepted record more
abbrev pub fresh_offering : Offering
fresh_offering = record { ledger = fresh; accepted = [] }

abbrev pub with_one : Offering → (bytes : List ℕ) → Offering
with_one o bytes = record { ledger = after o.ledger bytes; accepted = o.accepted ++ (accepted_turn o.ledger bytes ∷ []) }

pub data OneByOne : Offering → Type 0 where
  none_yet : OneByOne fresh_offering
  one_more : (o : Offering) (bytes : List ℕ) (room : ℕ) → OneByOne o → refusal_of o.ledger bytes room ≡ 0 → OneByOne (with_one o bytes)

-- and more offers
goes_one_by_one : (offers : List Offer) (o : Offering) → OneByOne o → OneByOne (behind o (offering_to o.ledger offers))
goes_one_by_one [] o r = rw (offering_ends o.ledger, append-nil o.accepted) r
goes_one_by_one (offer ∷ rest) o r =
    elim (ℕ_discrete (refusal_of o.ledger offer.bytes offer.room) 0) [
      | yes e ↦
          rw (offering_goes_on o.ledger offer.bytes offer.room rest e)
          (rw append_assoc at (goes_one_by_one rest (with_one o offer.bytes) (one_more o offer.bytes offer.room r e)))
      | no e ↦ rw (offering_passes_over o.ledger offer.bytes offer.room rest e) (goes_one_by_one rest o r)
    ]

pub one_by_one : (offers : List Offer) → OneByOne (offering offers)
one_by_one offers = goes_one_by_one offers fresh_offering none_yet

pub records_more : (o : Offering) (bytes : List ℕ) → records_in (with_one o bytes) ≡ records_in o ++ (bytes ∷ [])
records_more o bytes = map-append (λ (turn : Turn). turn.bytes) o.accepted (accepted_turn o.ledger bytes ∷ [])

-- n counts the accepted records.
pub n_counts : (o : Offering) → OneByOne o → o.ledger.n ≡ length o.accepted
unfolding fresh after
n_counts _ none_yet = refl
n_counts _ (one_more o bytes room r e) = rw (length_more, n_counts o r) (add-one (length o.accepted))

-- Kind and climate are codes once a record is accepted.
pub kind_and_climate : (o : Offering) → OneByOne o → 1 ≤ length o.accepted
    → (is_kind o.ledger.kind ≡ true) × (is_climate o.ledger.climate ≡ true)
unfolding after
kind_and_climate _ none_yet h = absurd (omega arith)
kind_and_climate _ (one_more o bytes room r e) h = let a = step.accepted_meets o.ledger bytes room e in (a.kind, a.climate)

-- Deposits are parted into releases and stock at each record, and so all in all.
pub conserved : (t : ℕ) → t < 8 → (o : Offering) → OneByOne o → Conserved o t
unfolding fresh
conserved t place _ none_yet =
    let zero = eight_at (λ _. 0) t place in
    record { reported = zero; balance = rw zero; deposited = zero }
conserved t place _ (one_more o bytes room r e) =
    let c = conserved t place o r in
    record {
      reported =
          rw (added_more (λ (turn : Turn). get_or turn.answer.releases t 0) o.accepted (accepted_turn o.ledger bytes), release_answered o.ledger bytes t place)
          (omega (arith, c.reported, released_after o.ledger bytes t place));
      balance =
          omega (arith, c.balance, released_after o.ledger bytes t place, balanced o.ledger bytes t place, brought_after o.ledger bytes t place);
      deposited =
          rw (records_more o bytes, added_more (λ b. deposit_of b t) (records_in o) bytes)
          (omega (arith, brought_after o.ledger bytes t place));
    }

-- What all types have released grows by x0 at each record.
pub released_total : (o : Offering) → OneByOne o → total_released o.ledger ≡ added (λ (turn : Turn). turn.answer.x0) o.accepted
unfolding fresh total_released accepted_of
released_total _ none_yet = refl
released_total _ (one_more o bytes room r e) =
    released_grows o.ledger bytes
    ∙ ap (λ (n : ℕ). n + x0_of o.ledger bytes) (released_total o r)
    ∙ sym (added_more (λ (turn : Turn). turn.answer.x0) o.accepted (accepted_turn o.ledger bytes))
