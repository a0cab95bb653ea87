-- Offers in turn: the two ledgers stay at the same place, and the second goes on holding no less.
use mathlib.Core.Path.{◌≡◌, sym, ◌∙◌}
use mathlib.Core.Bool.{true}
use mathlib.Core.List.{List, [], ◌∷◌}
use Prim.Native.Nat.{ℕ, ◌+◌, ◌-◌, ◌*◌, ◌≤◌}
use native.Mathlib.Omega.{arith}
use lib.ListN.{length}
use Rattle.numbers.specs.Lists.{Each}
use Rattle.record.specs.Fields.{record_bytes}
use Rattle.ledger.specs.Refusal.{sound, refusal_of}
use Rattle.ledger.specs.Take.{accepted_of, take_of}
use Rattle.ledger.specs.declared.book.Ledger.{Ledger}
use Rattle.ledger.proofs.Accepted.{accepted_meets, accepted_sound}
use Rattle.ledger.proofs.Take.{taken, take_refusal}
use Rattle.run.specs.History.{Offer, turn_of, turns, AllAccepted, in_turn}
use Rattle.promise_more.specs.More.{EqualButMasses, MoreWaste, WithinLimit, Pairs, Offered, LightOffer, TurnNoLess}
use Rattle.promise_more.proofs.Records.{SamePlace, place_after, accepts_too}
use Rattle.promise_more.proofs.Steps.{HoldsMore, more_after, no_less}

-- an accepted turn is the step's
module _ (l : Ledger) (offer : Offer) where
  accepts : (take_of l offer.bytes offer.room).refusal ≡ 0 → refusal_of l offer.bytes offer.room ≡ 0
  accepts e = sym (take_refusal l offer.bytes offer.room) ∙ e

  answers : (take_of l offer.bytes offer.room).refusal ≡ 0 → take_of l offer.bytes offer.room ≡ accepted_of l offer.bytes
  answers e = taken l offer.bytes offer.room (accepts e)

pub turns_no_less : (first second : List Offer) (l l' : Ledger) → SamePlace l l' → HoldsMore l l' → Offered MoreWaste first second
    → AllAccepted (turns l first) → AllAccepted (turns l' second) → Pairs TurnNoLess (turns l first) (turns l' second)
unfolding turns accepted_of
turns_no_less [] [] l l' s h m e e' = tt
turns_no_less [] (other ∷ second) l l' s h m e e' = absurd m
turns_no_less (one ∷ first) [] l l' s h m e e' = absurd m
turns_no_less (one ∷ first) (other ∷ second) l l' s h m e e' =
    let a = answers l one e.0 in
    let b = answers l' other e'.0 in
    let now : TurnNoLess (turn_of l one) (turn_of l' other) = rw (a, b) (no_less l l' s h one.bytes other.bytes m.0) in
    let place : SamePlace (turn_of l one).answer.ledger (turn_of l' other).answer.ledger
    = rw (a, b) (place_after l l' s one.bytes other.bytes m.0.equal) in
    let more : HoldsMore (turn_of l one).answer.ledger (turn_of l' other).answer.ledger
    = rw (a, b) (more_after l l' s h one.bytes other.bytes m.0) in
    (now, turns_no_less first second (turn_of l one).answer.ledger (turn_of l' other).answer.ledger place more m.1 e.1 e'.1)

-- What holds of two lists of records pair by pair holds of them offered in turn.
pub in_turn_lem : (P : List ℕ → List ℕ → Type 0) (first second : List (List ℕ)) (room room' : ℕ) → Pairs P first second → Offered P (in_turn first room) (in_turn second room')
unfolding in_turn
in_turn_lem P [] [] room room' p = tt
in_turn_lem P [] (other ∷ second) room room' p = absurd p
in_turn_lem P (one ∷ first) [] room room' p = absurd p
in_turn_lem P (one ∷ first) (other ∷ second) room room' p = (p.0, in_turn_lem P first second _ _ p.1)

-- With room for all of them, each record that is within the limit has room.
pub light_offers : (records : List (List ℕ)) (i room : ℕ) → Each (λ i bytes. WithinLimit bytes) i records → record_bytes * length records ≤ room
    → Each (λ i offer. LightOffer offer) i (in_turn records room)
unfolding in_turn
light_offers [] i room within enough = tt
light_offers (bytes ∷ rest) i room within enough =
    ((within.0, omega arith), light_offers rest (i + 1) (room - record_bytes) within.1 (omega arith))

pub turns_accepted : (first second : List Offer) (i : ℕ) (l l' : Ledger) → SamePlace l l' → sound l' ≡ true → Offered EqualButMasses first second
    → AllAccepted (turns l first) → Each (λ i offer. LightOffer offer) i second → AllAccepted (turns l' second)
unfolding turns accepted_of
turns_accepted [] [] i l l' s good m e fits = tt
turns_accepted [] (other ∷ second) i l l' s good m e fits = absurd m
turns_accepted (one ∷ first) [] i l l' s good m e fits = absurd m
turns_accepted (one ∷ first) (other ∷ second) i l l' s good m e fits =
    let ok = accepts_too l l' s one.bytes other.bytes m.0 good fits.0.0 one.room (accepts l one e.0) other.room fits.0.1 in
    let zero : (turn_of l' other).answer.refusal ≡ 0 = take_refusal l' other.bytes other.room ∙ ok in
    let place : SamePlace (turn_of l one).answer.ledger (turn_of l' other).answer.ledger
    = rw (answers l one e.0, answers l' other zero) (place_after l l' s one.bytes other.bytes m.0) in
    let still : sound (turn_of l' other).answer.ledger ≡ true
    = rw (answers l' other zero) (accepted_sound l' other.bytes (accepted_meets l' other.bytes other.room ok)) in
    (zero, turns_accepted first second (i + 1) (turn_of l one).answer.ledger (turn_of l' other).answer.ledger place still m.1 e.1 fits.1)
