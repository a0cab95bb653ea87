-- No offer changes nothing. Of an offer in front of others that is accepted the turn stands in front of what comes of the rest; one
-- that is refused is passed over.
use mathlib.Core.Path.{◌≡◌, refl, ap, ◌∙◌}
use mathlib.Core.List.{List, [], ◌∷◌, ◌++◌}
use Prim.Native.Nat.{ℕ}
use native.Mathlib.Decide.{ℕ_discrete}
use borrow.Author.Tests.{ne_eqb}
use Rattle.ledger.specs.Step.{after}
use Rattle.ledger.specs.Refusal.{refusal_of}
use Rattle.ledger.specs.Take.{accepted_of, refused_of}
use Rattle.run.specs.History.{Offer, Turn, turns, ledger_after, accepted}
use Rattle.ledger.specs.declared.book.Ledger.{Ledger}
use Rattle.run.proofs.History.{accepted_turn}
use Rattle.ledger.proofs.Take.{taken, not_taken}
use Rattle.promise_three.specs.Offering.{Offering, offering_to}

pub offering_ends : (l : Ledger) → offering_to l [] ≡ record { ledger = l; accepted = [] }
unfolding offering_to turns ledger_after accepted
offering_ends l = refl

abbrev pub in_front : Turn → Offering → Offering
in_front turn o = record { ledger = o.ledger; accepted = turn ∷ o.accepted }

module _ (l : Ledger) (bytes : List ℕ) (room : ℕ) (offers : List Offer) where
  abbrev all : List Offer
  all = record { bytes = bytes; room = room } ∷ offers

  pub offering_goes_on : refusal_of l bytes room ≡ 0 → offering_to l all ≡ in_front (accepted_turn l bytes) (offering_to (after l bytes) offers)
  unfolding offering_to turns ledger_after accepted accepted_of
  offering_goes_on e = simp (taken l bytes room e)

  pub offering_passes_over : (refusal_of l bytes room ≡ 0 → ⊥) → offering_to l all ≡ offering_to l offers
  unfolding offering_to turns ledger_after accepted refused_of
  offering_passes_over e = simp (not_taken l bytes room e, ne_eqb (refusal_of l bytes room) 0 e)

-- Offers one stretch after another: the second goes on from the ledger that the first leaves.
abbrev pub behind : Offering → Offering → Offering
behind first second = record { ledger = second.ledger; accepted = first.accepted ++ second.accepted }

pub offering_join : (xs : List Offer) (l : Ledger) (ys : List Offer)
    → offering_to l (xs ++ ys) ≡ behind (offering_to l xs) (offering_to (offering_to l xs).ledger ys)
offering_join [] l ys = rw (offering_ends l)
offering_join (offer ∷ xs) l ys =
    elim (ℕ_discrete (refusal_of l offer.bytes offer.room) 0) [
      | yes e ↦
          offering_goes_on l offer.bytes offer.room (xs ++ ys) e
          ∙ ap (in_front (accepted_turn l offer.bytes)) (offering_join xs (after l offer.bytes) ys)
          ∙ rw (offering_goes_on l offer.bytes offer.room xs e)
      | no e ↦
          offering_passes_over l offer.bytes offer.room (xs ++ ys) e
          ∙ offering_join xs l ys
          ∙ rw (offering_passes_over l offer.bytes offer.room xs e)
    ]
