-- Records that are equal but for masses are tested and remembered alike. So where one ledger accepts the first, another at the same place accepts
-- the second, unless a mass is over the limit.
use mathlib.Core.Path.{◌≡◌, refl, sym, ap, ◌∙◌}
use mathlib.Core.Bool.{true}
use mathlib.Core.List.{List}
use Prim.Native.Nat.{ℕ, ◌≤◌}
use native.Mathlib.Omega.{arith}
use borrow.Author.Tests.{le-leb}
use lib.Dec.{lit<}
use Rattle.numbers.specs.Eight.{every_of}
use Rattle.numbers.specs.Fault.{first_of}
use Rattle.numbers.proofs.Eight.{every_each}
use Rattle.record.specs.Fields.{record_bytes, dry_of, zeros_of}
use Rattle.record.specs.Ranges.{dry_in_range, light}
use Rattle.record.proofs.Front.{SameFront}
use Rattle.year_factors.proofs.Laws.{remembered_alike}
use Rattle.refusal.specs.Refusal.{faults_of}
use Rattle.refusal.proofs.Laws.{faults_alike}
use Rattle.ledger.specs.Step.{fresh, after}
use Rattle.ledger.specs.Refusal.{sound, refusal_of}
use Rattle.ledger.specs.declared.book.Ledger.{Ledger}
use Rattle.ledger.proofs.Accepted.{accepted_meets, was_sound, has_room, room_alike}
use Rattle.tunisia.specs.Years.{refusal_by_year}
use Rattle.promise_tunisia.proofs.Offered.{taken_in_a_run}
use Rattle.promise_more.specs.More.{EqualButMasses, WithinLimit}

module _ (one other : List ℕ) (e : EqualButMasses one other) where
  pub front : SameFront one other
  front i h = e.same_byte i (omega arith)

  pub dry : (waste : ℕ) → dry_of one waste ≡ dry_of other waste
  unfolding dry_of
  dry waste = rw (e.same_byte 12 (lit< tt), e.same_byte 13 (lit< tt))

  dry_range : dry_in_range one ≡ dry_in_range other
  unfolding dry_in_range
  dry_range = rw (dry 7, dry 8)

  zeros : zeros_of one ≡ zeros_of other
  unfolding zeros_of
  zeros = rw (e.same_byte 14 (lit< tt), e.same_byte 15 (lit< tt))

within_light : (bytes : List ℕ) → WithinLimit bytes → every_of (light bytes) 8 ≡ true
unfolding light
within_light bytes h = every_each (light bytes) 8 (λ t place. le-leb _ _ (h t place))

-- Two ledgers after records of the same periods, kind, climate and years.
pub record SamePlace (l l' : Ledger) : Type 0 where
  pub n : l.n ≡ l'.n
  pub kind : l.kind ≡ l'.kind
  pub climate : l.climate ≡ l'.climate
  pub year : l.year ≡ l'.year

pub fresh_place : SamePlace fresh fresh
fresh_place = record { n = refl; kind = refl; climate = refl; year = refl }

module _ (l l' : Ledger) (s : SamePlace l l') (one other : List ℕ) (e : EqualButMasses one other) where
  pub place_after : SamePlace (after l one) (after l' other)
  unfolding after
  place_after =
      record {
        n = omega (arith, s.n);
        kind = front one other e 2 (lit< tt);
        climate = front one other e 3 (lit< tt);
        year = rw (s.n, s.year) (remembered_alike one other (front one other e) l'.n l'.year);
      }

  -- What the first ledger accepts of the one, the second accepts of the other.
  module _ (sound' : sound l' ≡ true) (within : WithinLimit other) (room : ℕ) (accepted : refusal_of l one room ≡ 0) where
    same_faults : faults_of (sound l') l'.n l'.kind l'.climate l'.year other room ≡ faults_of (sound l) l.n l.kind l.climate l.year one room
    same_faults =
        let lights = every_each (light one) 8 (accepted_meets l one room accepted).light_each in
        sym (faults_alike one other (front one other e) e.same_length (zeros one other e) (dry_range one other e) (rw (lights, within_light other within)) (sound l') l'.n l'.kind l'.climate l'.year room)
        ∙ rw (sound', was_sound l one room accepted, s.n, s.kind, s.climate, s.year)

    pub accepts_too : (room' : ℕ) → record_bytes ≤ room' → refusal_of l' other room' ≡ 0
    unfolding refusal_of
    accepts_too room' enough =
        room_alike l' other room' room enough (has_room l one room accepted) ∙ ap first_of same_faults ∙ accepted

  pub accepts_by_year : sound l' ≡ true → WithinLimit other → refusal_by_year l one ≡ 0 → refusal_by_year l' other ≡ 0
  unfolding refusal_by_year
  accepts_by_year sound' within accepted =
      rw (same_faults sound' within record_bytes (taken_in_a_run l one accepted), ← front one other e 2 (lit< tt)) accepted
