-- A record's m decides its DOC and, over 100, refusal 8, and nothing else; the ceilings of refusal 3 have only risen.
use mathlib.Core.Path.{◌≡◌, refl, ◌∙◌}
use mathlib.Core.Bool.{Bool, true, false, cond, ◌&&◌, and-false}
use mathlib.Core.List.{List}
use Prim.Native.Nat.{ℕ, ◌+◌, ◌*◌, ◌^◌, ◌≤◌, ◌<◌, zero-le}
use native.Mathlib.Decide.{ℕ_discrete}
use native.Mathlib.Nat.{mul-le-mul_right}
use native.Mathlib.Numerals.{add-one}
use native.Mathlib.Omega.{arith}
use borrow.Author.Tests.{eq-eqb, ne_eqb, le-leb, leb-true, eqb-true}
use lib.Dec.{eqb, leb, lit<}
use lib.ListN.{get_or}
use Rattle.numbers.specs.Eight.{every_of}
use Rattle.numbers.proofs.Eight.{both_true, three_true, every_at, every_same}
use Rattle.numbers.proofs.Fault.{parted}
use Rattle.waste.specs.Waste.{carbon_of, most_carbon_of}
use Rattle.waste.proofs.Laws.{carbon_most}
use Rattle.record.specs.Fields.{dry_of, zeros_of, mass_of, deposit_of}
use Rattle.record.specs.Ranges.{dry_in_range, light}
use Rattle.record.proofs.Front.{SameFront, same_period, same_codes}
use Rattle.carbon.specs.Carbon.{ceiling_of, within_of}
use Rattle.year_factors.specs.YearFactors.{sound_year}
use Rattle.refusal.specs.Refusal.{faults_of}
use Rattle.refusal.proofs.Laws.{continues_alike, faults_alike}
use Rattle.ledger.specs.Step.{brought_at, stock_at, released_at}
use Rattle.ledger.specs.Refusal.{sound, all_zero, in_code, in_order, within_at, refusal_of, NoneAhead}
use Rattle.ledger.specs.Take.{take_of}
use Rattle.ledger.specs.declared.book.Ledger.{Ledger}
use Rattle.ledger.proofs.Sound.{sound_by_parts}
use Rattle.ledger.proofs.Take.{take_refusal}
use Rattle.promise_sludge.specs.Sludge.{m_of, industrial_percent, domestic_percent, hundredths, defaults, highest, deposit_by, within_by, sound_by, Dry, AlikeButDry}

default_is : (t : ℕ) → carbon_of (t + 1) 0 ≡ get_or defaults t 0
unfolding carbon_of
default_is t = rw (add-one t) refl

module _ (bytes : List ℕ) where
  none : (t : ℕ) → m_of bytes t ≡ 0 → dry_of bytes (t + 1) ≡ 0
  unfolding dry_of
  none t e =
      elim (ℕ_discrete t 6) [
        | yes z ↦ rw z (rw z at e)
        | no z ↦
            elim (ℕ_discrete t 7) [
              | yes s ↦ rw s (rw s at e)
              | no s ↦ simp (ne_eqb (t + 1) 7 (λ w. omega (arith, z, w)), ne_eqb (t + 1) 8 (λ w. omega (arith, s, w)))
            ]
      ]

  -- the deposit is told by the DOC
  by_content : (t DOC : ℕ) → carbon_of (t + 1) (dry_of bytes (t + 1)) ≡ DOC → deposit_of bytes t ≡ deposit_by bytes t DOC
  unfolding deposit_of
  by_content t DOC e = rw e

  pub default_kept : (t : ℕ) → m_of bytes t ≡ 0 → deposit_of bytes t ≡ deposit_by bytes t (get_or defaults t 0)
  default_kept t e = by_content t (get_or defaults t 0) (rw (none t e) (default_is t))

  pub domestic_measured : 1 ≤ m_of bytes 6 → deposit_of bytes 6 ≡ deposit_by bytes 6 (hundredths (domestic_percent (m_of bytes 6)))
  unfolding carbon_of dry_of
  domestic_measured some = by_content 6 (hundredths (domestic_percent (m_of bytes 6))) (rw (ne_eqb (m_of bytes 6) 0 (λ z. omega (arith, some, z))) (omega arith))

  pub industrial_measured : 1 ≤ m_of bytes 7 → deposit_of bytes 7 ≡ deposit_by bytes 7 (hundredths (industrial_percent (m_of bytes 7)))
  unfolding carbon_of dry_of
  industrial_measured some = by_content 7 (hundredths (industrial_percent (m_of bytes 7))) (rw (ne_eqb (m_of bytes 7) 0 (λ z. omega (arith, some, z))) (omega arith))

  dry_when : dry_in_range bytes ≡ true → Dry bytes
  unfolding dry_in_range dry_of
  dry_when e =
      let p = both_true (leb (m_of bytes 6) 100) (leb (m_of bytes 7) 100) e in
      record { domestic_most = leb-true (m_of bytes 6) 100 p.0; industrial_most = leb-true (m_of bytes 7) 100 p.1 }

  when_dry : Dry bytes → dry_in_range bytes ≡ true
  unfolding dry_in_range dry_of
  when_dry d = simp (le-leb (m_of bytes 6) 100 d.domestic_most, le-leb (m_of bytes 7) 100 d.industrial_most)

pub over_100 : (l : Ledger) (bytes : List ℕ) (room : ℕ) → NoneAhead 8 l bytes room → (Dry bytes → ⊥) → (take_of l bytes room).refusal ≡ 8
unfolding refusal_of faults_of
over_100 l bytes room past wet = by (dry_in_range bytes) refl
  where
    by : (b : Bool) → dry_in_range bytes ≡ b → (take_of l bytes room).refusal ≡ 8
    by true e = absurd (wet (dry_when bytes e))
    by false e = take_refusal l bytes room ∙ (parted 8 (faults_of (sound l) l.n l.kind l.climate l.year bytes room) refl).1 past ∙ simp (e, and-false)

-- what the other bytes say is the same
module _ (one other : List ℕ) (alike : AlikeButDry one other) where
  byte : SameFront one other
  byte i h = alike.same_byte i (λ e. omega (arith, h, e)) (λ e. omega (arith, h, e))

  later : (i : ℕ) → 13 < i → get_or one i 0 ≡ get_or other i 0
  later i h = alike.same_byte i (λ e. omega (arith, h, e)) (λ e. omega (arith, h, e))

  masses : (t : ℕ) → mass_of one t ≡ mass_of other t
  unfolding mass_of
  masses t = rw (later (16 + 4 * t) (omega arith), later (16 + 4 * t + 1) (omega arith), later (16 + 4 * t + 1 + 1) (omega arith), later (16 + 4 * t + 1 + 1 + 1) (omega arith))

  zeros : zeros_of one ≡ zeros_of other
  unfolding zeros_of
  zeros = rw (later 14 (lit< tt), later 15 (lit< tt))

  lights : every_of (light one) 8 ≡ every_of (light other) 8
  unfolding light
  lights = every_same (light one) (light other) 8 (λ t h. rw (masses t))

  pub dry_unseen : (l : Ledger) (room : ℕ) → NoneAhead 8 l one room → NoneAhead 8 l other room
  unfolding faults_of
  dry_unseen l room past =
      rw (alike.same_length, same_codes one other byte zeros, same_period one other byte, continues_alike one other byte l.kind l.climate) at past

  pub dry_free : (l : Ledger) (room : ℕ) → Dry one → Dry other → (take_of l one room).refusal ≡ (take_of l other room).refusal
  unfolding refusal_of
  dry_free l room d d' =
      rw (
        take_refusal l one room,
        take_refusal l other room,
        faults_alike one other byte alike.same_length zeros (rw (when_dry one d, when_dry other d')) lights (sound l) l.n l.kind l.climate l.year room,
      )

pub sound_by_lem : (l : Ledger) → sound l ≡ sound_by highest l
unfolding sound in_order within_at within_of ceiling_of carbon_of sound_by within_by
sound_by_lem l = refl

pub still_sound : (l : Ledger) → sound_by defaults l ≡ true → sound l ≡ true
unfolding sound_by within_by ceiling_of
still_sound l e =
    let p = three_true (leb l.n 1200) (cond (eqb l.n 0) (all_zero l) (in_code l && every_of (within_by defaults l) 8)) (sound_year l.n l.kind l.year) e in
    elim (ℕ_discrete l.n 0) [
      | yes z ↦ sound_by_lem l ∙ simp (p.0, eq-eqb l.n 0 z, simp (eq-eqb l.n 0 z) at p.1.0, p.1.1)
      | no z ↦
          let q = both_true (in_code l) (every_of (within_by defaults l) 8) (simp (ne_eqb l.n 0 z) at p.1.0) in
          sound_by_parts l (leb-true l.n 1200 p.0) z q.0 p.1.1
          (λ t h.
          let w = three_true (leb (brought_at l t) (l.n * 10 ^ 9 * get_or defaults t 0 * 100)) (leb (stock_at l t) (brought_at l t)) (eqb (released_at l t + stock_at l t) (brought_at l t)) (every_at (within_by defaults l) 8 t h q.1) in
          let risen : get_or defaults t 0 ≤ most_carbon_of (t + 1) = rw (default_is t) at (carbon_most (t + 1) 0 zero-le) in
          (omega (arith, leb-true (brought_at l t) (l.n * 10 ^ 9 * get_or defaults t 0 * 100) w.0, mul-le-mul_right l.n risen), eqb-true (released_at l t + stock_at l t) (brought_at l t) w.1.1))
    ]
