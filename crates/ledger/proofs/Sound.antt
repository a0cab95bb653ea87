-- What a sound ledger holds of each type, and that a ledger of which all that holds is sound.
use mathlib.Core.Path.{◌≡◌, refl, sym, ap, ◌∙◌}
use mathlib.Core.Bool.{Bool, true, false, cond, ◌&&◌, and-false}
use Prim.Native.Nat.{ℕ, zero, suc, ◌+◌, ◌-◌, ◌*◌, ◌^◌, ◌≤◌, ◌<◌}
use native.Mathlib.Decide.{ℕ_discrete}
use native.Mathlib.Nat.{zero-mul, add-zero, mul-le-mul_right}
use native.Mathlib.Omega.{arith}
use borrow.Author.Tests.{eq-eqb, ne_eqb, le-leb, leb-true, eqb-true}
use lib.Dec.{eqb, leb, leb-suc-zero, eqb-suc-zero}
use Rattle.numbers.specs.Eight.{eight, every_of}
use Rattle.numbers.proofs.Eight.{both_true, three_true, every_at, every_each, every_same, eight_same, sum_at_most}
use Rattle.waste.specs.Waste.{mass_limit, carbon_of, most_carbon_of}
use Rattle.carbon.specs.Carbon.{most_records, most_brought, ceiling_of, within_of}
use Rattle.carbon.proofs.Laws.{ceiling_most}
use Rattle.year_factors.specs.YearFactors.{sound_year}
use Rattle.ledger.specs.Step.{brought_at, stock_at, released_at}
use Rattle.ledger.specs.Refusal.{sound, blank, in_code, all_zero, in_order, empty_at, within_at}
use Rattle.ledger.specs.Take.{total_released}
use Rattle.ledger.specs.declared.book.Ledger.{Ledger}

-- Of each type R is at most T, and T at most its ceiling, which is at most that of dry domestic sludge; released and R make up T.
pub record WithinCeiling (l : Ledger) (t : ℕ) : Type 0 where
  pub kept : stock_at l t ≤ brought_at l t
  pub ceiling : brought_at l t ≤ ceiling_of l.n t
  pub small : brought_at l t ≤ most_brought
  pub parted : released_at l t + stock_at l t ≡ brought_at l t

within : (l : Ledger) (t : ℕ) → l.n ≤ most_records → brought_at l t ≤ ceiling_of l.n t → released_at l t + stock_at l t ≡ brought_at l t → WithinCeiling l t
within l t few high parts = record { kept = omega arith; ceiling = high; small = omega (arith, ceiling_most l.n t few); parted = parts }

abbrev pub YearSound : Ledger → Type 0
YearSound l = sound_year l.n l.kind l.year ≡ true

pub record Sound (l : Ledger) : Type 0 where
  pub few : l.n ≤ most_records
  pub at : (t : ℕ) → t < 8 → WithinCeiling l t
  pub year : YearSound l

-- a ledger with no records
empty : (l : Ledger) → l.n ≤ most_records → l.n ≡ 0 → all_zero l ≡ true → YearSound l → Sound l
unfolding all_zero empty_at
empty l few z e year =
    let p = both_true (blank l) (every_of (empty_at l) 8) e in
    let at : (t : ℕ) → t < 8 → WithinCeiling l t
    = λ t h. let q = three_true (eqb (brought_at l t) 0) (eqb (stock_at l t) 0) (eqb (released_at l t) 0) (every_at (empty_at l) 8 t h p.1) in
    let T = eqb-true (brought_at l t) 0 q.0 in
    within l t few (omega (arith, T)) (omega (arith, T, eqb-true (stock_at l t) 0 q.1.0, eqb-true (released_at l t) 0 q.1.1)) in
    record { few = few; at = at; year = year }

-- a ledger with some
ordered : (l : Ledger) → l.n ≤ most_records → in_order l ≡ true → YearSound l → Sound l
unfolding in_order within_at within_of
ordered l few e year =
    let p = both_true (in_code l) (every_of (within_at l) 8) e in
    let at : (t : ℕ) → t < 8 → WithinCeiling l t
    = λ t h. let q = three_true (leb (brought_at l t) (ceiling_of l.n t)) (leb (stock_at l t) (brought_at l t)) (eqb (released_at l t + stock_at l t) (brought_at l t)) (every_at (within_at l) 8 t h p.1) in
    within l t few (leb-true (brought_at l t) (ceiling_of l.n t) q.0) (eqb-true (released_at l t + stock_at l t) (brought_at l t) q.1.1) in
    record { few = few; at = at; year = year }

pub sound_is : (l : Ledger) → sound l ≡ true → Sound l
unfolding sound
sound_is l e =
    let p = three_true (leb l.n most_records) (cond (eqb l.n 0) (all_zero l) (in_order l)) (sound_year l.n l.kind l.year) e in
    let few : l.n ≤ most_records = leb-true l.n most_records p.0 in
    elim (ℕ_discrete l.n 0) [
      | yes z ↦ empty l few z (simp (eq-eqb l.n 0 z) at p.1.0) p.1.1
      | no z ↦ ordered l few (simp (ne_eqb l.n 0 z) at p.1.0) p.1.1
    ]

-- What is gone of T is what was released.
pub gone_is : (l : Ledger) → sound l ≡ true → eight (λ t. brought_at l t - stock_at l t) ≡ eight (released_at l)
gone_is l e =
    eight_same (λ t. brought_at l t - stock_at l t) (released_at l) (λ t h. omega (arith, ((sound_is l e).at t h).parted))

-- What all types have released is at most what 1200 records can bring: 1200 × 10^9 kg of each type, whose DOC add up to 21771.
pub released_most : (l : Ledger) → sound l ≡ true → total_released l ≤ 1200 * 10 ^ 9 * 21771 * 100
unfolding total_released ceiling_of carbon_of
released_most l e =
    let s = sound_is l e in
    let each : (t : ℕ) → t < 8 → released_at l t ≤ ceiling_of most_records t
    = λ t h. let w = s.at t h in omega (arith, w.parted, w.ceiling, mul-le-mul_right (mass_limit * most_carbon_of (t + 1) * 100) s.few) in
    sum_at_most (released_at l) (ceiling_of most_records) 8 each

-- A ledger with records, in order, is sound.
pub sound_by_parts : (l : Ledger) → l.n ≤ most_records → (l.n ≡ 0 → ⊥) → in_code l ≡ true → YearSound l
    → ((t : ℕ) → t < 8 → (brought_at l t ≤ ceiling_of l.n t) × (released_at l t + stock_at l t ≡ brought_at l t)) → sound l ≡ true
unfolding sound in_order within_at within_of
sound_by_parts l few some code year at =
    let every : every_of (within_at l) 8 ≡ true
    = every_each (within_at l) 8 (λ t h. let p = at t h in simp (
      le-leb (brought_at l t) (ceiling_of l.n t) p.0,
      le-leb (stock_at l t) (brought_at l t) (omega (arith, p.1)),
      eq-eqb (released_at l t + stock_at l t) (brought_at l t) p.1,
    )) in
    simp (le-leb l.n most_records few, ne_eqb l.n 0 some, code, every, year)

-- With no records T within a ceiling of 0 is 0, and so are its parts: one test over the types serves every sound ledger.
none_within : (T R released : ℕ) → (leb T 0 && leb R T && eqb (released + R) T) ≡ (eqb T 0 && eqb R 0 && eqb released 0)
none_within zero zero released = simp add-zero
none_within zero (suc R) released = simp (leb-suc-zero, eqb-suc-zero)
none_within (suc T) R released = simp (leb-suc-zero, eqb-suc-zero)

same : (l : Ledger) (t : ℕ) → l.n ≡ 0 → within_at l t ≡ empty_at l t
unfolding within_at within_of empty_at ceiling_of
same l t z = simp (z, zero-mul) (none_within (brought_at l t) (stock_at l t) (released_at l t))

module _ (l : Ledger) where
  abbrev codes : Bool
  codes = cond (eqb l.n 0) (blank l) (in_code l)

  -- the codes, and what every type may have, whatever n is
  with_codes : (leb l.n most_records && cond (eqb l.n 0) (all_zero l) (in_order l)) ≡ (leb l.n most_records && (codes && every_of (within_at l) 8))
  unfolding all_zero in_order
  with_codes =
      elim (ℕ_discrete l.n 0) [
        | yes z ↦ simp (eq-eqb l.n 0 z, every_same (within_at l) (empty_at l) 8 (λ t h. same l t z))
        | no z ↦ simp (ne_eqb l.n 0 z)
      ]

  pub sound_tests : sound l ≡ (codes && (leb l.n most_records && every_of (within_at l) 8) && sound_year l.n l.kind l.year)
  unfolding sound
  sound_tests = ap (λ (b : Bool). b && sound_year l.n l.kind l.year) (with_codes ∙ turned (leb l.n most_records) codes (every_of (within_at l) 8))
    where
      turned : (a b c : Bool) → (a && (b && c)) ≡ (b && (a && c))
      turned true b c = refl
      turned false b c = sym (and-false b)
