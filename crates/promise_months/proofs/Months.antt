-- Every accepted month has the three values of the record that began its year, and so has the ledger: by induction on the accepted
-- records.
use mathlib.Core.Path.{◌≡◌, refl, sym, ap, ◌∙◌}
use mathlib.Core.Bool.{Bool, true, false, cond, not, and-false, or-false}
use mathlib.Core.List.{List}
use Prim.Native.Nat.{ℕ, suc, ◌+◌, ◌-◌, ◌*◌, ◌/◌, ◌%◌, ◌≤◌, ◌<◌}
use native.Mathlib.Decide.{ℕ_discrete}
use native.Mathlib.Omega.{arith}
use borrow.Author.Tests.{eq-eqb, eqb-true, eqb-false, le-leb, not-true}
use lib.ListN.{length}
use Rattle.numbers.specs.Eight.{every_of}
use Rattle.numbers.proofs.Eight.{every_each}
use Rattle.numbers.proofs.Fault.{refused_with, parted}
use Rattle.waste.specs.Waste.{mass_limit}
use Rattle.record.specs.Fields.{kind_of, mass_of}
use Rattle.record.specs.Ranges.{light}
use Rattle.year_factors.specs.YearFactors.{year_of, months, begins_year, shares, remembered}
use Rattle.year_factors.specs.declared.YearFactors.{YearFactors}
use Rattle.year_factors.proofs.Laws.{nothing_kept_lem, remembers_own, unshared, not_shared}
use Rattle.refusal.specs.Refusal.{faults_of}
use Rattle.ledger.specs.Step.{fresh, after}
use Rattle.ledger.specs.Refusal.{sound, refusal_of, NoneAhead}
use Rattle.ledger.specs.Take.{take_of}
use Rattle.ledger.specs.declared.book.Ledger.{Ledger}
use Rattle.ledger.proofs.Sound.{sound_is}
use Rattle.ledger.proofs.Accepted as step
use Rattle.ledger.proofs.Take.{take_refusal}
use Rattle.promise_three.specs.Offering.{Offering, records_in}
use Rattle.promise_three.specs.Exact.{record_at}
use Rattle.promise_months.specs.Months.{SameYear, MonthsShare, NotTheYears}
use Rattle.promise_three.proofs.OneByOne.{with_one, OneByOne, none_yet, one_more, records_more, n_counts}
use Rattle.promise_three.proofs.Stocks.{record_earlier, record_latest, all_counted}

-- the record that began the year of record i
abbrev first : ℕ → ℕ
first i = months * ((i - 1) / months) + 1

abbrev year_at : Offering → ℕ → YearFactors
year_at o i = year_of (record_at (records_in o) i)

record Shared (o : Offering) : Type 0 where
  each : (i : ℕ) → 1 ≤ i → i ≤ o.ledger.n → year_at o i ≡ year_at o (first i)
  kept : 1 ≤ o.ledger.n → o.ledger.year ≡ year_at o (first o.ledger.n)

-- one accepted month more
module _ (o : Offering) (r : OneByOne o) (bytes : List ℕ) (room : ℕ) (e : refusal_of o.ledger bytes room ≡ 0)
    (month : kind_of bytes ≡ 2) where
  abbrev l : Ledger
  l = o.ledger

  long : length (records_in o) ≡ l.n
  long = all_counted o ∙ sym (n_counts o r)

  earlier : (i : ℕ) → 1 ≤ i → i ≤ l.n → year_at (with_one o bytes) i ≡ year_at o i
  earlier i low high = rw (records_more o bytes, record_earlier (records_in o) bytes i low (omega (arith, long)))

  latest : year_at (with_one o bytes) (l.n + 1) ≡ year_of bytes
  latest =
      let at : l.n + 1 ≡ suc (length (records_in o)) = omega (arith, long) in
      rw (records_more o bytes, at, record_latest (records_in o) bytes)

  own : remembered l.n l.year bytes ≡ year_of bytes
  own = remembers_own l.n l.year bytes (eq-eqb (kind_of bytes) 2 month) (step.accepted_meets l bytes room e).shared

  -- what is then remembered is that of the record that began the year
  module _ (so_far : (l.n ≡ 0 → ⊥) → Shared o) where
    now_kept : remembered l.n l.year bytes ≡ year_at (with_one o bytes) (first (l.n + 1))
    unfolding remembered
    now_kept = by (begins_year l.n) refl
      where
        by : (b : Bool) → begins_year l.n ≡ b → remembered l.n l.year bytes ≡ year_at (with_one o bytes) (first (l.n + 1))
        by true b =
            let here : first (l.n + 1) ≡ l.n + 1 = omega (arith, eqb-true (l.n % months) 0 b) in
            own ∙ sym latest ∙ ap (year_at (with_one o bytes)) (sym here)
        by false b =
            let mid = eqb-false (l.n % months) 0 b in
            let there : first l.n ≡ first (l.n + 1) = omega (arith, mid) in
            simp (b, and-false)
            ((so_far (λ z. omega (arith, mid, z))).kept (omega (arith, mid)) ∙ sym (earlier (first l.n) (omega arith) (omega (arith, mid))) ∙ ap (year_at (with_one o bytes)) there)

    shared_on : Shared (with_one o bytes)
    unfolding after
    shared_on =
        record {
          each = λ i low high.
              elim (ℕ_discrete i (l.n + 1)) [
                | yes z ↦ rw z (latest ∙ sym own ∙ now_kept)
                | no z ↦
                    earlier i low (omega (arith, high, z))
                    ∙ (so_far (λ none. omega (arith, low, high, z, none))).each i low (omega (arith, high, z))
                    ∙ sym (earlier (first i) (omega arith) (omega (arith, low, high, z)))
              ];
          kept = λ some. now_kept;
        }

shared : (o : Offering) → OneByOne o → o.ledger.kind ≡ 2 → Shared o
unfolding fresh after
shared _ none_yet k = record { each = λ i low high. absurd (omega (arith, low, high)); kept = λ some. absurd (omega (arith, some)) }
shared _ (one_more o bytes room r e) k =
    shared_on o r bytes room e k (λ some. shared o r (sym ((step.accepted_meets o.ledger bytes room e).same some).0 ∙ k))

same_three : (one other : List ℕ) → year_of one ≡ year_of other → SameYear one other
unfolding year_of
same_three one other e =
    record { same_factor = ap (λ (y : YearFactors). y.factor) e; same_captured = ap (λ (y : YearFactors). y.captured) e; same_class = ap (λ (y : YearFactors). y.class) e }

ledger_sound : (o : Offering) → OneByOne o → sound o.ledger ≡ true
ledger_sound _ none_yet = step.fresh_sound
ledger_sound _ (one_more o bytes room r e) = step.stays_sound o.ledger bytes (step.accepted_meets o.ledger bytes room e)

pub months_share : (o : Offering) → OneByOne o → MonthsShare o
months_share o r =
    record {
      one_year = λ month i k low high low' high' same.
          let s = shared o r month in
          same_three (record_at (records_in o) i) (record_at (records_in o) k)
          (s.each i low high ∙ ap (λ (q : ℕ). year_at o (months * q + 1)) same ∙ sym (s.each k low' high'));
      remembers = λ month. (shared o r month).kept;
      yearly_zero = λ year. nothing_kept_lem o.ledger.n o.ledger.kind o.ledger.year (sound_is o.ledger (ledger_sound o r)).year (rw year);
    }

not_the_years : (l : Ledger) (bytes : List ℕ) → shares l.n l.year bytes ≡ false → NotTheYears l bytes
not_the_years l bytes e = let u = unshared l.n l.year bytes e in record { by_month = u.0; mid_year = u.1.0; unlike = u.1.1 }

-- where none of 1 to 8 is there, the year decides, and then the masses
module _ (l : Ledger) (bytes : List ℕ) (room : ℕ) (past : NoneAhead 17 l bytes room) where
  decides : (take_of l bytes room).refusal ≡ cond (not (shares l.n l.year bytes)) 17 (cond (not (every_of (light bytes) 8)) 9 0)
  unfolding refusal_of faults_of
  decides =
      take_refusal l bytes room ∙ (parted 17 (faults_of (sound l) l.n l.kind l.climate l.year bytes room) refl).1 past

  pub always_17 : NotTheYears l bytes → (take_of l bytes room).refusal ≡ 17
  always_17 u = decides ∙ simp (not_shared l.n l.year bytes u.by_month u.mid_year u.unlike)

  pub year_kept : (NotTheYears l bytes → ⊥) → ((t : ℕ) → t < 8 → mass_of bytes t ≤ mass_limit) → (take_of l bytes room).refusal ≡ 0
  unfolding light
  year_kept kept few = by (shares l.n l.year bytes) refl
    where
      by : (b : Bool) → shares l.n l.year bytes ≡ b → (take_of l bytes room).refusal ≡ 0
      by true e = decides ∙ simp (e, every_each (light bytes) 8 (λ t place. le-leb (mass_of bytes t) mass_limit (few t place)))
      by false e = absurd (kept (not_the_years l bytes e))

pub only_17 : (l : Ledger) (bytes : List ℕ) (room : ℕ) → (take_of l bytes room).refusal ≡ 17 → NotTheYears l bytes
unfolding refusal_of faults_of
only_17 l bytes room e =
    let there = refused_with 16 (faults_of (sound l) l.n l.kind l.climate l.year bytes room) (sym (take_refusal l bytes room) ∙ e) in
    not_the_years l bytes (not-true (shares l.n l.year bytes) (rw (or-false (not (shares l.n l.year bytes))) at there))
