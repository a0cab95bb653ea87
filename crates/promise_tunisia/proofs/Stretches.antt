-- The years of a stretch added, by induction on the accepted records: each year in it adds what it is off by, and any other nothing.
use mathlib.Core.Path.{◌≡◌, refl, sym, ap}
use mathlib.Core.Bool.{Bool, true, false, cond}
use mathlib.Core.List.{List, [], ◌∷◌, ◌++◌}
use Prim.Native.Nat.{ℕ, suc, min, ◌+◌, ◌-◌, ◌≤◌, ◌<◌}
use native.Mathlib.Numerals.{add-one}
use native.Mathlib.Decide.{dec_le, ℕ_discrete}
use native.Mathlib.Omega.{arith}
use borrow.Author.Tests.{le-leb}
use lib.ListN.{length}
use Rattle.numbers.specs.Fault.{between}
use Rattle.numbers.specs.Fraction.{Fraction, whole, ◌⊕◌, ◌⊖◌, ◌≼◌, ◌≺◌, total}
use Rattle.numbers.proofs.Fault.{between_low, between_high}
use Rattle.numbers.proofs.Fraction.{total_same}
use Rattle.numbers.proofs.Lists.{length_more}
use Rattle.ledger.specs.Step.{after}
use Rattle.ledger.specs.Refusal.{refusal_of}
use Rattle.ledger.specs.declared.book.Ledger.{Ledger}
use Rattle.run.proofs.History.{accepted_turn}
use Rattle.tunisia.specs.Years.{counted_year, years_from, years_of}
use Rattle.reductions.specs.Year.{Year, reference_of, project_of, project_bound, reference_bound, bounds_of, stretch_of, sums_of, with_year}
use Rattle.reductions.specs.declared.year.Sums.{Sums}
use Rattle.tunisia.proofs.Walks.{last_x0, years_more}
use Rattle.reductions.proofs.Years.{stretch_more, sums_more}
use Rattle.promise_three.specs.Offering.{Offering, records_in}
use Rattle.promise_three.specs.DemandThree.{Chosen}
use Rattle.promise_three.proofs.OneByOne.{fresh_offering, OneByOne, none_yet, one_more, records_more, n_counts}
use Rattle.promise_three.proofs.Stocks.{all_counted, Alike, alike_before}
use Rattle.promise_tunisia.specs.Exact.{exact_reference, exact_project}
use Rattle.promise_tunisia.proofs.Signed.{year_below, year_above, sum_below, sum_above}
use Rattle.promise_tunisia.proofs.Years.{reference_kept, project_kept, newest_year}

-- What sums are off by: at most their bound, and less where there is a year.
pub record Close (E : Fraction) (s : Sums) (n : ℕ) : Type 0 where
  pub most_below : E ⊕ whole s.project ≼ whole s.reference ⊕ whole s.bound
  pub most_above : whole s.reference ≼ E ⊕ whole s.project ⊕ whole s.bound
  pub below : 0 < n → E ⊕ whole s.project ≺ whole s.reference ⊕ whole s.bound
  pub above : 0 < n → whole s.reference ≺ E ⊕ whole s.project ⊕ whole s.bound

-- one year more
close_more : (E D : Fraction) (s : Sums) (year : Year) (n : ℕ) → Close E s n
    → D ⊕ whole (project_of year) ≺ whole (reference_of year) ⊕ whole (bounds_of year) → whole (reference_of year) ≺ D ⊕ whole (project_of year) ⊕ whole (bounds_of year)
    → Close (E ⊕ D) (with_year s year) (suc n)
unfolding with_year
close_more E D s year n h low high =
    let under = sum_below E D s.reference s.project s.bound (reference_of year) (project_of year) (bounds_of year) h.most_below low in
    let over = sum_above E D s.reference s.project s.bound (reference_of year) (project_of year) (bounds_of year) h.most_above high in
    record { most_below = omega (arith, under); most_above = omega (arith, over); below = λ _. under; above = λ _. over }

module _ (d : ℕ → Fraction) (first last : ℕ) (low : 1 ≤ first) where
  -- year y apart: its exact reference less its exact project
  abbrev pub apart_in : List (List ℕ) → (y : ℕ) → Fraction
  apart_in records y = exact_reference d records y ⊖ exact_project d records y

  -- how many years of the stretch are among so many
  abbrev pub among : (n : ℕ) → ℕ
  among n = min last n + 1 - first

  apart_kept : (records : List (List ℕ)) (bytes : List ℕ) (k : ℕ) → first + k ≤ suc (length records)
      → total (λ i. apart_in (records ++ (bytes ∷ [])) (first + i)) k ≡ total (λ i. apart_in records (first + i)) k
  apart_kept records bytes k high =
      total_same (λ i. apart_in (records ++ (bytes ∷ [])) (first + i)) (λ i. apart_in records (first + i)) k
      (λ i l. rw (reference_kept d records bytes (first + i) (omega arith) (omega arith), project_kept d records bytes (first + i) (omega arith) (omega arith)))

  abbrev CloseIn : Offering → Type 0
  CloseIn o = Close (total (λ i. apart_in (records_in o) (first + i)) (among (length o.accepted))) (sums_of (stretch_of first last (years_of o.accepted))) (among (length o.accepted))

  -- nothing is added
  none_added : (f g : ℕ → Fraction) → total f 0 ≡ total g 0
  unfolding total
  none_added f g = refl

  none_yet_close : CloseIn fresh_offering
  unfolding years_of years_from stretch_of sums_of total
  none_yet_close =
      let none : among 0 ≡ 0 = omega arith in
      rw none (record { most_below = omega arith; most_above = omega arith; below = λ some. absurd (omega arith); above = λ some. absurd (omega arith) })

  -- an accepted record more
  module _ (o : Offering) (bytes : List ℕ) (room : ℕ) (r : OneByOne o) (e : refusal_of o.ledger bytes room ≡ 0) (L : Ledger) (chosen : Chosen L d) (alike : Alike L o) (h : CloseIn o) where
    abbrev n : ℕ
    n = length o.accepted

    abbrev year : Year
    year = counted_year (last_x0 0 o.accepted) (accepted_turn o.ledger bytes)

    abbrev records : List (List ℕ)
    records = records_in o ++ (bytes ∷ [])

    abbrev sums : Sums
    sums = sums_of (stretch_of first last (years_of o.accepted))

    -- a year of the stretch is one more among so many; any other is not
    one_among : between first (suc n) last ≡ true → (among (suc n) ≡ suc (among n)) × (first + among n ≡ suc n)
    one_among t =
        let from = between_low first (suc n) last t in
        let to = between_high first (suc n) last t in
        (omega arith, omega arith)

    none_among : between first (suc n) last ≡ false → among (suc n) ≡ among n
    none_among t =
        elim (dec_le first (suc n)) [
          | yes from ↦
              elim (dec_le (suc n) last) [
                | yes to ↦
                    let within : between first (suc n) last ≡ true = simp (le-leb first (suc n) from, le-leb (suc n) last to) in
                    let z : ◌≡◌ {A = ℕ} 0 1 = cc in
                    absurd (omega arith)
                | no to ↦ omega arith
              ]
          | no from ↦ omega arith
        ]

    kept : total (λ i. apart_in records (first + i)) (among n) ≡ total (λ i. apart_in (records_in o) (first + i)) (among n)
    kept =
        elim (ℕ_discrete (among n) 0) [
          | yes z ↦ rw z (none_added _ _)
          | no z ↦ apart_kept (records_in o) bytes (among n) (rw (all_counted o) (omega arith))
        ]

    by_test : (test : Bool) → between first (suc n) last ≡ test
        → Close (total (λ i. apart_in records (first + i)) (among (suc n))) (cond test (with_year sums year) sums) (among (suc n))
    unfolding total bounds_of
    by_test true t =
        let on = one_among t in
        let within = newest_year d o bytes room r e L chosen alike in
        rw (on.0, kept, on.1)
        (close_more (total (λ i. apart_in (records_in o) (first + i)) (among n)) (apart_in records (suc n)) sums year (among n) h
        (year_below (exact_reference d records (suc n)) (exact_project d records (suc n)) (reference_of year) (project_of year) (reference_bound year) (project_bound year) within.0 within.1)
        (year_above (exact_reference d records (suc n)) (exact_project d records (suc n)) (reference_of year) (project_of year) (reference_bound year) (project_bound year) within.0 within.1))
    by_test false t = rw (none_among t, kept) h

    pub one_more_year : Close (total (λ i. apart_in records (first + i)) (among (suc n))) (sums_of (stretch_of first last (years_from 0 (o.accepted ++ (accepted_turn o.ledger bytes ∷ []))))) (among (suc n))
    unfolding counted_year years_of
    one_more_year =
        let number : o.ledger.n + 1 ≡ suc n = rw (n_counts o r, add-one) in
        rw (years_more 0 o.accepted (accepted_turn o.ledger bytes), stretch_more first last (years_from 0 o.accepted) year, sums_more (between first year.number last) (stretch_of first last (years_from 0 o.accepted)) year)
        (by_test (between first year.number last) (ap (λ (y : ℕ). between first y last) (sym number)))

  pub close_in : (L : Ledger) → Chosen L d → (o : Offering) → OneByOne o → Alike L o → CloseIn o
  unfolding years_of after
  close_in L chosen _ none_yet alike = none_yet_close
  close_in L chosen _ (one_more o bytes room r e) alike =
      let turn = accepted_turn o.ledger bytes in
      let same = alike (rw (length_more o.accepted turn) (omega arith)) in
      let here : Chosen (after o.ledger bytes) d = rw (same.0, same.1) at chosen in
      let before = alike_before o bytes room r e in
      rw (length_more o.accepted turn, records_more o bytes)
      (one_more_year o bytes room r e (after o.ledger bytes) here before (close_in (after o.ledger bytes) here o r before))
