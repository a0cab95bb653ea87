-- Every year's figures, by induction on the accepted records: what year y takes of year y − 1 is beside its exact value, and so are the
-- chains on it; later records change nothing that an earlier year is made of.
use mathlib.Core.Path.{◌≡◌, refl, ap}
use mathlib.Core.Bool.{false}
use mathlib.Core.List.{List, [], ◌∷◌, ◌++◌}
use Prim.Native.Nat.{ℕ, suc, ◌+◌, ◌-◌, ◌*◌, ◌/◌, ◌≤◌, ◌<◌}
use native.Mathlib.Nat.{mul-le-mul_right}
use native.Mathlib.Numerals.{add-one}
use native.Mathlib.Decide.{ℕ_discrete}
use native.Mathlib.Omega.{arith}
use borrow.Author.Tests.{lt-leb}
use lib.Dec.{leb}
use lib.ListN.{length}
use Rattle.numbers.specs.Fraction.{Fraction, over, ◌⊗◌, WithinBound}
use Rattle.numbers.specs.Lists.{Each}
use Rattle.numbers.proofs.Fraction.{total_same}
use Rattle.numbers.proofs.Lists.{length_more, each_map, each_more}
use Rattle.record.specs.Fields.{factors_of}
use Rattle.record.proofs.Laws.{ranged}
use Rattle.figure.specs.Figure.{grams_of, figure_of, margin_of, b_of, bound_of}
use Rattle.ledger.specs.Step.{fresh, brought_at, after}
use Rattle.ledger.specs.Refusal.{refusal_of}
use Rattle.ledger.specs.Take.{accepted_of}
use Rattle.ledger.specs.declared.book.Ledger.{Ledger}
use Rattle.ledger.proofs.Accepted as step
use Rattle.run.specs.History.{Turn}
use Rattle.run.proofs.History.{accepted_turn}
use Rattle.tunisia.specs.Years.{counted_year, years_from, years_of}
use Rattle.reductions.specs.Year.{Year, in_class, reference_of, project_of, project_bound, reference_bound}
use Rattle.tunisia.proofs.Walks.{last_x0, years_more, last_more}
use Rattle.reductions.proofs.Years.{in_class_lem}
use Rattle.promise_three.specs.Offering.{Offering, records_in}
use Rattle.promise_three.specs.Exact.{record_at, exact_release_at}
use Rattle.promise_three.specs.DemandThree.{Chosen}
use Rattle.promise_three.proofs.OneByOne.{OneByOne, none_yet, one_more, records_more, n_counts}
use Rattle.promise_three.proofs.Stocks.{record_earlier, record_latest, all_counted, Alike, alike_before}
use Rattle.promise_three.proofs.Release.{Beside}
use Rattle.promise_three.proofs.Figure.{chain}
use Rattle.promise_three.proofs.Figures.{release_kept, newest_beside}
use Rattle.promise_tunisia.specs.Exact.{exact_before, exact_in_class, exact_reference, exact_project}

-- × 73 / 100 and rounded down: the bound grows by one gram.
scaled : (exact : Fraction) (figure bound : ℕ) → WithinBound exact figure bound → WithinBound (exact ⊗ over 73 100 (omega arith)) (figure * 73 / 100) (bound + 1)
scaled exact figure bound h =
    let low : 100 * (figure * 73 / 100) ≤ figure * 73 = omega arith in
    let high : figure * 73 < 100 * (figure * 73 / 100 + 1) = omega arith in
    record {
      exact_below = omega (arith, h.exact_below, mul-le-mul_right exact.den high, exact.pos);
      figure_below = omega (arith, h.figure_below, mul-le-mul_right exact.den low, exact.pos);
    }

-- There are as many years as accepted records.
pub years_length : (x0 : ℕ) (turns : List Turn) → length (years_from x0 turns) ≡ length turns
unfolding years_from
years_length x0 [] = refl
years_length x0 (turn ∷ rest) = ap suc (years_length turn.answer.x0 rest)

module _ (d : ℕ → Fraction) where
  -- The exact formulas of a year that is there do not change with one record more.
  module _ (records : List (List ℕ)) (bytes : List ℕ) (y : ℕ) (low : 1 ≤ y) where
    abbrev more : List (List ℕ)
    more = records ++ (bytes ∷ [])

    pub before_kept : y ≤ suc (length records) → exact_before d more y ≡ exact_before d records y
    unfolding exact_before
    before_kept high =
        elim (ℕ_discrete y 1) [
          | yes z ↦ rw z
          | no z ↦
              rw (lt-leb y 1 (omega arith))
              (total_same (exact_release_at d more (y - 1)) (exact_release_at d records (y - 1)) 8
              (λ t _. release_kept d records bytes (y - 1) (omega arith) (omega arith) t))
        ]

    in_kept : (class : ℕ) → y ≤ length records → exact_in_class d more class y ≡ exact_in_class d records class y
    unfolding exact_in_class
    in_kept class high = rw (before_kept (omega arith), record_earlier records bytes y low high)

    pub reference_kept : y ≤ length records → exact_reference d more y ≡ exact_reference d records y
    unfolding exact_reference
    reference_kept high = rw (in_kept 1 high)

    pub project_kept : y ≤ length records → exact_project d more y ≡ exact_project d records y
    unfolding exact_project
    project_kept high = in_kept 2 high

  -- What the next year takes: nothing where there is no record, else what the last one released.
  none_before : b_of fresh.n (brought_at fresh) ≡ 0
  unfolding fresh b_of margin_of
  none_before = refl

  next_beside : (L : Ledger) → Chosen L d → (o : Offering) → OneByOne o → Alike L o
      → Beside (exact_before d (records_in o) (suc (length o.accepted))) (last_x0 0 o.accepted) (b_of o.ledger.n (brought_at o.ledger))
  unfolding exact_before accepted_of after
  next_beside L chosen _ none_yet alike = rw none_before (record { above = omega arith; below = omega arith })
  next_beside L chosen _ (one_more o bytes room r e) alike =
      let n = length o.accepted in
      let late : leb (suc (suc n)) 1 ≡ false = lt-leb (suc (suc n)) 1 (omega arith) in
      let back : suc (suc n) - 1 ≡ suc n = omega arith in
      let count : o.ledger.n + 1 ≡ suc n = rw (n_counts o r, add-one) in
      let turn = accepted_turn o.ledger bytes in
      let same = alike (rw (length_more o.accepted turn) (omega arith)) in
      let here : Chosen (after o.ledger bytes) d = rw (same.0, same.1) at chosen in
      rw (length_more o.accepted turn, records_more o bytes, last_more 0 o.accepted turn, late, back, count) (newest_beside d o bytes room r e here)

  -- The year of one record more: its figure in a class, and both figures.
  module _ (o : Offering) (bytes : List ℕ) (room : ℕ) (r : OneByOne o) (e : refusal_of o.ledger bytes room ≡ 0) (L : Ledger) (chosen : Chosen L d) (alike : Alike L o) where
    abbrev records : List (List ℕ)
    records = records_in o ++ (bytes ∷ [])

    abbrev y : ℕ
    y = suc (length o.accepted)

    abbrev year : Year
    year = counted_year (last_x0 0 o.accepted) (accepted_turn o.ledger bytes)

    in_class_within : (class : ℕ)
        → WithinBound (exact_in_class d records class y) (figure_of (in_class class year.factors) year.release) (bound_of year.factors year.B)
    unfolding exact_in_class counted_year bound_of grams_of in_class
    in_class_within class =
        let last : record_at records y ≡ bytes = rw (all_counted o) at (record_latest (records_in o) bytes) in
        let v = in_class class (factors_of bytes) in
        rw (last, before_kept (records_in o) bytes y (omega arith) (rw (all_counted o) (omega arith)))
        (chain v (ranged v (in_class_lem (factors_of bytes) class (step.accepted_meets o.ledger bytes room e).ranges))
        (exact_before d (records_in o) y) (last_x0 0 o.accepted) (b_of o.ledger.n (brought_at o.ledger)) (next_beside L chosen o r alike))

    pub newest_year : WithinBound (exact_reference d records y) (reference_of year) (reference_bound year) × WithinBound (exact_project d records y) (project_of year) (project_bound year)
    unfolding exact_reference exact_project reference_of project_of reference_bound project_bound
    newest_year = (scaled _ _ _ (in_class_within 1), in_class_within 2)

  -- What is said of year y of some records.
  abbrev pub YearOf : List (List ℕ) → (y : ℕ) → Year → Type 0
  YearOf records y year =
      WithinBound (exact_reference d records y) (reference_of year) (reference_bound year) × WithinBound (exact_project d records y) (project_of year) (project_bound year)

  pub each_year : (L : Ledger) → Chosen L d → (o : Offering) → OneByOne o → Alike L o → Each (YearOf (records_in o)) 1 (years_of o.accepted)
  unfolding years_of years_from after
  each_year L chosen _ none_yet alike = tt
  each_year L chosen _ (one_more o bytes room r e) alike =
      let turn = accepted_turn o.ledger bytes in
      let same = alike (rw (length_more o.accepted turn) (omega arith)) in
      let here : Chosen (after o.ledger bytes) d = rw (same.0, same.1) at chosen in
      let before = alike_before o bytes room r e in
      let records = records_in o ++ (bytes ∷ []) in
      let last : 1 + length (years_from 0 o.accepted) ≡ suc (length o.accepted) = omega (arith, years_length 0 o.accepted) in
      rw (records_more o bytes, years_more 0 o.accepted turn)
      (each_more (YearOf records) 1 (years_from 0 o.accepted) (counted_year (last_x0 0 o.accepted) turn)
      (each_map (YearOf (records_in o)) (YearOf records) 1 (years_from 0 o.accepted)
      (λ i year low high p. let in-records : i ≤ length (records_in o) = rw (all_counted o) (omega (arith, years_length 0 o.accepted)) in
      rw (reference_kept (records_in o) bytes i low in-records, project_kept (records_in o) bytes i low in-records) p)
      (each_year (after o.ledger bytes) here o r before))
      (rw last (newest_year o bytes room r e (after o.ledger bytes) here before)))
