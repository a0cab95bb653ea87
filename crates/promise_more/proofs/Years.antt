-- The years of two files: year y is made of what is known before record y, so it is no less where the ledger before it holds no less.
use mathlib.Core.Path.{◌≡◌, refl, sym, ap, ◌∙◌}
use mathlib.Core.Bool.{Bool, true, false, cond}
use mathlib.Core.List.{List, [], ◌∷◌}
use Prim.Native.Nat.{ℕ, suc, ◌+◌, ◌≤◌, ◌<◌, zero-le}
use native.Mathlib.Decide.{ℕ_discrete}
use native.Mathlib.Omega.{arith}
use borrow.Author.Tests.{eq-eqb}
use lib.ListN.{length}
use Rattle.numbers.specs.Fault.{between}
use Rattle.numbers.specs.Lists.{added, Each}
use Rattle.record.proofs.Front.{same_factors}
use Rattle.record.specs.Fields.{record_bytes}
use Rattle.figure.proofs.Grows.{b_grows}
use Rattle.ledger.specs.Step.{fresh, brought_at}
use Rattle.ledger.specs.Refusal.{sound}
use Rattle.ledger.specs.Take.{accepted_of}
use Rattle.ledger.specs.declared.book.Ledger.{Ledger}
use Rattle.ledger.proofs.Accepted.{fresh_sound, accepted_meets, accepted_sound}
use Rattle.run.specs.History.{leading, ending, records_of}
use Rattle.run.proofs.History.{accepted_turn}
use Rattle.reductions.specs.Year.{Year, reference_of, project_of, bounds_of, stretch_of}
use Rattle.reductions.proofs.Years.{reference_grows, project_grows, bounds_grow}
use Rattle.tunisia.specs.Years.{refusal_by_year, turns_by_year, accepted_years, refusal_after, counted_year, years_from, years_of}
use Rattle.tunisia.specs.Reduction.{answer_over, reduction_of}
use Rattle.tunisia.proofs.ByYear.{year_goes_on, year_stops}
use Rattle.promise_tunisia.specs.Reported.{StretchOfYears, reported, none_left, next_refused}
use Rattle.promise_tunisia.proofs.Offered.{taken_in_a_run, year_offering, years_one_by_one}
use Rattle.promise_tunisia.proofs.Years.{years_length}
use Rattle.promise_tunisia.proofs.Ends.{years_end}
use Rattle.promise_tunisia.proofs.Refusals.{answered, answered_where}
use Rattle.promise_tunisia.proofs.Alone.{Numbered, numbered, none_past}
use Rattle.promise_more.specs.More.{EqualButMasses, MoreWaste, WithinLimit, Pairs, InFiles}
use Rattle.promise_more.specs.Years.{YearNoLess, StretchNoLess, SameYears}
use Rattle.promise_more.proofs.Records.{front, SamePlace, fresh_place, place_after, accepts_by_year}
use Rattle.promise_more.proofs.Steps.{HoldsMore, fresh_holds, more_after, no_less}

-- What is said of the first things of two lists, the second ones, and so on, as far as both go.
abbrev Together : {A : Type 0} → (A → A → Type 0) → (first second : List A) → Type 0
Together P [] ys = Unit
Together P (x ∷ xs) [] = Unit
Together P (x ∷ xs) (y ∷ ys) = P x y × Together P xs ys

module _ {A : Type 0} (P : A → A → Type 0) where
  pairs : (xs ys : List A) → length xs ≡ length ys → Together P xs ys → Pairs P xs ys
  pairs [] [] same p = tt
  pairs [] (y ∷ ys) same p = absurd (omega arith)
  pairs (x ∷ xs) [] same p = absurd (omega arith)
  pairs (x ∷ xs) (y ∷ ys) same p = (p.0, pairs xs ys (omega arith) p.1)

  pairs_length : (xs ys : List A) → Pairs P xs ys → length xs ≡ length ys
  pairs_length [] [] p = refl
  pairs_length [] (y ∷ ys) p = absurd p
  pairs_length (x ∷ xs) [] p = absurd p
  pairs_length (x ∷ xs) (y ∷ ys) p = ap suc (pairs_length xs ys p.1)

-- One year.
module _ (l l' : Ledger) (s : SamePlace l l') (h : HoldsMore l l') (one other : List ℕ) (m : MoreWaste one other) where
  year_no_less : (x0 x0' : ℕ) → x0 ≤ x0' → YearNoLess (counted_year x0 (accepted_turn l one)) (counted_year x0' (accepted_turn l' other))
  unfolding counted_year
  year_no_less x0 x0' more =
      let year = counted_year x0 (accepted_turn l one) in
      let year' = counted_year x0' (accepted_turn l' other) in
      let same : year.factors ≡ year'.factors = same_factors one other (front one other m.equal) in
      let b_more : year.B ≤ year'.B = rw s.n (b_grows l'.n (brought_at l) (brought_at l') h.brought) in
      record {
        same_number = omega (arith, s.n);
        reference = reference_grows year year' same more;
        project = project_grows year year' same more;
        reference_bound_lem = (bounds_grow year year' same b_more).1;
        project_bound_lem = (bounds_grow year year' same b_more).0;
      }

-- All years, as far as both files are accepted.
years_together : (first second : List (List ℕ)) (l l' : Ledger) (x0 x0' : ℕ) → SamePlace l l' → HoldsMore l l' → x0 ≤ x0' → Pairs MoreWaste first second
    → Together YearNoLess (years_from x0 (leading (turns_by_year l first))) (years_from x0' (leading (turns_by_year l' second)))
unfolding turns_by_year leading years_from accepted_of
years_together [] [] l l' x0 x0' s h more m = tt
years_together [] (other ∷ second) l l' x0 x0' s h more m = absurd m
years_together (one ∷ first) [] l l' x0 x0' s h more m = absurd m
years_together (one ∷ first) (other ∷ second) l l' x0 x0' s h more m =
    elim (ℕ_discrete (refusal_by_year l one) 0) [
      | no e ↦ rw (year_stops l one first e).0 tt
      | yes e ↦
          rw (year_goes_on l one first e).0
          (elim (ℕ_discrete (refusal_by_year l' other) 0) [
            | no e' ↦ rw (year_stops l' other second e').0 tt
            | yes e' ↦
                rw (year_goes_on l' other second e').0 (
                  year_no_less l l' s h one other m.0 x0 x0' more,
                  years_together first second (accepted_of l one).ledger (accepted_of l' other).ledger (accepted_of l one).x0 (accepted_of l' other).x0
                      (place_after l l' s one other m.0.equal) (more_after l l' s h one other m.0) (no_less l l' s h one other m.0).x0 m.1,
                )
          ])
    ]

module _ (first second : List ℕ) where
  together : InFiles MoreWaste first second → Together YearNoLess (years_of (accepted_years first)) (years_of (accepted_years second))
  unfolding years_of accepted_years
  together m =
      years_together (records_of first) (records_of second) fresh fresh 0 0 fresh_place fresh_holds (omega arith) m

-- There is a year for each accepted record, and so for each record where none is refused.
years_count : (file : List ℕ) → length (years_of (accepted_years file)) ≡ length (accepted_years file)
unfolding years_of
years_count file = years_length 0 (accepted_years file)

all_years : (file : List ℕ) → refusal_after file ≡ 0 → length (years_of (accepted_years file)) ≡ length (records_of file)
all_years file none =
    elim (years_end file) [
      | none_left all z ↦ years_count file ∙ all
      | next_refused some e above ↦ absurd (omega (arith, above, none))
    ]

pub more_by_year : (first second : List ℕ) → InFiles MoreWaste first second → refusal_after first ≡ 0 → refusal_after second ≡ 0
    → Pairs YearNoLess (years_of (accepted_years first)) (years_of (accepted_years second))
more_by_year first second m none none' =
    let same = all_years first none ∙ pairs_length MoreWaste (records_of first) (records_of second) m ∙ sym (all_years second none') in
    pairs YearNoLess (years_of (accepted_years first)) (years_of (accepted_years second)) same (together first second m)

-- A number of each year, added over a stretch that lies within the second file's years.
module _ (f : Year → ℕ) (grows : (x y : Year) → YearNoLess x y → f x ≤ f y) (from to : ℕ) where
  added_grows : (i : ℕ) (xs ys : List Year) → Each Numbered i xs → Together YearNoLess xs ys → to < i + length ys
      → added f (stretch_of from to xs) ≤ added f (stretch_of from to ys)
  unfolding stretch_of
  added_grows i [] ys numbers p far = zero-le
  added_grows i (x ∷ xs) [] numbers p far = rw (none_past from to i (x ∷ xs) (omega arith) numbers) zero-le
  added_grows i (x ∷ xs) (y ∷ ys) numbers p far =
      let on = added_grows (i + 1) xs ys numbers.1 p.1 (omega arith) in
      with_first (stretch_of from to xs) (stretch_of from to ys) on (between from x.number to) (between from y.number to) (ap (λ (k : ℕ). between from k to) p.0.same_number)
    where
      with_one_lem : (rest rest' : List Year) → added f rest ≤ added f rest' → (test : Bool) → added f (cond test (x ∷ rest) rest) ≤ added f (cond test (y ∷ rest') rest')
      with_one_lem rest rest' on true = omega (arith, grows x y p.0, on)
      with_one_lem rest rest' on false = on

      with_first : (rest rest' : List Year) → added f rest ≤ added f rest' → (test test' : Bool) → test ≡ test' → added f (cond test (x ∷ rest) rest) ≤ added f (cond test' (y ∷ rest') rest')
      with_first rest rest' on test test' same = rw same (with_one_lem rest rest' on test')

-- what is answered for a stretch that is not refused
answer_is : (s : StretchOfYears) → (reported s).refusal ≡ 0
    → reported s ≡ answer_over (stretch_of s.first s.last (years_of (accepted_years s.file))) s.electricity s.fuel (length (accepted_years s.file)) (refusal_after s.file)
unfolding reduction_of
answer_is s none = simp (eq-eqb _ 0 (answered s none))

both_bounds : (x y : Year) → YearNoLess x y → bounds_of x ≤ bounds_of y
unfolding bounds_of
both_bounds x y p = omega (arith, p.reference_bound_lem, p.project_bound_lem)

pub more_over_years : (first second : StretchOfYears) → SameYears first second → InFiles MoreWaste first.file second.file
    → (reported first).refusal ≡ 0 → (reported second).refusal ≡ 0 → StretchNoLess (reported first) (reported second)
unfolding answer_over
more_over_years first second same m none none' =
    let years = years_of (accepted_years first.file) in
    let years' = years_of (accepted_years second.file) in
    let within = ((answered_where second).0 none').0 in
    let far : second.last < 1 + length years' = omega (arith, within.2, years_count second.file) in
    let grown : (f : Year → ℕ) → ((x y : Year) → YearNoLess x y → f x ≤ f y) → added f (stretch_of second.first second.last years) ≤ added f (stretch_of second.first second.last years')
    = λ f grows. added_grows f grows second.first second.last 1 years years' (numbered (year_offering first.file) (years_one_by_one first.file)) (together first.file second.file m) far in
    rw (answer_is first none, answer_is second none', same.same_first, same.same_last)
    (record {
      reference = grown reference_of (λ x y p. p.reference);
      project = grown project_of (λ x y p. p.project);
      bound = grown bounds_of both_bounds;
    })

-- The second file is accepted in this mode where the first one is, and its masses are within the limit.
ends_too : (first second : List (List ℕ)) (i : ℕ) (l l' : Ledger) → SamePlace l l' → sound l' ≡ true → Pairs EqualButMasses first second
    → Each (λ i bytes. WithinLimit bytes) i second → ending (turns_by_year l first) ≡ 0 → ending (turns_by_year l' second) ≡ 0
unfolding turns_by_year ending accepted_of
ends_too [] [] i l l' s good m within none = refl
ends_too [] (other ∷ second) i l l' s good m within none = absurd m
ends_too (one ∷ first) [] i l l' s good m within none = absurd m
ends_too (one ∷ first) (other ∷ second) i l l' s good m within none =
    elim (ℕ_discrete (refusal_by_year l one) 0) [
      | no e ↦ absurd (e (sym (year_stops l one first e).1 ∙ none))
      | yes e ↦
          let e' = accepts_by_year l l' s one other m.0 good within.0 e in
          let still = accepted_sound l' other (accepted_meets l' other record_bytes (taken_in_a_run l' other e')) in
          (year_goes_on l' other second e').1
          ∙ ends_too first second (i + 1) (accepted_of l one).ledger (accepted_of l' other).ledger (place_after l l' s one other m.0) still m.1 within.1
          (sym (year_goes_on l one first e).1 ∙ none)
    ]

pub still_accepted_by_year : (first second : List ℕ) → InFiles EqualButMasses first second → refusal_after first ≡ 0
    → Each (λ i bytes. WithinLimit bytes) 1 (records_of second) → refusal_after second ≡ 0
unfolding refusal_after
still_accepted_by_year first second m none within =
    ends_too (records_of first) (records_of second) 1 fresh fresh fresh_place fresh_sound m within none
