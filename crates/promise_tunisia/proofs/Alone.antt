-- Years are numbered from 1 on, so a stretch has no year past its last, and one of one year has that year and no other.
use mathlib.Core.Path.{◌≡◌, refl}
use mathlib.Core.Bool.{and-false}
use mathlib.Core.List.{List, [], ◌∷◌}
use Prim.Native.Nat.{ℕ, ◌+◌, ◌<◌}
use native.Mathlib.Omega.{arith}
use borrow.Author.Tests.{le-leb, lt-leb, eq-eqb}
use Rattle.numbers.specs.Lists.{Each}
use Rattle.numbers.proofs.Lists.{each_map, each_more}
use Rattle.run.proofs.History.{accepted_turn}
use Rattle.reductions.specs.Year.{Year, bounds_of, stretch_of}
use Rattle.tunisia.specs.Years.{counted_year, years_from, years_of, accepted_years}
use Rattle.tunisia.specs.Reduction.{answer_over, reduction_of}
use Rattle.tunisia.proofs.Walks.{last_x0, years_more}
use Rattle.promise_three.specs.Offering.{Offering}
use Rattle.promise_three.proofs.OneByOne.{OneByOne, none_yet, one_more, n_counts}
use Rattle.promise_tunisia.specs.Reported.{alone}
use Rattle.promise_tunisia.specs.Promise.{YearAlone}
use Rattle.promise_tunisia.proofs.Offered.{year_offering, years_one_by_one}
use Rattle.promise_tunisia.proofs.Years.{years_length}
use Rattle.promise_tunisia.proofs.Refusals.{answered}

abbrev pub Numbered : (y : ℕ) → Year → Type 0
Numbered y year = year.number ≡ y

-- the accepted years
pub numbered : (o : Offering) → OneByOne o → Each Numbered 1 (years_of o.accepted)
unfolding years_of years_from counted_year
numbered _ none_yet = tt
numbered _ (one_more o bytes room r e) =
    let turn = accepted_turn o.ledger bytes in
    rw (years_more 0 o.accepted turn)
    (each_more Numbered 1 (years_from 0 o.accepted) (counted_year (last_x0 0 o.accepted) turn) (numbered o r)
    (omega (arith, n_counts o r, years_length 0 o.accepted)))

-- no year is past the last one
pub none_past : (first last i : ℕ) (years : List Year) → last < i → Each Numbered i years → stretch_of first last years ≡ []
unfolding stretch_of
none_past first last i [] past h = refl
none_past first last i (year ∷ rest) past h = simp (h.0, lt-leb i last past, and-false) (none_past first last (i + 1) rest (omega arith) h.1)

one_each : (i : ℕ) (years : List Year) → Each Numbered i years → Each (λ y year. stretch_of y y years ≡ year ∷ []) i years
unfolding stretch_of
one_each i [] h = tt
one_each i (year ∷ rest) h = (
  simp (h.0, le-leb i i (omega arith), none_past i i (i + 1) rest (omega arith) h.1),
  each_map (λ y one. stretch_of y y rest ≡ one ∷ []) (λ y one. stretch_of y y (year ∷ rest) ≡ one ∷ []) (i + 1) rest
      (λ y one low high e. simp (h.0, lt-leb y i (omega arith)) e) (one_each (i + 1) rest h.1),
)

-- What is answered for one year.
pub year_alone : (file : List ℕ) → Each (YearAlone file) 1 (years_of (accepted_years file))
unfolding reduction_of answer_over bounds_of
year_alone file =
    let years = years_of (accepted_years file) in
    each_map (λ y year. stretch_of y y years ≡ year ∷ []) (YearAlone file) 1 years
    (λ y year low high e electricity fuel none. simp (eq-eqb _ 0 (answered (alone file y electricity fuel) none)) (rw e (omega arith, omega arith, omega arith)))
    (one_each 1 years (numbered (year_offering file) (years_one_by_one file)))
