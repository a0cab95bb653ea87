-- Document 02, request i, 'The Tunisian reference method'. proofs/Proved.antt proves `TunisiaPromise`.
use Rattle.std.specs.Prelude.{◌≡◌, true, false, ◌↔◌, List, ℕ, ◌+◌, ◌-◌, ◌*◌, ◌^◌, ◌≤◌, pos, negsuc, length}
use Rattle.numbers.specs.Fraction.{Fraction, WithinBound}
use Rattle.numbers.specs.Lists.{Each}
use Rattle.waste.specs.Kind.{monthly, is_monthly}
use Rattle.record.specs.Fields.{record_bytes, kind_of}
use Rattle.ledger.specs.Refusal.{refusal_of}
use Rattle.ledger.specs.declared.book.Ledger.{Ledger}
use Rattle.run.specs.History.{whole_run}
use Rattle.tunisia.specs.Years.{refusal_by_year, accepted_years, refusal_after, years_of}
use Rattle.reductions.specs.Year.{Year, reference_of, project_of, reference_bound, project_bound}
use Rattle.tunisia.specs.Reduction.{no_answer}
use Rattle.reductions.specs.Stretch.{all_grams}
use Rattle.promise_three.specs.DemandThree.{Chosen}
use Rattle.promise_tunisia.specs.Exact.{exact_reference, exact_project, exact_reduction, WithinSigned}
use Rattle.promise_tunisia.specs.Reported.{StretchOfYears, reported, alone, year_records, year_ledger, Within, Light, YearsEnd, NoneBefore6}

-- What is said of year y of a file: both of its figures are within their bounds of the exact formulas.
abbrev pub YearWithin : (d : ℕ → Fraction) → (file : List ℕ) → (y : ℕ) → Year → Type 0
YearWithin d file y year =
    WithinBound (exact_reference d (year_records file) y) (reference_of year) (reference_bound year)
    × WithinBound (exact_project d (year_records file) y) (project_of year) (project_bound year)

-- What is said of year y of a file: a stretch of that year alone, with any grams that are taken, is answered its figures and both bounds.
abbrev pub YearAlone : (file : List ℕ) → (y : ℕ) → Year → Type 0
YearAlone file y year =
    (electricity fuel : List ℕ)
    → (reported (alone file y electricity fuel)).refusal ≡ 0
    → ((reported (alone file y electricity fuel)).reference ≡ reference_of year)
    × ((reported (alone file y electricity fuel)).project ≡ project_of year)
    × ((reported (alone file y electricity fuel)).bound ≡ reference_bound year + project_bound year)

pub record TunisiaPromise : Type 0 where
  -- 'Demand 3 speaks of each mode against its own formula', year by year,
  pub years_within : (file : List ℕ) (d : ℕ → Fraction) → Chosen (year_ledger file) d → Each (YearWithin d file) 1 (years_of (accepted_years file))
  -- where a year's figures are what is answered for it alone,
  pub year_alone : (file : List ℕ) → Each (YearAlone file) 1 (years_of (accepted_years file))
  -- and over any stretch that is answered: 'its bound is the bounds added'.
  pub reduction_within : (s : StretchOfYears) (d : ℕ → Fraction) → Chosen (year_ledger s.file) d → (reported s).refusal ≡ 0
      → WithinSigned (exact_reduction d (year_records s.file) s.first s.last s.electricity s.fuel) (reported s).reduction (reported s).bound
  -- 'The accepted years end before the first refused record': they are those of a run 'with room for all output', unless the first record is
  -- monthly; then there are none.
  pub years_of_the_run : (s : StretchOfYears) → is_monthly (kind_of s.file) ≡ false
      → (accepted_years s.file ≡ (whole_run s.file).accepted) × ((reported s).years ≡ length (whole_run s.file).accepted)
  pub years_none : (s : StretchOfYears) → is_monthly (kind_of s.file) ≡ true → (reported s).years ≡ 0
  -- 'the first refused record, whose number is answered beside'
  pub years_end : (s : StretchOfYears) → YearsEnd s.file (reported s).years (reported s).refused
  -- '23 a monthly record in this mode, after 5 and before 6': any other record is refused as in a run with room.
  pub refused_23 : (l : Ledger) (bytes : List ℕ) → (refusal_by_year l bytes ≡ 23) ↔ (NoneBefore6 l bytes × (kind_of bytes ≡ monthly))
  pub refused_else : (l : Ledger) (bytes : List ℕ) → is_monthly (kind_of bytes) ≡ false → refusal_by_year l bytes ≡ refusal_of l bytes record_bytes
  -- 'for a stretch 24 where it is empty, not within the accepted years or without one entry of each kind of grams for each year, then 25 grams
  -- over the limit, all four answers 0.'
  pub answered_where : (s : StretchOfYears) → ((reported s).refusal ≡ 0) ↔ (Within s × (Light s.electricity × Light s.fuel))
  pub stretch_24 : (s : StretchOfYears) → (reported s ≡ no_answer 24 (length (accepted_years s.file)) (refusal_after s.file)) ↔ (Within s → ⊥)
  pub stretch_25 : (s : StretchOfYears) → (reported s ≡ no_answer 25 (length (accepted_years s.file)) (refusal_after s.file))
      ↔ (Within s × ((Light s.electricity × Light s.fuel) → ⊥))
  -- No reference is below its project, of one year or of more, so that the reduction is below zero only through electricity and fuel.
  pub never_below : (s : StretchOfYears) → (reported s).project ≤ (reported s).reference
  pub without_grams : (s : StretchOfYears) → all_grams s.electricity ≡ 0 → all_grams s.fuel ≡ 0
      → (reported s).reduction ≡ pos ((reported s).reference - (reported s).project)
  -- A reduction is from −2.4 × 10^18 to 8.02 × 10^16 for every input, so that 64 bits hold it.
  pub reduction_range : (s : StretchOfYears) (m : ℕ)
      → ((reported s).reduction ≡ pos m → m ≤ 802 * 10 ^ 14) × ((reported s).reduction ≡ negsuc m → m + 1 ≤ 24 * 10 ^ 17)
