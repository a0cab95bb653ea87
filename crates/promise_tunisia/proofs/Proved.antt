-- Request i, proved.
use mathlib.Core.Path.{◌≡◌, refl, ap, ◌∙◌}
use mathlib.Core.List.{List}
use Prim.Native.Nat.{ℕ, ◌+◌, ◌-◌, ◌*◌, ◌^◌, ◌≤◌, ◌<◌}
use native.Mathlib.Decide.{ℕ_discrete}
use native.Mathlib.Omega.{arith}
use borrow.Author.Tests.{eq-eqb, ne_eqb}
use lib.IntN.{pos, negsuc, nat_abs}
use lib.ListN.{length}
use Rattle.numbers.specs.Fraction.{Fraction, total}
use Rattle.numbers.specs.Lists.{added}
use Rattle.run.specs.History.{Turn}
use Rattle.tunisia.specs.Years.{accepted_years, refusal_after, years_of}
use Rattle.tunisia.specs.Reduction.{answer_over, no_answer, reduction_of}
use Rattle.reductions.specs.Year.{reference_of, project_of, bounds_of, stretch_of, sums_of}
use Rattle.reductions.specs.Stretch.{all_grams, stretch_refusal}
use Rattle.reductions.proofs.Entries.{light_most, entries_light, entries_count}
use Rattle.tunisia.proofs.ByYear.{yearly_file, monthly_file}
use Rattle.tunisia.proofs.Ranges.{years_fit}
use Rattle.promise_three.specs.DemandThree.{Chosen}
use Rattle.promise_tunisia.specs.Exact.{exact_reduction, WithinSigned}
use Rattle.promise_tunisia.specs.Reported.{StretchOfYears, reported, year_records, year_ledger}
use Rattle.promise_tunisia.specs.Promise.{TunisiaPromise}
use Rattle.promise_tunisia.proofs.Offered.{year_offering, years_one_by_one}
use Rattle.promise_tunisia.proofs.Years.{each_year}
use Rattle.promise_tunisia.proofs.Signed.{less_within, difference_most, below_most}
use Rattle.promise_tunisia.proofs.Stretches.{apart_in, among, close_in}
use Rattle.promise_tunisia.proofs.Alone.{year_alone}
use Rattle.promise_tunisia.proofs.Refusals.{answered, refused_23, refused_else, answered_where, stretch_24, stretch_25}
use Rattle.promise_tunisia.proofs.Ends.{years_end}
use Rattle.promise_tunisia.proofs.NeverBelow.{added_most, never_below, without_grams}

-- What is answered, by the refusal of the stretch.
module _ (s : StretchOfYears) where
  abbrev years : List Turn
  years = accepted_years s.file

  abbrev q : ℕ
  q = stretch_refusal s.first s.last (length years) s.electricity s.fuel

  years_answered : (reported s).years ≡ length years
  unfolding reduction_of answer_over no_answer
  years_answered = elim (ℕ_discrete q 0) [ yes z ↦ simp (eq-eqb q 0 z) | no z ↦ simp (ne_eqb q 0 z) ]

  refused_answered : (reported s).refused ≡ refusal_after s.file
  unfolding reduction_of answer_over no_answer
  refused_answered = elim (ℕ_discrete q 0) [ yes z ↦ simp (eq-eqb q 0 z) | no z ↦ simp (ne_eqb q 0 z) ]

  -- the years of the stretch are all among the accepted ones
  reduction_within : (d : ℕ → Fraction) → Chosen (year_ledger s.file) d → (reported s).refusal ≡ 0
      → WithinSigned (exact_reduction d (year_records s.file) s.first s.last s.electricity s.fuel) (reported s).reduction (reported s).bound
  unfolding exact_reduction reduction_of answer_over sums_of
  reduction_within d chosen none =
      let within = ((answered_where s).0 none).0 in
      let stretch = stretch_of s.first s.last (years_of years) in
      let apart : ℕ → Fraction = λ i. apart_in d s.first s.last within.0 (year_records s.file) (s.first + i) in
      let all : among d s.first s.last within.0 (length years) ≡ s.last + 1 - s.first = omega (arith, within.2) in
      let close = close_in d s.first s.last within.0 (year_ledger s.file) chosen (year_offering s.file) (years_one_by_one s.file) (λ _. (refl, refl)) in
      let some : 0 < among d s.first s.last within.0 (length years) = omega (arith, all, within.1) in
      simp (eq-eqb q 0 (answered s none))
      (less_within (total apart (s.last + 1 - s.first)) (added reference_of stretch) (added project_of stretch) (added bounds_of stretch) (all_grams s.electricity) (all_grams s.fuel)
      (rw all at (close.below some)) (rw all at (close.above some)))

  -- the reference is not far above the project, and grams are at most the limit in each of 1200 years
  reduction_range : (m : ℕ) → ((reported s).reduction ≡ pos m → m ≤ 802 * 10 ^ 14) × ((reported s).reduction ≡ negsuc m → m + 1 ≤ 24 * 10 ^ 17)
  unfolding reduction_of answer_over no_answer sums_of
  reduction_range m =
      elim (ℕ_discrete q 0) [
        | yes z ↦
            let stretch = stretch_of s.first s.last (years_of years) in
            let fit = years_fit s.first s.last s.file in
            let light = entries_light s.first s.last (length years) s.electricity s.fuel z in
            let few = entries_count s.first s.last (length years) s.electricity s.fuel z fit.1 in
            let r = added reference_of stretch in
            let p = added project_of stretch in
            let e = all_grams s.electricity in
            let f = all_grams s.fuel in
            simp (eq-eqb q 0 z) (
              λ is. omega (arith, difference_most r p e f m is, fit.0.2),
              λ is. omega (arith, below_most r p e f m (added_most stretch) is, light_most s.electricity light.0, light_most s.fuel light.1, few.0, few.1),
            )
        | no z ↦ simp (ne_eqb q 0 z) (λ is. omega (arith, ap nat_abs is), λ is. absurd (omega (arith, ap nat_abs is)))
      ]

pub tunisia_promise : TunisiaPromise
tunisia_promise =
    record {
      years_within = λ file d chosen. each_year d (year_ledger file) chosen (year_offering file) (years_one_by_one file) (λ _. (refl, refl));
      year_alone = year_alone;
      reduction_within = reduction_within;
      years_of_the_run = λ s e. let same = (yearly_file s.file e).0 in (same, years_answered s ∙ ap (λ (turns : List Turn). length turns) same);
      years_none = λ s e. omega (arith, years_answered s, ap (λ (turns : List Turn). length turns) (monthly_file s.file e).0);
      years_end = λ s. rw (years_answered s, refused_answered s) (years_end s.file);
      refused_23 = refused_23;
      refused_else = refused_else;
      answered_where = answered_where;
      stretch_24 = stretch_24;
      stretch_25 = stretch_25;
      never_below = λ s. omega (arith, never_below s);
      without_grams = without_grams;
      reduction_range = λ s m. let range = reduction_range s m in (λ is. omega (arith, range.0 is), λ is. omega (arith, range.1 is));
    }
