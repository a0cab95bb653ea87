-- The answer by what was tested: each refusal where those ahead of it are not there, and the masses where none is.
use mathlib.Core.Path.{◌≡◌, refl, sym, ap, ◌∙◌}
use mathlib.Core.Bool.{Bool, true, false, cond, ◌&&◌}
use mathlib.Core.List.{List}
use mathlib.Core.Logic.{◌⊎◌, inl, inr, ⊎_elim}
use Prim.Native.Nat.{ℕ, zero, suc, ◌+◌, ◌-◌, ◌*◌, ◌/◌, ◌%◌, ◌≤◌, ◌<◌}
use native.Mathlib.Omega.{arith}
use borrow.Author.Tests.{eqb-true, ne_eqb, le-ltb, lt-ltb, ltb-false, not-false}
use lib.Dec.{eqb}
use lib.ListN.{length, get_or}
use Rattle.numbers.specs.Eight.{eight, sum_of, every_of}
use Rattle.numbers.specs.Fault.{between, first_of}
use Rattle.numbers.proofs.Eight.{eight_same, both_true, either_true, either_false}
use Rattle.numbers.proofs.Fault.{between_low, between_high, clear}
use Rattle.waste.specs.Kind.{is_kind}
use Rattle.waste.specs.Waste.{mass_limit}
use Rattle.samples.specs.Samples.{sample_bytes, whole_sample, least_samples, most_samples, month_samples, right_number, adds_up, number_of, mass_up_to, mass_of_type, sample_faults, Sorted, sorted_into, unsorted, sorted_of, numbers_of}
use Rattle.samples.specs.declared.SamplesRefusal.{SamplesRefusal}
use Rattle.samples.specs.declared.SamplesRefusal.TheVariants.{TotalTooLarge, WrongNumber, NotWhole}
use Rattle.std.proofs.Common.{Result, Ok, Err}
use Rattle.samples.proofs.Laws.{of_place, by_type}

-- A right number of samples is a year's or a month's.
pub year_or_month : (kind Z : ℕ) → right_number kind Z ≡ true
    → ((kind ≡ 1) × (least_samples ≤ Z) × (Z ≤ most_samples)) ⊎ ((kind ≡ 2) × (Z ≡ month_samples))
year_or_month kind Z e =
    ⊎_elim
    (λ year. let both = both_true (eqb kind 1) (between least_samples Z most_samples) year in
    inl (eqb-true kind 1 both.0, between_low least_samples Z most_samples both.1, between_high least_samples Z most_samples both.1))
    (λ month. let both = both_true (eqb kind 2) (eqb Z month_samples) month in inr (eqb-true kind 2 both.0, eqb-true Z month_samples both.1))
    (either_true (eqb kind 1 && between least_samples Z most_samples) (eqb kind 2 && eqb Z month_samples) e)

-- No number is right for what is no kind.
pub no_kind : (kind Z : ℕ) → is_kind kind ≡ false → false ≡ right_number kind Z
no_kind kind Z e =
    let none = either_false (eqb kind 1) (eqb kind 2) e in
    rw (none.0, none.1) refl

-- Whether the bytes are the samples that the kind has to have.
abbrev pub Right : (kind : ℕ) → List ℕ → Bool → Type 0
Right kind samples answer = (right_number kind (number_of samples) && eqb (length samples % sample_bytes) 0) ≡ answer

-- Then there are some, and 400 at most.
pub number_within : (kind : ℕ) (samples : List ℕ) → Right kind samples true → (0 < number_of samples) × (number_of samples ≤ most_samples)
number_within kind samples right =
    ⊎_elim (λ year. (omega (arith, year.1), year.2)) (λ month. (omega (arith, month.1), omega (arith, month.1)))
    (year_or_month kind (number_of samples) (both_true (right_number kind (number_of samples)) (eqb (length samples % sample_bytes) 0) right).0)

module _ (kind total : ℕ) (samples : List ℕ) where
  pub too_large : mass_limit < total → unsorted 14 ≡ sorted_of kind total samples
  unfolding sorted_of sample_faults
  too_large h = simp (lt-ltb mass_limit total h)

  module _ (h : total ≤ mass_limit) where
    pub wrong_number : Right kind samples false → unsorted 15 ≡ sorted_of kind total samples
    unfolding sorted_of sample_faults
    wrong_number e = simp (le-ltb mass_limit total h, e)

    module _ (right : Right kind samples true) where
      pub sample_not_whole : every_of (adds_up samples) (number_of samples) ≡ false → unsorted 16 ≡ sorted_of kind total samples
      unfolding sorted_of sample_faults
      sample_not_whole e = simp (le-ltb mass_limit total h, right, e)

      pub taken : every_of (adds_up samples) (number_of samples) ≡ true → (masses : List ℕ) → masses ≡ eight (λ t. mass_of_type samples total (t + 1))
          → sorted_into masses ≡ sorted_of kind total samples
      unfolding sorted_of sample_faults
      taken e masses p = simp (le-ltb mass_limit total h, right, e, p)

-- What `part` makes of the fractions is the masses.
module _ (total : ℕ) (samples fractions : List ℕ) where
  abbrev reached : ℕ → ℕ
  reached j = total * sum_of (λ u. get_or fractions u 0) j / (whole_sample * number_of samples)

  pub parted : fractions ≡ eight (of_place samples (number_of samples)) → (masses : List ℕ) → masses ≡ eight (λ t. reached (t + 1) - reached t)
      → masses ≡ eight (λ t. mass_of_type samples total (t + 1))
  unfolding mass_of_type mass_up_to
  parted e masses p =
      let at = by_type samples (number_of samples) fractions e in
      p ∙ eight_same (λ t. reached (t + 1) - reached t) (λ t. mass_of_type samples total (t + 1))
      (λ t h. let back : t + 1 - 1 ≡ t = omega arith in rw (at (t + 1) (omega arith), at t (omega arith), back))

-- What an answer without refusal says.
module _ (kind total : ℕ) (samples : List ℕ) where
  pub sorted_refusal : (sorted_of kind total samples).refusal ≡ first_of (sample_faults samples kind total)
  unfolding sorted_of
  sorted_refusal = either (first_of (sample_faults samples kind total))
    where
      either : (refusal : ℕ) → (cond (eqb refusal 0) (sorted_into (eight (λ t. mass_of_type samples total (t + 1)))) (unsorted refusal)).refusal ≡ refusal
      either zero = refl
      either (suc refusal) = rw (ne_eqb (suc refusal) 0 (λ e. omega arith))

  pub record Taken : Type 0 where
    pub not_large : total ≤ mass_limit
    pub right : Right kind samples true
    pub adds_up_lem : every_of (adds_up samples) (number_of samples) ≡ true

  pub when_taken : (sorted_of kind total samples).refusal ≡ 0 → Taken
  unfolding sample_faults
  when_taken e =
      let none = sym sorted_refusal ∙ e in
      record {
        not_large = ltb-false mass_limit total (clear 14 (sample_faults samples kind total) refl none);
        right = not-false _ (clear 15 (sample_faults samples kind total) refl none);
        adds_up_lem = not-false _ (clear 16 (sample_faults samples kind total) refl none);
      }

  pub nothing_sorted : ((sorted_of kind total samples).refusal ≡ 0 → ⊥) → (sorted_of kind total samples).masses ≡ eight (λ t. 0)
  unfolding sorted_of
  nothing_sorted bad =
      let there : first_of (sample_faults samples kind total) ≡ 0 → ⊥ = λ e. bad (sorted_refusal ∙ e) in
      rw (ne_eqb (first_of (sample_faults samples kind total)) 0 there)

-- The case of the answer that has these numbers: so two cases with the same numbers are one.
case_of : Sorted → Result (List ℕ) SamplesRefusal
case_of n = cond (eqb n.refusal 14) (Err TotalTooLarge) (cond (eqb n.refusal 15) (Err WrongNumber) (cond (eqb n.refusal 16) (Err NotWhole) (Ok n.masses)))

same_case : (answer : Result (List ℕ) SamplesRefusal) → case_of (numbers_of answer) ≡ answer
unfolding case_of
same_case (Ok masses) = refl
same_case (Err TotalTooLarge) = refl
same_case (Err WrongNumber) = refl
same_case (Err NotWhole) = refl

pub one_sorted : (n : Sorted) (a b : Result (List ℕ) SamplesRefusal) → numbers_of a ≡ n → numbers_of b ≡ n → a ≡ b
one_sorted n a b p q = sym (same_case a) ∙ ap case_of (p ∙ sym q) ∙ same_case b
