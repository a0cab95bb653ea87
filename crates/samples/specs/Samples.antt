-- Document 02, request a, 'Masses from sorting samples': equations (5) to (8) of source 000, rounded so that nothing is lost.
use Rattle.std.specs.Prelude.{Bool, cond, not, ◌&&◌, ◌||◌, List, [], ◌∷◌, ℕ, ◌+◌, ◌-◌, ◌*◌, ◌/◌, ◌%◌, eqb, ltb, length, Result, Ok, Err}
use Rattle.numbers.specs.Bytes.{number_at}
use Rattle.numbers.specs.Eight.{eight, sum_of, every_of}
use Rattle.numbers.specs.Fault.{Fault, ◌when◌, between, first_of}
use Rattle.waste.specs.Kind.{yearly, monthly}
use Rattle.waste.specs.Waste.{mass_limit}
use Rattle.samples.specs.declared.SamplesRefusal.{SamplesRefusal}
use Rattle.samples.specs.declared.SamplesRefusal.TheVariants.{TotalTooLarge, WrongNumber, NotWhole}

-- A sample is eight fractions, of types 1 to 8, in 2 bytes each. Samples follow one another.
abbrev pub sample_bytes : ℕ
sample_bytes = 16

-- What the fractions of a sample add up to, in hundredths of a percent.
abbrev pub whole_sample : ℕ
whole_sample = 10000

-- 'between 12 and 400 samples for a year, exactly three for a month'
abbrev pub least_samples : ℕ
least_samples = 12

abbrev pub most_samples : ℕ
most_samples = 400

abbrev pub month_samples : ℕ
month_samples = 3

abbrev pub right_number : (kind Z : ℕ) → Bool
right_number kind Z = eqb kind yearly && between least_samples Z most_samples || eqb kind monthly && eqb Z month_samples

module _ (samples : List ℕ) where
  -- The fraction at place t, which has type t + 1, of sample n, counted from 0.
  unfoldable pub fraction_at : (n t : ℕ) → ℕ
  fraction_at n t = number_at 2 samples (sample_bytes * n + 2 * t)

  -- 'eight fractions [..] that add up to 10000'
  unfoldable pub adds_up : (n : ℕ) → Bool
  adds_up n = eqb (sum_of (fraction_at n) 8) whole_sample

  -- 'With Z samples, let P(j) be all fractions of types 1 to j added over all samples'
  unfoldable pub P : (Z j : ℕ) → ℕ
  P Z j = sum_of (λ n. sum_of (fraction_at n) j) Z

  -- Z
  abbrev pub number_of : ℕ
  number_of = length samples / sample_bytes

  module _ (total : ℕ) where
    -- 'total × P(j) / (10000 × Z) rounded down'
    unfoldable pub mass_up_to : (j : ℕ) → ℕ
    mass_up_to j = total * P number_of j / (whole_sample * number_of)

    -- 'the mass of type j is [that], less the same for j − 1'
    unfoldable pub mass_of_type : (j : ℕ) → ℕ
    mass_of_type j = mass_up_to j - mass_up_to (j - 1)

  -- 'Refusals: 14 total too large, 15 a kind not 1 or 2 or not the right number of whole samples, 16 a sample that does not add up,
  -- in that order'
  unfoldable pub sample_faults : (kind total : ℕ) → List Fault
  sample_faults kind total =
      14 when ltb mass_limit total
      ∷ 15 when not (right_number kind number_of && eqb (length samples % sample_bytes) 0)
      ∷ 16 when not (every_of adds_up number_of)
      ∷ []

-- An answer in numbers: the refusal's, 0 if none, and the masses of types 1 to 8 in kilograms, 0 if refused.
pub record Sorted : Type 0 where
  pub refusal : ℕ
  pub masses : List ℕ

-- Accepted, with the masses of types 1 to 8.
abbrev pub sorted_into : (masses : List ℕ) → Sorted
sorted_into masses = record { refusal = 0; masses = masses }

-- Refused, 'with all masses 0'.
abbrev pub unsorted : (refusal : ℕ) → Sorted
unsorted refusal = record { refusal = refusal; masses = eight (λ t. 0) }

-- The answer.
unfoldable pub sorted_of : (kind total : ℕ) → List ℕ → Sorted
sorted_of kind total samples =
    let refusal = first_of (sample_faults samples kind total) in
    cond (eqb refusal 0) (sorted_into (eight (λ t. mass_of_type samples total (t + 1)))) (unsorted refusal)

-- The number of each refusal, and the numbers of each case of the answer.
abbrev pub refusal_number : SamplesRefusal → ℕ
refusal_number TotalTooLarge = 14
refusal_number WrongNumber = 15
refusal_number NotWhole = 16

abbrev pub numbers_of : Result (List ℕ) SamplesRefusal → Sorted
numbers_of (Ok masses) = sorted_into masses
numbers_of (Err why) = unsorted (refusal_number why)
