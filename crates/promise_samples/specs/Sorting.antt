-- Document 02, request a, 'Masses from sorting samples': equations (5) to (8) of source 000 in fractions, with no rounding, which calls
-- are accepted, and what is claimed of the masses. W is the total (W_x of a year, W_i of a month), Z the number of samples (Z_x, and the 3
-- of equation (8)), n a sample, counted from 0, and j a type, which has place t = j − 1.
use Rattle.std.specs.Prelude.{◌≡◌, List, ℕ, ◌*◌, ◌^◌, ◌≤◌, ◌<◌, length, get_or}
use Rattle.std.proofs.Common.{arith, lit<}
use Rattle.numbers.specs.Eight.{sum_of}
use Rattle.numbers.specs.Fraction.{Fraction, over, whole, ◌⊗◌, ◌≈◌, total, WithinBound}
use Rattle.samples.specs.Samples.{fraction_at, number_of}

module _ (samples : List ℕ) where
  -- p_{n,j,x} or p_{n,j,i}: the fraction of type j in sample n.
  abbrev pub fraction_in : (n t : ℕ) → Fraction
  fraction_in n t = over (fraction_at samples n t) 10000 (lit< tt)

  module _ (Z : ℕ) (some : 0 < Z) where
    -- Equations (7) and (8): p_{j,x} or p_{j,i} is the sum of all p_n, divided by Z.
    unfoldable pub mean_fraction : (t : ℕ) → Fraction
    mean_fraction t = total (λ n. fraction_in n t) Z ⊗ over 1 Z some

    -- Equations (5) and (6): W_{j,x} = W_x × p_{j,x} and W_{j,i} = W_i × p_{j,i}.
    unfoldable pub mean_share : (W t : ℕ) → Fraction
    mean_share W t = whole W ⊗ mean_fraction t

-- 'between 12 and 400 samples for a year, exactly three for a month'
pub data Enough (kind Z : ℕ) : Type 0 where
  year : kind ≡ 1 → 12 ≤ Z → Z ≤ 400 → Enough kind Z
  month : kind ≡ 2 → Z ≡ 3 → Enough kind Z

-- 'a total of at most 10^9 kg, samples of eight fractions in hundredths of a percent that add up to 10000'
pub record Sortable (kind W : ℕ) (samples : List ℕ) : Type 0 where
  pub not_too_large : W ≤ 10 ^ 9
  pub whole_samples : length samples ≡ 16 * number_of samples
  pub enough : Enough kind (number_of samples)
  pub each_whole : (n : ℕ) → n < number_of samples → sum_of (fraction_at samples n) 8 ≡ 10000

-- What request a of document 02 claims of the masses into which samples part a total W.
pub record Parted (W : ℕ) (samples masses : List ℕ) : Type 0 where
  pub some : 0 < number_of samples
  -- 'The eight masses add up to the total
  pub add_up : sum_of (λ t. get_or masses t 0) 8 ≡ W
  -- and each is under 1 kg from its exact mean share',
  pub under_1_kg : (t : ℕ) → t < 8 → WithinBound (mean_share samples (number_of samples) some W t) (get_or masses t 0) 1
  -- which is total × (the type's fractions added over all samples) / (10000 × Z).
  pub share_is : (t : ℕ) → mean_share samples (number_of samples) some W t
      ≈ over (W * sum_of (λ n. fraction_at samples n t) (number_of samples)) (10000 * number_of samples) (omega arith)
