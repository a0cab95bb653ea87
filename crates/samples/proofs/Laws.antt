-- What holds of fractions added over samples, type by type and where each sample adds up, and of the masses that they make.
use mathlib.Core.Path.{◌≡◌, refl, sym, ap}
use mathlib.Core.Bool.{true}
use mathlib.Core.List.{List}
use Prim.Native.Nat.{ℕ, zero, suc, ◌+◌, ◌-◌, ◌*◌, ◌/◌, ◌≤◌, ◌<◌}
use native.Mathlib.Nat.{mul-zero, zero-div, mul-div_cancel, mul-le-mul_left}
use native.Mathlib.Numerals.{add-one}
use native.Mathlib.Omega.{arith}
use borrow.Author.Tests.{eqb-true}
use lib.ListN.{get_or}
use Rattle.numbers.specs.Eight.{eight, sum_of, every_of}
use Rattle.numbers.proofs.Eight.{sum_each, sum_at_most, sum_part, sum_plus, sum_steps, every_at, eight_at}
use Rattle.numbers.proofs.Split.{share_most, share_rises, share_near}
use Rattle.samples.specs.Samples.{whole_sample, fraction_at, adds_up, P, number_of, mass_up_to, mass_of_type}

module _ (samples : List ℕ) where
  -- all fractions at place t, added over Z samples
  abbrev pub of_place : (Z t : ℕ) → ℕ
  of_place Z t = sum_of (λ n. fraction_at samples n t) Z

  -- One type more, or more types, and no type.
  pub next_type : (Z j : ℕ) → P samples Z (j + 1) ≡ P samples Z j + of_place Z j
  unfolding P
  next_type Z j = rw (add-one j) (sum_plus (λ n. sum_of (fraction_at samples n) j) (λ n. fraction_at samples n j) Z)

  more_types : (Z j k : ℕ) → j ≤ k → P samples Z j ≤ P samples Z k
  unfolding P
  more_types Z j k h = sum_at_most _ _ Z (λ n l. sum_part (fraction_at samples n) j k h)

  pub no_type : (Z : ℕ) → P samples Z 0 ≡ 0
  unfolding P
  no_type Z = omega (arith, sum_each (λ n. 0) 0 Z (λ n l. refl))

  -- Added by type, they are the same.
  pub by_type : (Z : ℕ) (fractions : List ℕ) → fractions ≡ eight (of_place Z) → (j : ℕ) → j ≤ 8
      → sum_of (λ t. get_or fractions t 0) j ≡ P samples Z j
  by_type Z fractions e zero h = sym (no_type Z)
  by_type Z fractions e (suc j) h =
      let here : get_or fractions j 0 ≡ of_place Z j = rw e (eight_at (of_place Z) j h) in
      rw (← add-one j, next_type Z j, by_type Z fractions e j (omega arith), here)

  -- Where Z samples add up, all types together have the whole of each sample, and one type no more.
  module _ (Z : ℕ) (adds_up_lem : every_of (adds_up samples) Z ≡ true) where
    pub all_types : P samples Z 8 ≡ whole_sample * Z
    unfolding P adds_up
    all_types = omega (arith, sum_each (λ n. sum_of (fraction_at samples n) 8) whole_sample Z (λ n l. eqb-true _ _ (every_at (adds_up samples) Z n l adds_up_lem)))

    pub some_types : (j : ℕ) → j ≤ 8 → P samples Z j ≤ whole_sample * Z
    some_types j h = omega (arith, more_types Z j 8 h, all_types)

    pub one_type : (t : ℕ) → t < 8 → of_place Z t ≤ whole_sample * Z
    one_type t h = omega (arith, next_type Z t, some_types (t + 1) (omega arith))

-- The masses of a total.
module _ (samples : List ℕ) (total : ℕ) (some : 0 < number_of samples) where
  abbrev whole : ℕ
  whole = whole_sample * number_of samples

  abbrev mass_at : ℕ → ℕ
  mass_at t = mass_of_type samples total (t + 1)

  rises : (t : ℕ) → mass_up_to samples total t ≤ mass_up_to samples total (t + 1)
  unfolding mass_up_to
  rises t = share_rises _ _ whole (omega arith) (mul-le-mul_left total (more_types samples (number_of samples) t (t + 1) (omega arith)))

  -- A mass is less than 1 kg from its share of the total, both ways.
  pub mass_near : (t : ℕ) → let share = total * of_place samples (number_of samples) t in
      (share < mass_at t * whole + whole) × (mass_at t * whole < share + whole)
  unfolding mass_of_type mass_up_to
  mass_near t =
      let P' = P samples (number_of samples) in
      let back : t + 1 - 1 ≡ t = omega arith in
      let step : total * P' (t + 1) ≡ total * P' t + total * of_place samples (number_of samples) t
      = omega (arith, ap (λ (y : ℕ). total * y) (next_type samples (number_of samples) t)) in
      let near = share_near (total * P' t) (total * P' (t + 1)) whole (omega arith) (omega (arith, step)) in
      rw back (omega (arith, near.0, step), omega (arith, near.1, step))

  module _ (adds_up_lem : every_of (adds_up samples) (number_of samples) ≡ true) where
    pub masses_add_up : sum_of mass_at 8 ≡ total
    unfolding mass_of_type mass_up_to
    masses_add_up =
        let first : total * P samples (number_of samples) 0 / whole ≡ 0 = rw (no_type samples (number_of samples), mul-zero, zero-div) in
        let last : total * P samples (number_of samples) 8 / whole ≡ total = rw (all_types samples (number_of samples) adds_up_lem) (mul-div_cancel total (omega arith)) in
        omega (arith, sum_steps (mass_up_to samples total) 8 rises, first, last)

    pub mass_most : (t : ℕ) → t < 8 → mass_at t ≤ total
    unfolding mass_of_type mass_up_to
    mass_most t h = omega (arith, share_most total _ whole (some_types samples (number_of samples) adds_up_lem (t + 1) (omega arith)))
