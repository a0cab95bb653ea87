-- Document 02, request d, 'Work out the correction factor from uncertainties'. proofs/Proved.antt proves `UncertaintyPromise`.
use Rattle.std.specs.Prelude.{◌≡◌, ◌↔◌, ℕ, ◌*◌, ◌≤◌, ◌<◌}
use Rattle.std.proofs.Common.{lit<}
use Rattle.numbers.specs.Fraction.{over, whole, ◌⊕◌, ◌⊗◌, ◌≈◌}
use Rattle.uncertainty.specs.Uncertainty.{entering, AtMost, squares_of, chosen_by, by_percentages, by_codes}
use Rattle.uncertainty.specs.declared.Uncertainties.{Uncertainties}
use Rattle.promise_uncertainty.specs.Uncertainties.{V², v, φ, EquationFour, Entered, ByTable, Coded, Determined}

pub record UncertaintyPromise : Type 0 where
  -- Document 02, request d: φ = 1 / (1 + v), and V = √S / 100.
  pub phi_is : (n m : ℕ) (above : 0 < m) → φ n m above ⊗ (whole 1 ⊕ v n m above) ≈ whole 1
  pub v_is : (u : Uncertainties) → V² u ≈ over (squares_of u) (100 * 100) (lit< tt)
  -- Six percentages are accepted exactly where each is 0 to 100. The factor is then 'equation (4) rounded down', 28 to 100; no other number
  -- is.
  pub factor_where : (u : Uncertainties) → ((by_percentages u).refusal ≡ 0) ↔ Entered u
  pub factor_well : (u : Uncertainties) → (by_percentages u).refusal ≡ 0 → Determined u 28 (by_percentages u).factor 100
  pub factor_one : (u : Uncertainties) (p : ℕ) → (by_percentages u).refusal ≡ 0 → EquationFour (V² u) p → p ≡ (by_percentages u).factor
  -- 'Also offer a form in which c, d, e and g are chosen': the table has values for every choice, and the answer is theirs, 39 to 93.
  pub codes_where : (u : Uncertainties) → ((by_codes u).refusal ≡ 0) ↔ Coded u
  pub codes_table : (u : Uncertainties) → Coded u → ByTable u (chosen_by u)
  pub codes_chosen : (u values : Uncertainties) → (by_codes u).refusal ≡ 0 → ByTable u values → by_codes u ≡ by_percentages values
  pub codes_well : (u values : Uncertainties) → (by_codes u).refusal ≡ 0 → ByTable u values → Determined values 39 (by_codes u).factor 93
  -- 'Refusals: 18 an entered percentage over 100, 19 a code other than 1 and 2, in that order, with factor 0.'
  pub factor_18 : (u : Uncertainties) → (Entered u → ⊥) → by_percentages u ≡ record { refusal = 18; factor = 0 }
  pub codes_18 : (u : Uncertainties) → ((u.a ≤ 100) × (u.b ≤ 100) → ⊥) → by_codes u ≡ record { refusal = 18; factor = 0 }
  pub codes_19 : (u : Uncertainties) → u.a ≤ 100 → u.b ≤ 100 → (Coded u → ⊥) → by_codes u ≡ record { refusal = 19; factor = 0 }
  -- More uncertainty never gives a higher factor. By codes, 2 is the more uncertain one, and the first call is to be accepted, since 0 is no code.
  pub factor_falls : (u u' : Uncertainties) → AtMost u u' → (by_percentages u').factor ≤ (by_percentages u).factor
  pub codes_fall : (u u' : Uncertainties) → (by_codes u).refusal ≡ 0 → AtMost u u' → (by_codes u').factor ≤ (by_codes u).factor
  -- 'For 10, 10, 5, 0, 0, 5 it is 86.'
  pub factor_86 : by_percentages (entering 10 10 5 0 0 5) ≡ record { refusal = 0; factor = 86 }
