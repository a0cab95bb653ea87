-- How large a figure and a bound can be: no line of the chain multiplies by more than 1.
use mathlib.Core.Path.{◌≡◌}
use mathlib.Core.Bool.{true}
use Prim.Native.Nat.{ℕ, ◌+◌, ◌-◌, ◌*◌, ◌/◌, ◌^◌, ◌≤◌, ◌<◌}
use native.Mathlib.Nat.{mul-le-mul, mul-le-mul_left}
use native.Mathlib.Decide.{ℕ_discrete}
use native.Mathlib.Omega.{arith}
use borrow.Author.Tests.{eq-eqb, ne_eqb}
use Rattle.numbers.proofs.Eight.{sum_most}
use Rattle.waste.specs.Waste.{correction_of}
use Rattle.waste.proofs.Laws.{correction_most}
use Rattle.record.specs.Ranges.{in_range}
use Rattle.record.proofs.Laws.{ranged}
use Rattle.record.specs.declared.factors.Factors.{Factors}
use Rattle.carbon.specs.Carbon.{most_records, most_brought}
use Rattle.figure.specs.Figure.{x1_of, x2_of, grams_of, figure_of, margin_of, b_of, bound_of}
use Rattle.figure.proofs.Shares.{kept_share, four_shares}

-- The last line of the chain multiplies by at most 2/15, and those before it by at most 1.
pub figure_most : (v : Factors) (x : ℕ) → in_range v ≡ true → 15 * figure_of v x ≤ 2 * x
unfolding figure_of grams_of x2_of x1_of
figure_most v x e =
    let r = ranged v e in
    let x1 = x * v.factor * (10000 - v.captured) / 10 ^ 6 in
    let M = correction_of v.class in
    let x2 = x1 * (100 - v.oxidation) * v.methane * v.docf * M / 10 ^ 8 in
    let first : x1 ≤ x = omega (arith, mul-le-mul_left x (kept_share v.factor v.captured r.factor)) in
    let second : x2 ≤ x1
    = omega (arith, mul-le-mul_left x1 (four_shares v.oxidation v.methane v.docf M r.methane r.docf (correction_most v.class))) in
    let last : 15 * (x2 * 4 * v.potential / 3000) ≤ 2 * x2 = omega (arith, mul-le-mul_left x2 r.potential) in
    omega arith

-- n has 16 bits, so n × T / 10^9 is small beside 2^64.
pub margin_small : (n T : ℕ) → n < 2 ^ 16 → T ≤ 2 ^ 64 → n + 1 + T * n / 10 ^ 9 ≤ 2 ^ 51
margin_small n T h k =
    let n' : n ≤ 65535 = omega arith in
    omega (arith, mul-le-mul k n')

pub bound_small : (v : Factors) (n : ℕ) (T : ℕ → ℕ) → in_range v ≡ true → n < 2 ^ 16 → ((t : ℕ) → t < 8 → T t ≤ 2 ^ 64) → bound_of v (b_of n T) < 2 ^ 64
unfolding bound_of grams_of b_of margin_of
bound_small v n T e h k =
    let each : (t : ℕ) → t < 8 → margin_of n (T t) ≤ 2 ^ 51 = λ t l.
    elim (ℕ_discrete (T t) 0) [
      | yes z ↦ simp (eq-eqb (T t) 0 z) (omega arith)
      | no z ↦ simp (ne_eqb (T t) 0 z) (omega (arith, margin_small n (T t) h (k t l)))
    ] in
    omega (arith, sum_most (λ t. margin_of n (T t)) (2 ^ 51) 8 each, mul-le-mul_left (b_of n T) (ranged v e).potential)

-- A bound is 3 and at most half of B, and B of a sound ledger is far from 2^64.
pub bound_half : (v : Factors) (B : ℕ) → in_range v ≡ true → bound_of v B + bound_of v B ≤ B + 6
unfolding bound_of grams_of
bound_half v B e = omega (arith, mul-le-mul_left B (ranged v e).potential)

pub b_of_most : (n : ℕ) (T : ℕ → ℕ) → n ≤ most_records → ((t : ℕ) → t < 8 → T t ≤ most_brought) → b_of n T ≤ 2 ^ 43
unfolding b_of margin_of
b_of_most n T h k =
    let each : (t : ℕ) → t < 8 → margin_of n (T t) ≤ 2 ^ 40 = λ t l.
    elim (ℕ_discrete (T t) 0) [
      | yes z ↦ simp (eq-eqb (T t) 0 z) (omega arith)
      | no z ↦ simp (ne_eqb (T t) 0 z) (omega (arith, mul-le-mul h (k t l)))
    ] in
    omega (arith, sum_most (λ t. margin_of n (T t)) (2 ^ 40) 8 each)
