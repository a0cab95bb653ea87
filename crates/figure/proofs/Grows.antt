-- Every line of the chain rounds down a multiple, so a figure does not fall where x0 grows, nor a bound where T grows.
use Prim.Native.Nat.{ℕ, ◌*◌, ◌/◌, ◌^◌, ◌≤◌, ◌<◌}
use native.Mathlib.Nat.{mul-le-mul_left, mul-le-mul_right, le_trans, div-mul-le_self, le-div_iff_mul-le}
use native.Mathlib.Decide.{ℕ_discrete}
use native.Mathlib.Omega.{arith}
use borrow.Author.Tests.{eq-eqb, ne_eqb}
use Rattle.numbers.proofs.Eight.{sum_at_most}
use Rattle.record.specs.declared.factors.Factors.{Factors}
use Rattle.figure.specs.Figure.{x1_of, x2_of, grams_of, figure_of, margin_of, b_of, bound_of}

-- times a number, and divided by one and rounded down
times : (m : ℕ) {x y : ℕ} → x ≤ y → x * m ≤ y * m
times m h = mul-le-mul_right m h

shared : (m : ℕ) {x y : ℕ} → 0 < m → x ≤ y → x / m ≤ y / m
shared m {x} {y} some h = (le-div_iff_mul-le some).1 (le_trans (div-mul-le_self x m) h)

module _ (v : Factors) where
  grams_grow : (x y : ℕ) → x ≤ y → grams_of v x ≤ grams_of v y
  unfolding grams_of
  grams_grow x y h = shared 3000 (omega arith) (times _ (times _ h))

  pub figure_grows : (x y : ℕ) → x ≤ y → figure_of v x ≤ figure_of v y
  unfolding figure_of x2_of x1_of
  figure_grows x y h = grams_grow _ _ (shared (10 ^ 8) (omega arith) (times _ (times _ (times _ (times _ (shared (10 ^ 6) (omega arith) (times _ (times _ h))))))))

  pub bound_grows : (B B' : ℕ) → B ≤ B' → bound_of v B ≤ bound_of v B'
  unfolding bound_of
  bound_grows B B' h = omega (arith, grams_grow B B' h)

margin_grows : (n T T' : ℕ) → T ≤ T' → margin_of n T ≤ margin_of n T'
unfolding margin_of
margin_grows n T T' h =
    elim (ℕ_discrete T 0) [
      | yes z ↦ simp (eq-eqb T 0 z) (omega arith)
      | no z ↦ simp (ne_eqb T 0 z, ne_eqb T' 0 (λ z'. z (omega arith))) (omega (arith, mul-le-mul_left n h))
    ]

pub b_grows : (n : ℕ) (T T' : ℕ → ℕ) → ((t : ℕ) → t < 8 → T t ≤ T' t) → b_of n T ≤ b_of n T'
unfolding b_of
b_grows n T T' h = sum_at_most (λ t. margin_of n (T t)) (λ t. margin_of n (T' t)) 8 (λ t place. margin_grows n (T t) (T' t) (h t place))
