-- Laws of fractions: orders follow one another, sums and products keep them, and sums of sums are taken term by term.
use mathlib.Core.Path.{◌≡◌, refl, ap}
use mathlib.Core.Bool.{Bool}
use Prim.Native.Nat.{ℕ, zero, suc, ◌+◌, ◌-◌, ◌*◌, ◌≤◌, ◌<◌}
use native.Mathlib.Nat.{mul-le-mul_left, mul-le-mul_right, le_of_mul-le-mul_right, lt_of_mul-lt-mul_right, mul-lt-mul_of_pos_right, eq_of_mul-eq-mul_right}
use native.Mathlib.Omega.{arith}
use lib.Dec.{leb, ltb}
use Rattle.numbers.specs.Eight.{sum_of}
use Rattle.numbers.specs.Fraction.{Fraction, over, whole, ◌⊕◌, ◌⊗◌, ◌≼◌, ◌≺◌, ◌≈◌, total}

-- The orders as tests.
unfoldable pub at_most? : Fraction → Fraction → Bool
at_most? a b = leb (a.plus * b.den + b.minus * a.den) (b.plus * a.den + a.minus * b.den)

unfoldable pub below? : Fraction → Fraction → Bool
below? a b = ltb (a.plus * b.den + b.minus * a.den) (b.plus * a.den + a.minus * b.den)

module _ (a b c : Fraction) where
  pub at_most_trans : a ≼ b → b ≼ c → a ≼ c
  at_most_trans h k = le_of_mul-le-mul_right (omega (arith, mul-le-mul_right c.den h, mul-le-mul_right a.den k)) b.pos

  pub at_most_below : a ≼ b → b ≺ c → a ≺ c
  at_most_below h k = lt_of_mul-lt-mul_right b.den (omega (arith, mul-le-mul_right c.den h, mul-lt-mul_of_pos_right k a.pos))

  pub below_at_most : a ≺ b → b ≼ c → a ≺ c
  below_at_most h k = lt_of_mul-lt-mul_right b.den (omega (arith, mul-lt-mul_of_pos_right h c.pos, mul-le-mul_right a.den k))

-- A sum moves with what is added, and a product with what it is multiplied by.
module _ (a b : Fraction) where
  pub more_with : whole 0 ≼ b → a ≼ a ⊕ b
  more_with h = omega (arith, mul-le-mul_right (a.den * a.den) h)

  pub less_with : b ≼ whole 0 → a ⊕ b ≼ a
  less_with h = omega (arith, mul-le-mul_right (a.den * a.den) h)

  pub times_at_most : (n : ℕ) → a ≼ b → whole n ⊗ a ≼ whole n ⊗ b
  times_at_most n h = omega (arith, mul-le-mul_right n h)

-- Two terms that together are not below 0 move a sum up, and two that are not above 0 move it down.
module _ (a b c : Fraction) where
  pub more_with_both : whole 0 ≼ b ⊕ c → a ≼ a ⊕ b ⊕ c
  more_with_both h = omega (arith, mul-le-mul_right (a.den * a.den) h)

  pub less_with_both : b ⊕ c ≼ whole 0 → a ⊕ b ⊕ c ≼ a
  less_with_both h = omega (arith, mul-le-mul_right (a.den * a.den) h)

-- A fraction is one with all its parts k times as large.
extended : (a b : Fraction) (k : ℕ) → a.plus ≡ b.plus * k → a.minus ≡ b.minus * k → a.den ≡ b.den * k → a ≈ b
extended a b k p m d = rw (p, m, d) (omega arith)

module _ (a b c : Fraction) where
  pub same_trans : a ≈ b → b ≈ c → a ≈ c
  same_trans h k =
      eq_of_mul-eq-mul_right b.den b.pos _ _ (omega (arith, ap (λ (y : ℕ). y * c.den) h, ap (λ (y : ℕ). y * a.den) k))

  -- a × c + b × c = (a + b) × c
  pub spread : a ⊗ c ⊕ b ⊗ c ≈ (a ⊕ b) ⊗ c
  spread = extended (a ⊗ c ⊕ b ⊗ c) ((a ⊕ b) ⊗ c) c.den (omega arith) (omega arith) (omega arith)

  pub regroup : a ⊗ (b ⊗ c) ≈ a ⊗ b ⊗ c
  regroup = omega arith

  pub times_same : a ≈ b → a ⊗ c ≈ b ⊗ c
  times_same h = omega (arith, ap (λ (y : ℕ). y * (c.plus * c.den)) h, ap (λ (y : ℕ). y * (c.minus * c.den)) h)

  pub same_times : a ≈ b → c ⊗ a ≈ c ⊗ b
  same_times h = omega (arith, times_same h)

-- A r + B s ≤ B r + A s
crossed : (A B s r : ℕ) → A ≤ B → s ≤ r → A * r + B * s ≤ B * r + A * s
crossed A B s r h k =
    let e : B ≡ A + (B - A) = omega arith in
    omega (arith, mul-le-mul_left (B - A) k, ap (λ (y : ℕ). y * r) e, ap (λ (y : ℕ). y * s) e)

module _ (a b c : Fraction) where
  pub times_right : whole 0 ≼ c → a ≼ b → a ⊗ c ≼ b ⊗ c
  times_right z h =
      let s : c.minus ≤ c.plus = omega arith in
      omega (
        arith,
        mul-le-mul_right c.den
            (crossed (a.plus * b.den + b.minus * a.den) (b.plus * a.den + a.minus * b.den) c.minus c.plus h s),
      )

  pub times_left : whole 0 ≼ c → a ≼ b → c ⊗ a ≼ c ⊗ b
  times_left z h = omega (arith, times_right z h)

-- What is added to both sides changes no order.
module _ (a b c : Fraction) where
  pub add_right : a ≼ b → a ⊕ c ≼ b ⊕ c
  add_right h = omega (arith, mul-le-mul_right (c.den * c.den) h)

  pub add_left : a ≼ b → c ⊕ a ≼ c ⊕ b
  add_left h = omega (arith, mul-le-mul_right (c.den * c.den) h)

  pub same_right : a ≈ b → a ⊕ c ≈ b ⊕ c
  same_right h = omega (arith, ap (λ (y : ℕ). y * (c.den * c.den)) h)

  pub same_left : a ≈ b → c ⊕ a ≈ c ⊕ b
  same_left h = omega (arith, ap (λ (y : ℕ). y * (c.den * c.den)) h)

module _ (a b c d : Fraction) where
  pub add_at_most : a ≼ b → c ≼ d → a ⊕ c ≼ b ⊕ d
  add_at_most h k = at_most_trans (a ⊕ c) (b ⊕ c) (b ⊕ d) (add_right a b c h) (add_left c d b k)

  pub add_same : a ≈ b → c ≈ d → a ⊕ c ≈ b ⊕ d
  add_same h k = same_trans (a ⊕ c) (b ⊕ c) (b ⊕ d) (same_right a b c h) (same_left c d b k)

-- Sums are equal where their terms are, and a factor of all terms is one of the sum.
pub total_same : (f g : ℕ → Fraction) (n : ℕ) → ((k : ℕ) → k < n → f k ≡ g k) → total f n ≡ total g n
unfolding total
total_same f g zero e = refl
total_same f g (suc n) e = rw (total_same f g n (λ k l. e k (omega arith)), e n (omega arith))

pub total_alike : (f g : ℕ → Fraction) (n : ℕ) → ((k : ℕ) → k < n → f k ≈ g k) → total f n ≈ total g n
unfolding total
total_alike f g zero e = refl
total_alike f g (suc n) e = add_same (total f n) (total g n) (f n) (g n) (total_alike f g n (λ k l. e k (omega arith))) (e n (omega arith))

pub total_times : (f : ℕ → Fraction) (c : Fraction) (n : ℕ) → total (λ k. f k ⊗ c) n ≈ total f n ⊗ c
unfolding total
total_times f c zero = omega arith
total_times f c (suc n) =
    same_trans (total (λ k. f k ⊗ c) n ⊕ f n ⊗ c) (total f n ⊗ c ⊕ f n ⊗ c) ((total f n ⊕ f n) ⊗ c)
    (add_same (total (λ k. f k ⊗ c) n) (total f n ⊗ c) (f n ⊗ c) (f n ⊗ c) (total_times f c n) refl)
    (spread (total f n) (f n) c)

-- A sum of fractions over one number is one over it.
pub total_over : (f : ℕ → ℕ) (q : ℕ) (h : 0 < q) (n : ℕ) → total (λ k. over (f k) q h) n ≈ over (sum_of f n) q h
unfolding total
total_over f q h zero = omega arith
total_over f q h (suc n) =
    same_trans (total (λ k. over (f k) q h) n ⊕ over (f n) q h) (over (sum_of f n) q h ⊕ over (f n) q h) (over (sum_of f n + f n) q h)
    (add_same (total (λ k. over (f k) q h) n) (over (sum_of f n) q h) (over (f n) q h) (over (f n) q h) (total_over f q h n) refl)
    (omega arith)
