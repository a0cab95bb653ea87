-- The terms (−x)^i / i! change sign at each step and, for x at most 1, never grow: so the sums enclose one another.
use mathlib.Core.Path.{◌≡◌, refl, sym}
use mathlib.Core.Bool.{Bool, true, false, not, cond}
use Prim.Native.Nat.{ℕ, zero, suc, ◌+◌, ◌-◌, ◌*◌, ◌^◌, ◌≤◌, ◌<◌}
use native.Mathlib.Nat.{zero-add, suc-add, pow-zero, pow-suc, mul-le-mul_left}
use native.Mathlib.Omega.{arith}
use Rattle.numbers.specs.Fraction.{Fraction, over, whole, negative, ◌⊕◌, ◌≼◌, power, total}
use Rattle.numbers.proofs.Fraction.{at_most_trans, more_with, less_with, more_with_both, less_with_both}
use Rattle.decay.specs.Series.{factorial, term, E}

-- even 0, odd 1, ..
abbrev pub even : ℕ → Bool
even zero = true
even (suc n) = not (even n)

-- not below 0, or not above
abbrev Signed : Bool → Fraction → Type 0
Signed true a = whole 0 ≼ a
Signed false a = a ≼ whole 0

signed : (b : Bool) (a : Fraction) (most least : ℕ) → a.plus ≡ cond b most least → a.minus ≡ cond b least most → least ≤ most → Signed b a
signed true a most least e f h = omega arith
signed false a most least e f h = omega arith

-- a term and the next, of which one is added and the other taken away
mixed : (b : Bool) (m k u v : ℕ)
    → (cond b m 0 * u + cond (not b) k 0 * v ≡ cond b (m * u) (k * v)) × (cond b 0 m * u + cond (not b) 0 k * v ≡ cond b (k * v) (m * u))
mixed true m k u v = (omega arith, omega arith)
mixed false m k u v = (omega arith, omega arith)

module _ (p q : ℕ) (h : 0 < q) where
  abbrev x : Fraction
  x = over p q h

  -- the n-th power of −x is p^n / q^n, above 0 where n is even and below where it is odd
  record Power (n : ℕ) : Type 0 where
    up : (power (negative x) n).plus ≡ cond (even n) (p ^ n) 0
    down : (power (negative x) n).minus ≡ cond (even n) 0 (p ^ n)
    bottom : (power (negative x) n).den ≡ q ^ n

  either : (b : Bool) (m k : ℕ) → (cond b m 0 * 0 + cond b 0 m * k ≡ cond (not b) (m * k) 0) × (cond b m 0 * k + cond b 0 m * 0 ≡ cond (not b) 0 (m * k))
  either true m k = (omega arith, omega arith)
  either false m k = (omega arith, omega arith)

  the_power : (n : ℕ) → Power n
  unfolding power
  the_power zero = record { up = sym (pow-zero p); down = refl; bottom = sym (pow-zero q) }
  the_power (suc n) =
      let w = the_power n in
      record {
        up = rw (w.up, w.down, pow-suc) (either (even n) (p ^ n) p).0;
        down = rw (w.up, w.down, pow-suc) (either (even n) (p ^ n) p).1;
        bottom = rw (w.bottom, pow-suc);
      }

  -- and so is the n-th term, over n! besides
  pub record Term (n : ℕ) : Type 0 where
    pub up : (term x n).plus ≡ cond (even n) (p ^ n) 0
    pub down : (term x n).minus ≡ cond (even n) 0 (p ^ n)
    pub bottom : (term x n).den ≡ q ^ n * factorial n

  pub the_term : (n : ℕ) → Term n
  unfolding term
  the_term n =
      let w = the_power n in
      record { up = rw (← w.up) (omega arith); down = rw (← w.down) (omega arith); bottom = rw w.bottom }

  even_term : (n : ℕ) → even n ≡ true → whole 0 ≼ term x n
  even_term n e = rw ((the_term n).down, e) (omega arith)

  pub odd_term : (n : ℕ) → even n ≡ false → term x n ≼ whole 0
  odd_term n e = rw ((the_term n).up, e) (omega arith)

  -- where x is at most 1, a term and the next one together have the sign of the first
  module _ (small : p ≤ q) where
    shrinks : (n : ℕ) → p ^ n * p * (q ^ n * factorial n) ≤ p ^ n * (q ^ n * q * (suc n * factorial n))
    shrinks n =
        omega (
          arith,
          mul-le-mul_left (p ^ n * q ^ n * factorial n) small,
          mul-le-mul_left {m = 1} {n = suc n} (p ^ n * q ^ n * q * factorial n) (omega arith),
        )

    pair : (n : ℕ) → Signed (even n) (term x n ⊕ term x (suc n))
    unfolding factorial
    pair n =
        let w = the_term n in
        let v = the_term (suc n) in
        let m = mixed (even n) (p ^ n) (p ^ n * p) (q ^ n * q * (suc n * factorial n)) (q ^ n * factorial n) in
        signed (even n) (term x n ⊕ term x (suc n)) (p ^ n * (q ^ n * q * (suc n * factorial n))) (p ^ n * p * (q ^ n * factorial n))
        (rw (w.up, v.up, w.bottom, v.bottom, pow-suc p n, pow-suc q n) m.0)
        (rw (w.down, v.down, w.bottom, v.bottom, pow-suc p n, pow-suc q n) m.1)
        (shrinks n)

    -- E(n + 1) ≤ E(m) ≤ E(n)
    pub record Between (n m : ℕ) : Type 0 where
      pub low : E x (suc n) ≼ E x m
      pub high : E x m ≼ E x n

    next : (n m : ℕ) (b : Bool) → even m ≡ b → Between n m → Between n (suc m) → Between n (suc (suc m))
    unfolding E total
    next n m true e one two =
        record {
          low = at_most_trans (E x (suc n)) (E x (suc m)) (E x (suc (suc m))) two.low
              (more_with (E x (suc m)) (term x (suc (suc m))) (even_term (suc (suc m)) (simp e)));
          high = at_most_trans (E x (suc (suc m))) (E x m) (E x n)
              (less_with_both (E x m) (term x (suc m)) (term x (suc (suc m))) (simp e at (pair (suc m)))) one.high;
        }
    next n m false e one two =
        record {
          low = at_most_trans (E x (suc n)) (E x m) (E x (suc (suc m))) one.low
              (more_with_both (E x m) (term x (suc m)) (term x (suc (suc m))) (simp e at (pair (suc m))));
          high = at_most_trans (E x (suc (suc m))) (E x (suc m)) (E x n)
              (less_with (E x (suc m)) (term x (suc (suc m))) (odd_term (suc (suc m)) (simp e))) two.high;
        }

    both : (n k : ℕ) → even n ≡ true → Between n (k + n) × Between n (suc (k + n))
    unfolding E total
    both n zero e =
        let falls : E x (suc n) ≼ E x n = less_with (E x n) (term x (suc n)) (odd_term (suc n) (simp e)) in
        rw (zero-add n) (record { low = falls; high = omega arith }, record { low = omega arith; high = falls })
    both n (suc k) e =
        let w = both n k e in
        rw (suc-add k n) (w.1, next n (k + n) (even (k + n)) refl w.0 w.1)

    -- every later sum lies between a sum that ends with an added term and the next
    pub enclosed : (n m : ℕ) → even n ≡ true → n ≤ m → Between n m
    enclosed n m e h =
        let d : m - n + n ≡ m = omega arith in
        rw d at (both n (m - n) e).0
