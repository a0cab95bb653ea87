-- What the bits b of a float say of its size. From exponent 1 on it is digits / 2^p, where p of the digits stand behind the point:
-- all of them below 1, and none from 2^52 on.
use mathlib.Core.Path.{◌≡◌, refl, sym, ap, ◌∙◌, subst}
use mathlib.Core.Bool.{Bool, true, false, cond}
use Prim.Native.Nat.{ℕ, zero, suc, ◌+◌, ◌-◌, ◌*◌, ◌/◌, ◌%◌, ◌^◌, ◌≤◌, ◌<◌}
use native.Mathlib.Nat.{lt_of_lt_of_le, mul_assoc, mod-eq_of_lt, eq_of_mul-eq-mul_right, mul-le-mul_left}
use native.Mathlib.Omega.{arith}
use lib.Dec.{leb, eqb, lit≤}
use lib.Pow.{pow-add, pow_pos, pow_mono}
use lib.Ieee.{Float, nan, inf, fin, binary64, odd, of_fields, of_bits}
use lib.Ieee.Exact.{HasValue, odd_sign}
use borrow.Author.Tests.{ne_eqb, le-leb, lt-leb, leb-true, leb-false}
use Rattle.door.specs.Cell.{Numbers, whole_of, refused_cell, accepted_cell, answer_to_number}
use Rattle.door.proofs.Whole.{is_whole, has_fraction, above_limit}

scaled : (v : Float) (s : Bool) (a c k : ℕ) → 0 < k → HasValue v s (a * k) (c * k) → HasValue v s a c
scaled nan s a c k p h = h
scaled (inf t) s a c k p h = h
scaled (fin t m e) s a c k p h = (h.0, eq_of_mul-eq-mul_right k p _ _ (omega (arith, h.1)))

leading : (s : Bool) (x t : ℕ) → 0 < x → x < 2047 → HasValue (of_fields binary64 s x t) s ((2 ^ 52 + t) * 2 ^ (x - 1)) (2 ^ 1074)
unfolding of_fields
leading s zero t l h = absurd (omega arith)
leading s (suc j) t l h =
    let f : eqb (suc j) 2047 ≡ false = ne_eqb (suc j) 2047 (λ e. omega arith) in
    let e : suc j - 1 ≡ j = omega arith in
    rw (f, e) (odd_sign 53 s (2 ^ 52 + t) j 1074)

module _ (b : ℕ) where
  abbrev minus : Bool
  minus = leb (2 ^ 63) b

  abbrev exponent : ℕ
  exponent = b % 2 ^ 63 / 2 ^ 52

  -- with their leading one
  abbrev digits : ℕ
  digits = 2 ^ 52 + b % 2 ^ 52

  abbrev number : Float
  number = of_bits binary64 b

  abbrev answer : Numbers
  answer = answer_to_number (whole_of number)

  same_sign : (s : Bool) → (s ≡ true → 2 ^ 63 ≤ b) → (s ≡ false → b < 2 ^ 63) → s ≡ minus
  same_sign true t f = sym (le-leb (2 ^ 63) b (t refl))
  same_sign false t f = sym (lt-leb (2 ^ 63) b (f refl))

  -- as the code reads them: the sign s, and the digits q, of which p stand behind the point
  pub with_point : (s : Bool) (q p : ℕ) → (s ≡ true → 2 ^ 63 ≤ b) → (s ≡ false → b < 2 ^ 63) → q ≡ digits → p + exponent ≡ 1075 → 0 < exponent → HasValue number s q (2 ^ p)
  unfolding of_bits
  with_point s q p t f d e l =
      let k = exponent - 1 in
      let i : p + k ≡ 1074 = omega arith in
      let c : 2 ^ p * 2 ^ k ≡ 2 ^ 1074 = sym (pow-add 2 p k) ∙ ap (λ (j : ℕ). 2 ^ j) i in
      rw (same_sign s t f) (scaled number minus q (2 ^ p) (2 ^ k) (pow_pos k) (rw (d, c) (leading minus exponent (b % 2 ^ 52) l (omega arith))))

  pub zero_is_0 : b % 2 ^ 63 ≡ 0 → accepted_cell 0 ≡ answer
  unfolding of_bits of_fields odd
  zero_is_0 z =
      let e : exponent ≡ 0 = omega arith in
      let t : b % 2 ^ 52 ≡ 0 = omega arith in
      rw (e, t) (either minus)
    where
      either : (s : Bool) → accepted_cell 0 ≡ answer_to_number (whole_of (of_fields binary64 s 0 0))
      either true = refl
      either false = refl

  pub below_one_11 : 0 < b % 2 ^ 63 → exponent < 1023 → refused_cell 11 ≡ answer
  unfolding of_bits of_fields
  below_one_11 h l = at exponent refl
    where
      below : (a c : ℕ) → 0 < a → a < 2 ^ 53 → 2 ^ 53 ≤ c → HasValue number minus a c → refused_cell 11 ≡ answer
      below a c p s g v = rw (has_fraction number minus a c (rw (mod-eq_of_lt (lt_of_lt_of_le s g)) p) v)

      at : (k : ℕ) → exponent ≡ k → refused_cell 11 ≡ answer
      at zero e = below (b % 2 ^ 52 * 2 ^ 0) (2 ^ 1074) (omega arith) (omega arith) (lit≤ tt) (rw e (odd_sign 53 minus (b % 2 ^ 52) 0 1074))
      at (suc k) e =
          let p = 1075 - exponent in
          let g : 53 ≤ p = omega arith in
          below digits (2 ^ p) (omega arith) (omega arith) (pow_mono g) (with_point minus digits p (leb-true (2 ^ 63) b) (leb-false (2 ^ 63) b) refl (omega arith) (omega arith))

  pub not_finite_11 : exponent ≡ 2047 → refused_cell 11 ≡ answer
  unfolding of_bits of_fields
  not_finite_11 e = rw e (either (eqb (b % 2 ^ 52) 0))
    where
      either : (t : Bool) → refused_cell 11 ≡ answer_to_number (whole_of (cond t (inf minus) nan))
      either true = refl
      either false = refl

  pub large_12 : 1075 ≤ exponent → exponent < 2047 → refused_cell 12 ≡ answer
  unfolding of_bits
  large_12 l h =
      let k = exponent - 1075 in
      let n = digits * 2 ^ k in
      let e : exponent - 1 ≡ k + 1074 = omega arith in
      let d : digits * 2 ^ (exponent - 1) ≡ n * 2 ^ 1074 = rw (e, pow-add 2 k 1074) (sym (mul_assoc digits (2 ^ k) (2 ^ 1074))) in
      let v : HasValue number minus (n * 2 ^ 1074) (2 ^ 1074) = subst (λ (a : ℕ). HasValue number minus a (2 ^ 1074)) d (leading minus exponent (b % 2 ^ 52) (omega arith) h) in
      rw (is_whole number minus n (2 ^ 1074) (pow_pos 1074) v) (above_limit minus n (omega (arith, mul-le-mul_left digits (pow_pos k))))
