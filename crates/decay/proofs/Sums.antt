-- The sums E(n) over the one denominator q^n × n!, term by term: what the tests of the tables compute.
use mathlib.Core.Path.{◌≡◌, refl, ap}
use mathlib.Core.Bool.{Bool, true, false, not, cond}
use Prim.Native.Nat.{ℕ, zero, suc, ◌+◌, ◌*◌, ◌^◌, ◌<◌}
use native.Mathlib.Nat.{mul-pos, one-le-pow, pow-zero, pow-suc}
use native.Mathlib.Omega.{arith}
use Rattle.numbers.specs.Fraction.{Fraction, over, ◌⊕◌, ◌≈◌, power, total}
use Rattle.decay.specs.Series.{factorial, factorial_pos, term, E}
use Rattle.decay.proofs.Series.{even, the_term}

-- a sum over w, and the same sum with one term more over w × k
one_more : (up down ep em ed w k w' t s : ℕ) → w' ≡ w * k → up * ed + em * w ≡ ep * w + down * ed
    → (up * k + t) * (ed * w') + (em * w' + s * ed) * w' ≡ (ep * w' + t * ed) * w' + (down * k + s) * (ed * w')
one_more up down ep em ed w k w' t s e h =
    omega (
      arith,
      ap (λ (y : ℕ). y * (k * w')) h,
      ap (λ (y : ℕ). y * (em * w')) e,
      ap (λ (y : ℕ). y * (ep * w')) e,
    )

module _ (p q : ℕ) (h : 0 < q) where
  -- the terms of E(n) that have the sign of the last one, and the others, times q^n × n!
  abbrev pub same_signs : ℕ → ℕ
  same_signs zero = 1
  same_signs (suc zero) = p
  same_signs (suc (suc n)) = same_signs n * (q * suc n * (q * suc (suc n))) + p ^ suc (suc n)

  abbrev pub other_sign : ℕ → ℕ
  other_sign zero = 0
  other_sign (suc n) = same_signs n * (q * suc n)

  same_sign_next : (n : ℕ) → same_signs (suc n) ≡ other_sign n * (q * suc n) + p ^ suc n
  same_sign_next zero = rw (pow-suc, pow-zero) (omega arith)
  same_sign_next (suc n) = omega arith

  pub bottom_pos : (n : ℕ) → 0 < q ^ n * factorial n
  bottom_pos n = mul-pos (one-le-pow n q h) (factorial_pos n)

  abbrev pub summed : ℕ → Fraction
  summed n =
      record {
        plus = cond (even n) (same_signs n) (other_sign n);
        minus = cond (even n) (other_sign n) (same_signs n);
        den = q ^ n * factorial n;
        pos = bottom_pos n;
      }

  first : summed 0 ≈ E (over p q h) 0
  unfolding E total term power factorial
  first = rw pow-zero refl

  next : (n : ℕ) → E (over p q h) (suc n) ≡ E (over p q h) n ⊕ term (over p q h) (suc n)
  unfolding E total
  next n = refl

  -- the next term joins those of its sign
  plus_next : (n : ℕ) (b : Bool) → cond (not b) (same_signs (suc n)) (other_sign (suc n)) ≡ cond b (same_signs n) (other_sign n) * (q * suc n) + cond (not b) (p ^ suc n) 0
  plus_next n true = omega arith
  plus_next n false = same_sign_next n

  minus_next : (n : ℕ) (b : Bool) → cond (not b) (other_sign (suc n)) (same_signs (suc n)) ≡ cond b (other_sign n) (same_signs n) * (q * suc n) + cond (not b) 0 (p ^ suc n)
  minus_next n true = same_sign_next n
  minus_next n false = omega arith

  pub sum_is : (n : ℕ) → summed n ≈ E (over p q h) n
  unfolding factorial
  sum_is zero = first
  sum_is (suc n) =
      let w = the_term p q h (suc n) in
      rw (next n, w.up, w.down, w.bottom, pow-suc q n, plus_next n (even n), minus_next n (even n))
      (one_more (cond (even n) (same_signs n) (other_sign n)) (cond (even n) (other_sign n) (same_signs n)) _ _ _ (q ^ n * factorial n) (q * suc n)
      (q ^ n * q * (suc n * factorial n)) _ _ (omega arith) (sum_is n))
