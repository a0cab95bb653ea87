-- Fractions of whole numbers, as 'The decay table' and demand 3 use them: (plus − minus) / den, den above 0.
-- They are not reduced. They are compared by multiplying out the denominators.
use Rattle.std.specs.Prelude.{◌≡◌, ℕ, zero, suc, ◌+◌, ◌-◌, ◌*◌, ◌/◌, ◌≤◌, ◌<◌}
use Rattle.std.proofs.Common.{mul-pos, arith}

infixl 60 ◌⊕◌ ◌⊖◌
infixl 70 ◌⊗◌
infix 40 ◌≼◌ ◌≺◌ ◌≈◌
pub record Fraction : Type 0 where
  pub plus : ℕ
  pub minus : ℕ
  pub den : ℕ
  pub pos : 0 < den

-- p / q
abbrev pub over : (p q : ℕ) → 0 < q → Fraction
over p q h = record { plus = p; minus = 0; den = q; pos = h }

abbrev pub whole : ℕ → Fraction
whole n = over n 1 (omega arith)

-- −a
abbrev pub negative : Fraction → Fraction
negative a = record { plus = a.minus; minus = a.plus; den = a.den; pos = a.pos }

abbrev pub ◌⊕◌ : Fraction → Fraction → Fraction
a ⊕ b =
    record {
      plus = a.plus * b.den + b.plus * a.den;
      minus = a.minus * b.den + b.minus * a.den;
      den = a.den * b.den;
      pos = mul-pos a.pos b.pos;
    }

abbrev pub ◌⊖◌ : Fraction → Fraction → Fraction
a ⊖ b = a ⊕ negative b

abbrev pub ◌⊗◌ : Fraction → Fraction → Fraction
a ⊗ b =
    record {
      plus = a.plus * b.plus + a.minus * b.minus;
      minus = a.plus * b.minus + a.minus * b.plus;
      den = a.den * b.den;
      pos = mul-pos a.pos b.pos;
    }

-- a ≤ b, a < b and a = b
abbrev pub ◌≼◌ : Fraction → Fraction → Type 0
a ≼ b = a.plus * b.den + b.minus * a.den ≤ b.plus * a.den + a.minus * b.den

abbrev pub ◌≺◌ : Fraction → Fraction → Type 0
a ≺ b = a.plus * b.den + b.minus * a.den < b.plus * a.den + a.minus * b.den

abbrev pub ◌≈◌ : Fraction → Fraction → Type 0
a ≈ b = a.plus * b.den + b.minus * a.den ≡ b.plus * a.den + a.minus * b.den

-- The whole number below a fraction that is not negative: its value rounded down.
abbrev pub floor : Fraction → ℕ
floor a = (a.plus - a.minus) / a.den

-- a to the power n
unfoldable pub power : Fraction → ℕ → Fraction
power a zero = whole 1
power a (suc n) = power a n ⊗ a

-- f 0 + f 1 + .. + f (n − 1)
unfoldable pub total : (ℕ → Fraction) → ℕ → Fraction
total f zero = whole 0
total f (suc n) = total f n ⊕ f n

-- The two differ by less than the bound, both ways.
pub record WithinBound (exact : Fraction) (figure bound : ℕ) : Type 0 where
  pub exact_below : exact ≺ whole figure ⊕ whole bound
  pub figure_below : whole figure ≺ exact ⊕ whole bound
