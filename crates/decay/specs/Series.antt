-- Document 01, 'The decay table': the series, the enclosure rule and the entries.
use Rattle.std.specs.Prelude.{cond, ◌&&◌, List, [], ◌∷◌, ℕ, zero, suc, ◌+◌, ◌*◌, ◌^◌, ◌<◌, leb, eqb, get_or}
use Rattle.std.proofs.Common.{mul-pos, arith}
use Rattle.numbers.specs.Fraction.{Fraction, over, whole, negative, floor, ◌⊗◌, ◌≼◌, ◌≺◌, power, total}
use Rattle.waste.specs.Kind.{yearly, is_kind}

-- i!
unfoldable pub factorial : ℕ → ℕ
factorial zero = 1
factorial (suc i) = suc i * factorial i

pub factorial_pos : (i : ℕ) → 0 < factorial i
unfolding factorial
factorial_pos zero = omega arith
factorial_pos (suc i) = mul-pos (omega arith) (factorial_pos i)

-- (−x)^i / i!
unfoldable pub term : Fraction → ℕ → Fraction
term x i = power (negative x) i ⊗ over 1 (factorial i) (factorial_pos i)

-- E(n): the sum of (−x)^i / i! for i from 0 to n.
unfoldable pub E : Fraction → ℕ → Fraction
E x n = total (term x) (suc n)

-- The rule: D ≤ 10^9 × E(15) and 10^9 × E(14) < D + 1.
pub record Encloses (x : Fraction) (D : ℕ) : Type 0 where
  pub low : whole D ≼ whole (10 ^ 9) ⊗ E x 15
  pub high : whole (10 ^ 9) ⊗ E x 14 ≺ whole (D + 1)

-- A fraction that an entry stands for: from the entry up to but not including the next billionth.
pub record StandsFor (D : ℕ) (d : Fraction) : Type 0 where
  pub from : whole D ≼ whole (10 ^ 9) ⊗ d
  pub up_to : whole (10 ^ 9) ⊗ d ≺ whole (D + 1)

-- The only D that can meet the rule: 10^9 × E(15) rounded down.
unfoldable pub rounded_down : Fraction → ℕ
rounded_down x = floor (whole (10 ^ 9) ⊗ E x 15)

-- x for a rate r in thousandths: r/1000 (year) or r/12000 (month).
abbrev pub exponent : (kind r : ℕ) → Fraction
exponent kind r = cond (eqb kind yearly) (over r 1000 (omega arith)) (over r 12000 (omega arith))

-- The table has every rate from 1 to 400, by year and by month; asked for any other rate or kind, the look-up answers 0.
unfoldable pub entry_of : (kind rate : ℕ) → ℕ
entry_of kind rate = cond (is_kind kind && leb 1 rate && leb rate 400) (rounded_down (exponent kind rate)) 0

-- The entries of a kind from a rate on, so many of them.
unfoldable pub entries_from : (kind rate many : ℕ) → List ℕ
entries_from kind rate zero = []
entries_from kind rate (suc many) = entry_of kind rate ∷ entries_from kind (suc rate) many

-- The 400 numbers of a kind, the first for rate 1.
unfoldable pub table_of : ℕ → List ℕ
table_of kind = entries_from kind 1 400

-- What a table has for a rate, and 0 for a rate that it does not have.
abbrev pub at_rate : List ℕ → ℕ → ℕ
at_rate table rate = get_or (0 ∷ table) rate 0
