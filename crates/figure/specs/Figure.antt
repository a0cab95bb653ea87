-- Document 01, 'One step': the figure and its bound, from a record's factors, rounding down after each line.
use Rattle.std.specs.Prelude.{cond, ℕ, ◌+◌, ◌-◌, ◌*◌, ◌/◌, ◌^◌, eqb}
use Rattle.numbers.specs.Eight.{sum_of}
use Rattle.waste.specs.Waste.{correction_of}
use Rattle.record.specs.declared.factors.Factors.{Factors}

-- x1 = x0 × factor × (10000 − f) / 10^6
unfoldable pub x1_of : Factors → ℕ → ℕ
x1_of v x0 = x0 * v.factor * (10000 - v.captured) / 10 ^ 6

-- x2 = x1 × (100 − OX) × F × DOCf × MCF / 10^8
unfoldable pub x2_of : Factors → ℕ → ℕ
x2_of v x1 = x1 * (100 - v.oxidation) * v.methane * v.docf * correction_of v.class / 10 ^ 8

-- A number of milligrams of carbon, × 4 × GWP / 3000, in grams CO2e (4/3 is 16/12).
unfoldable pub grams_of : Factors → ℕ → ℕ
grams_of v x = x * 4 * v.potential / 3000

-- figure = x2 × 4 × GWP / 3000
unfoldable pub figure_of : Factors → ℕ → ℕ
figure_of v x0 = grams_of v (x2_of v (x1_of v x0))

-- A type with T = 0 counts 0; any other counts n + 1 + (n × T / 10^9 rounded down).
unfoldable pub margin_of : (n T : ℕ) → ℕ
margin_of n T = cond (eqb T 0) 0 (n + 1 + n * T / 10 ^ 9)

-- B, their sum, with the T at each place.
unfoldable pub b_of : (n : ℕ) → (T : ℕ → ℕ) → ℕ
b_of n T = sum_of (λ t. margin_of n (T t)) 8

-- bound = 3 + (B × 4 × GWP / 3000 rounded down)
unfoldable pub bound_of : Factors → ℕ → ℕ
bound_of v B = 3 + grams_of v B
