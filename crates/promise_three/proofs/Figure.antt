-- Each line of the chain multiplies by at most 1 and rounds down, so it adds less than 1 to what the releases are off by; the last
-- line multiplies by at most 2/15, which the 3 of the bound covers.
use Prim.Native.Nat.{ℕ, zero, suc, ◌+◌, ◌-◌, ◌*◌, ◌/◌, ◌^◌, ◌≤◌, ◌<◌}
use native.Mathlib.Nat.{mul-le-mul, mul-le-mul_left, mul-le-mul_right, sub-le}
use native.Mathlib.Omega.{arith}
use Rattle.numbers.specs.Eight.{sum_of}
use Rattle.numbers.specs.Fraction.{Fraction, over, whole, ◌⊕◌, ◌⊗◌, ◌≼◌, ◌≺◌, total, WithinBound}
use Rattle.waste.specs.Waste.{correction_of}
use Rattle.waste.proofs.Laws.{correction_most}
use Rattle.record.specs.declared.factors.Factors.{Factors}
use Rattle.record.proofs.Laws.{Ranged}
use Rattle.figure.specs.Figure.{x1_of, x2_of, grams_of, figure_of, bound_of}
use Rattle.promise_three.specs.Exact.{exact_figure_of}
use Rattle.promise_three.proofs.Release.{Beside}

-- sums of fractions, each beside a whole number
pub beside_sums : (g : ℕ → Fraction) (G m : ℕ → ℕ) (k : ℕ) → ((t : ℕ) → t < k → Beside (g t) (G t) (m t))
    → Beside (total g k) (sum_of G k) (sum_of m k)
unfolding total
beside_sums g G m zero h = record { above = omega arith; below = omega arith }
beside_sums g G m (suc k) h =
    let sums = beside_sums g G m k (λ t l. h t (omega arith)) in
    let last = h k (omega arith) in
    record {
      above = omega (arith, mul-le-mul_right (g k).den sums.above, mul-le-mul_right (total g k).den last.above);
      below = omega (arith, mul-le-mul_right (g k).den sums.below, mul-le-mul_right (total g k).den last.below);
    }

-- one line of the chain: times c / q, at most 1, and rounded down to y
module _ (r : Fraction) (x e c q y : ℕ) (pos : 0 < q) (most : c ≤ q) where
  line_below : x * c < (y + 1) * q → r ≼ whole x ⊕ whole e → r ⊗ over c q pos ≼ whole y ⊕ whole (e + 1)
  line_below f h = omega (arith, mul-le-mul_right c h, mul-le-mul_right r.den f, mul-le-mul_left (e * r.den) most)

  line_above : y * q ≤ x * c → whole x ≼ r ⊕ whole e → whole y ≼ r ⊗ over c q pos ⊕ whole e
  line_above f h = omega (arith, mul-le-mul_right c h, mul-le-mul_right r.den f, mul-le-mul_left (e * r.den) most)

-- the last line, on what is off by B, or by B + 2 where the lines before rounded down
module _ (r : Fraction) (x B W : ℕ) (most : W ≤ 100) where
  floor_b : B * 4 * W < 3000 * (B * 4 * W / 3000 + 1)
  floor_b = omega arith

  last_below : r ≼ whole x ⊕ whole (B + 1 + 1)
      → r ⊗ over (4 * W) 3000 (omega arith) ≺ whole (x * 4 * W / 3000) ⊕ whole (3 + B * 4 * W / 3000)
  last_below h =
      let floor : x * 4 * W < 3000 * (x * 4 * W / 3000 + 1) = omega arith in
      omega (
        arith,
        mul-le-mul_right (4 * W) h,
        mul-le-mul_right r.den floor,
        mul-le-mul_right r.den floor_b,
        mul-le-mul_right r.den most,
        r.pos,
      )

  last_above : whole x ≼ r ⊕ whole B → whole (x * 4 * W / 3000) ≺ r ⊗ over (4 * W) 3000 (omega arith) ⊕ whole (3 + B * 4 * W / 3000)
  last_above h =
      let floor : 3000 * (x * 4 * W / 3000) ≤ x * 4 * W = omega arith in
      omega (arith, mul-le-mul_right (4 * W) h, mul-le-mul_right r.den floor, mul-le-mul_right r.den floor_b, r.pos)

-- the chain, with factors that are within their ranges
module _ (v : Factors) (ok : Ranged v) (r : Fraction) (x B : ℕ) where
  abbrev c1 : ℕ
  c1 = v.factor * (10000 - v.captured)

  abbrev c2 : ℕ
  c2 = (100 - v.oxidation) * v.methane * v.docf * correction_of v.class

  c1_most : c1 ≤ 10 ^ 6
  c1_most = mul-le-mul ok.factor (sub-le 10000 v.captured)

  c2_most : c2 ≤ 10 ^ 8
  c2_most = mul-le-mul (mul-le-mul (mul-le-mul (sub-le 100 v.oxidation) ok.methane) ok.docf) (correction_most v.class)

  abbrev x1 : ℕ
  x1 = x * v.factor * (10000 - v.captured) / 10 ^ 6

  abbrev x2 : ℕ
  x2 = x1 * (100 - v.oxidation) * v.methane * v.docf * correction_of v.class / 10 ^ 8

  abbrev r1 : Fraction
  r1 = r ⊗ over c1 (10 ^ 6) (omega arith)

  abbrev r2 : Fraction
  r2 = r1 ⊗ over c2 (10 ^ 8) (omega arith)

  below : r ≼ whole x ⊕ whole B
      → r2 ⊗ over (4 * v.potential) 3000 (omega arith) ≺ whole (x2 * 4 * v.potential / 3000) ⊕ whole (3 + B * 4 * v.potential / 3000)
  below h =
      last_below r2 x2 B v.potential ok.potential
      (line_below r1 x1 (B + 1) c2 (10 ^ 8) x2 (omega arith) c2_most (omega arith)
      (line_below r x B c1 (10 ^ 6) x1 (omega arith) c1_most (omega arith) h))

  above : whole x ≼ r ⊕ whole B
      → whole (x2 * 4 * v.potential / 3000) ≺ r2 ⊗ over (4 * v.potential) 3000 (omega arith) ⊕ whole (3 + B * 4 * v.potential / 3000)
  above h =
      last_above r2 x2 B v.potential ok.potential
      (line_above r1 x1 B c2 (10 ^ 8) x2 (omega arith) c2_most (omega arith)
      (line_above r x B c1 (10 ^ 6) x1 (omega arith) c1_most (omega arith) h))

  pub chain : Beside r x B → WithinBound (exact_figure_of v r) (figure_of v x) (bound_of v B)
  unfolding exact_figure_of figure_of x1_of x2_of grams_of bound_of
  chain near = record { exact_below = omega (arith, below near.below); figure_below = omega (arith, above near.above) }
