-- Document 02, request d, 'Work out the correction factor from uncertainties': equations (3) and (4) of source 000 in fractions, with no
-- rounding, and which calls are accepted. To check is 'φ = 1 / (1 + V), p = floor(100 φ)', with V the root that equation (3) takes. It is
-- seldom a fraction. So V stands between fractions v = n / m: v is at or below V where v² ≤ V², and at or above it where V² ≤ v².
use Rattle.std.specs.Prelude.{◌⊎◌, ◌≡◌, true, ℕ, ◌+◌, ◌≤◌, ◌<◌}
use Rattle.std.proofs.Common.{arith, lit<}
use Rattle.numbers.specs.Fraction.{Fraction, over, whole, ◌⊕◌, ◌⊗◌, ◌≼◌, ◌≺◌, ◌≈◌, floor}
use Rattle.record.specs.Ranges.{is_factor}
use Rattle.uncertainty.specs.Uncertainty.{all_full, AtMost}
use Rattle.uncertainty.specs.declared.Uncertainties.{Uncertainties}

-- A percentage as a fraction, squared.
abbrev pub squared : (percentage : ℕ) → Fraction
squared percentage = over percentage 100 (lit< tt) ⊗ over percentage 100 (lit< tt)

-- Equation (3): V = √(a² + b² + c² + d² + e² + g²); this is V².
unfoldable pub V² : Uncertainties → Fraction
V² u = squared u.a ⊕ squared u.b ⊕ squared u.c ⊕ squared u.d ⊕ squared u.e ⊕ squared u.g

module _ (n m : ℕ) (above : 0 < m) where
  -- v, and v²
  abbrev pub v : Fraction
  v = over n m above

  abbrev pub v² : Fraction
  v² = v ⊗ v

  -- Equation (4): φ = 1 / (1 + v), which is m / (m + n).
  abbrev pub φ : Fraction
  φ = over m (m + n) (omega arith)

-- p = floor(100 φ) at the V whose square this is:
pub record EquationFour (square : Fraction) (p : ℕ) : Type 0 where
  -- literally so where V is a fraction;
  pub at_root : (n m : ℕ) (above : 0 < m) → v² n m above ≈ square → p ≡ floor (whole 100 ⊗ φ n m above)
  -- and in any case p is at most 100 φ for every v at or below V,
  pub below_root : (n m : ℕ) (above : 0 < m) → v² n m above ≼ square → whole p ≼ whole 100 ⊗ φ n m above
  -- and p + 1 is above 100 φ for every v at or above V.
  pub above_root : (n m : ℕ) (above : 0 < m) → square ≼ v² n m above → whole 100 ⊗ φ n m above ≺ whole (p + 1)

-- 'six whole percentages a, b, c, d, e, g, each 0 to 100'
abbrev pub Entered : Uncertainties → Type 0
Entered u = AtMost u all_full

-- 'code 1 takes the lower value, 2 the higher'
pub data Takes (code lower higher value : ℕ) : Type 0 where
  takes_lower : code ≡ 1 → value ≡ lower → Takes code lower higher value
  takes_higher : code ≡ 2 → value ≡ higher → Takes code lower higher value

-- 'from c 5 or 15, d 0 or 5, e 0 or 50, g 5 or 20; a and b are entered as percentages'
pub record ByTable (u values : Uncertainties) : Type 0 where
  pub a_entered : values.a ≡ u.a
  pub b_entered : values.b ≡ u.b
  pub c_chosen : Takes u.c 5 15 values.c
  pub d_chosen : Takes u.d 0 5 values.d
  pub e_chosen : Takes u.e 0 50 values.e
  pub g_chosen : Takes u.g 5 20 values.g

-- What is entered where four are codes.
pub record Coded (u : Uncertainties) : Type 0 where
  pub a_most : u.a ≤ 100
  pub b_most : u.b ≤ 100
  pub c_code : (u.c ≡ 1) ⊎ (u.c ≡ 2)
  pub d_code : (u.d ≡ 1) ⊎ (u.d ≡ 2)
  pub e_code : (u.e ≡ 1) ⊎ (u.e ≡ 2)
  pub g_code : (u.g ≡ 1) ⊎ (u.g ≡ 2)

-- The factor p of six percentages: equation (4) rounded down, from a least to a most one, and allowed in a record, so never 0.
pub record Determined (u : Uncertainties) (least p most : ℕ) : Type 0 where
  pub equation_four : EquationFour (V² u) p
  pub at_least : least ≤ p
  pub at_most : p ≤ most
  pub recordable : is_factor p ≡ true
