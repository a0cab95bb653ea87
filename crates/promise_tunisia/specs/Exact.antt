-- Document 02, request i, 'Demand 3 speaks of each mode against its own formula': the formulas of source 002, F.2 and G, with no rounding
-- and with the chosen decay fractions. Years are counted from 1, and year y has record y of the accepted ones.
use Rattle.std.specs.Prelude.{cond, List, ℕ, ◌+◌, ◌-◌, leb, ℤ, pos, negsuc}
use Rattle.std.proofs.Common.{arith}
use Rattle.numbers.specs.Fraction.{Fraction, over, whole, negative, ◌⊕◌, ◌⊖◌, ◌⊗◌, ◌≺◌, total}
use Rattle.record.specs.Fields.{factors_of}
use Rattle.reductions.specs.Year.{in_class}
use Rattle.reductions.specs.Stretch.{all_grams}
use Rattle.promise_three.specs.Exact.{record_at, exact_figure_of, exact_release_at}

-- With a fraction at each place and the accepted records:
module _ (d : ℕ → Fraction) (records : List (List ℕ)) where
  -- 'the release of year y − 1, which is 0 in year 1';
  unfoldable pub exact_before : (y : ℕ) → Fraction
  exact_before y = cond (leb y 1) (whole 0) (total (exact_release_at d records (y - 1)) 8)

  -- the chain 'with record y's factors' and a class in the place of the record's;
  unfoldable pub exact_in_class : (class y : ℕ) → Fraction
  exact_in_class class y = exact_figure_of (in_class class (factors_of (record_at records y))) (exact_before y)

  -- 'The reference figure uses class 1; [it is] then multiplied by 73, divided by 100';
  unfoldable pub exact_reference : (y : ℕ) → Fraction
  exact_reference y = exact_in_class 1 y ⊗ over 73 100 (omega arith)

  -- 'the project figure uses class 2 and no 73/100';
  unfoldable pub exact_project : (y : ℕ) → Fraction
  exact_project y = exact_in_class 2 y

  -- 'Reference less project less entered electricity and fuel grams', over the years first to last.
  unfoldable pub exact_reduction : (first last : ℕ) → (electricity fuel : List ℕ) → Fraction
  exact_reduction first last electricity fuel =
      total (λ i. exact_reference (first + i) ⊖ exact_project (first + i)) (last + 1 - first) ⊖ whole (all_grams electricity) ⊖ whole (all_grams fuel)

-- A signed number as a fraction.
unfoldable pub signed : ℤ → Fraction
signed (pos n) = whole n
signed (negsuc n) = negative (whole (n + 1))

-- The two differ by less than the bound, both ways; either may be below zero.
pub record WithinSigned (exact : Fraction) (answered : ℤ) (bound : ℕ) : Type 0 where
  pub exact_below : exact ≺ signed answered ⊕ whole bound
  pub answered_below : signed answered ≺ exact ⊕ whole bound
