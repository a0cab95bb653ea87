-- Document 01, 'One step', its last sentences on the bound: the exact formula is the same chain with no rounding and with the
-- chosen decay fractions. Place t has type t + 1, and records are counted from 1. Every − of whole numbers here is a true difference:
-- i is at most n, n at least 1, and an accepted record has f at most 10000 and OX at most 100.
use Rattle.std.specs.Prelude.{cond, List, [], ℕ, ◌+◌, ◌-◌, ◌*◌, ◌^◌, get_or}
use Rattle.std.proofs.Common.{arith}
use Rattle.numbers.specs.Fraction.{Fraction, over, whole, ◌⊕◌, ◌⊖◌, ◌⊗◌, power, total}
use Rattle.waste.specs.Waste.{inert, correction_of}
use Rattle.record.specs.Fields.{factors_of, deposit_of}
use Rattle.record.specs.declared.factors.Factors.{Factors}

-- One type, with the fraction d and the deposits of the records, in mg:
module _ (d : Fraction) (deposit : ℕ → ℕ) where
  -- what record n leaves of deposit(i): deposit(i) × d^(n − i + 1);
  unfoldable pub remains : (n i : ℕ) → Fraction
  remains n i = whole (deposit i) ⊗ power d (n - i + 1)

  -- the exact stock after record n: the sum of these over records i from 1 to n;
  unfoldable pub exact_stock : (n : ℕ) → Fraction
  exact_stock n = total (λ k. remains n (k + 1)) n

  -- the exact release of record n: the exact stock before it plus deposit(n) less the exact stock after it.
  unfoldable pub exact_release : (n : ℕ) → Fraction
  exact_release n = exact_stock (n - 1) ⊕ whole (deposit n) ⊖ exact_stock n

-- Record i of some records, and its deposit at place t.
abbrev pub record_at : List (List ℕ) → (i : ℕ) → List ℕ
record_at records i = get_or records (i - 1) []

unfoldable pub deposit_in : List (List ℕ) → (t i : ℕ) → ℕ
deposit_in records t i = deposit_of (record_at records i) t

-- The chain: x0 × factor × (10000 − f) / 10^6 × (100 − OX) × F × DOCf × MCF / 10^8 × 4 × GWP / 3000.
unfoldable pub exact_figure_of : Factors → (x0 : Fraction) → Fraction
exact_figure_of v x0 =
    x0
    ⊗ over (v.factor * (10000 - v.captured)) (10 ^ 6) (omega arith)
    ⊗ over ((100 - v.oxidation) * v.methane * v.docf * correction_of v.class) (10 ^ 8) (omega arith)
    ⊗ over (4 * v.potential) 3000 (omega arith)

-- All types, with a fraction at each place and the accepted records:
module _ (d : ℕ → Fraction) (records : List (List ℕ)) where
  -- 'Type 6 has no fraction; its exact stock and release are 0.'
  unfoldable pub exact_stock_at : (n t : ℕ) → Fraction
  exact_stock_at n t = cond (inert t) (whole 0) (exact_stock (d t) (deposit_in records t) n)

  unfoldable pub exact_release_at : (n t : ℕ) → Fraction
  exact_release_at n t = cond (inert t) (whole 0) (exact_release (d t) (deposit_in records t) n)

  -- the exact figure of record n: its eight exact releases added, and the chain with its own factors.
  unfoldable pub exact_figure : (n : ℕ) → Fraction
  exact_figure n = exact_figure_of (factors_of (record_at records n)) (total (exact_release_at n) 8)
