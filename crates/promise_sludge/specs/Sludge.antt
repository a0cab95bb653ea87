-- Document 02, request f, 'Sludge with a measured dry matter', told again: DOC by the formulas of source 001, in percent of wet sludge, and
-- the deposit and refusal 3 with any DOC of the eight types. Place t has type t + 1.
use Rattle.std.specs.Prelude.{◌≡◌, Bool, cond, ◌&&◌, List, [], ◌∷◌, ℕ, ◌+◌, ◌*◌, ◌^◌, ◌≤◌, eqb, leb, length, get_or}
use Rattle.std.proofs.Common.{lit<}
use Rattle.numbers.specs.Eight.{every_of}
use Rattle.numbers.specs.Fraction.{Fraction, over, whole, ◌⊗◌, floor}
use Rattle.record.specs.Fields.{mass_of}
use Rattle.year_factors.specs.YearFactors.{sound_year}
use Rattle.ledger.specs.Step.{brought_at, stock_at, released_at}
use Rattle.ledger.specs.Refusal.{all_zero, in_code}
use Rattle.ledger.specs.declared.book.Ledger.{Ledger}

-- 'Byte 12 now gives m for type 7, byte 13 for type 8'; the other types have none.
abbrev pub m_of : List ℕ → (t : ℕ) → ℕ
m_of bytes t = get_or (0 ∷ 0 ∷ 0 ∷ 0 ∷ 0 ∷ 0 ∷ get_or bytes 12 0 ∷ get_or bytes 13 0 ∷ []) t 0

-- 'industrial DOC = 9 × m / 35, domestic 5 × m / 10'
abbrev pub industrial_percent : (m : ℕ) → Fraction
industrial_percent m = whole 9 ⊗ over m 35 (lit< tt)

abbrev pub domestic_percent : (m : ℕ) → Fraction
domestic_percent m = whole 5 ⊗ over m 10 (lit< tt)

-- 'DOC in hundredths of a percent [..] rounded down'
abbrev pub hundredths : Fraction → ℕ
hundredths percent = floor (whole 100 ⊗ percent)

-- DOC of types 1 to 8 as document 01 has it, and as refusal 3 now uses it.
abbrev pub defaults : List ℕ
defaults = 4300 ∷ 4000 ∷ 1500 ∷ 2400 ∷ 2000 ∷ 0 ∷ 500 ∷ 900 ∷ []

abbrev pub highest : List ℕ
highest = 4300 ∷ 4000 ∷ 1500 ∷ 2400 ∷ 2000 ∷ 0 ∷ 5000 ∷ 2571 ∷ []

-- 'deposit = mass × DOC × 100 mg'
abbrev pub deposit_by : List ℕ → (t DOC : ℕ) → ℕ
deposit_by bytes t DOC = mass_of bytes t * DOC * 100

-- Refusal 3 does not hold, with such a list in its ceiling on T: 'some T over n × 10^9 × DOC × 100'.
unfoldable pub within_by : (DOC : List ℕ) → Ledger → ℕ → Bool
within_by DOC l t =
    leb (brought_at l t) (l.n * 10 ^ 9 * get_or DOC t 0 * 100)
    && leb (stock_at l t) (brought_at l t)
    && eqb (released_at l t + stock_at l t) (brought_at l t)

unfoldable pub sound_by : (DOC : List ℕ) → Ledger → Bool
sound_by DOC l =
    leb l.n 1200
    && cond (eqb l.n 0) (all_zero l) (in_code l && every_of (within_by DOC l) 8)
    && sound_year l.n l.kind l.year

-- m of both types is 0 to 100.
pub record Dry (bytes : List ℕ) : Type 0 where
  pub domestic_most : m_of bytes 6 ≤ 100
  pub industrial_most : m_of bytes 7 ≤ 100

-- Two records differ in bytes 12 and 13 at most.
pub record AlikeButDry (one other : List ℕ) : Type 0 where
  pub same_length : length one ≡ length other
  pub same_byte : (i : ℕ) → (i ≡ 12 → ⊥) → (i ≡ 13 → ⊥) → get_or one i 0 ≡ get_or other i 0
