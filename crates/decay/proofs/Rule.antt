-- The rule leaves one answer, which is 10^9 × E(15) rounded down; and it has that answer at every rate of both kinds, by one test each.
use mathlib.Core.Path.{◌≡◌, refl, sym, ap, ◌∙◌}
use mathlib.Core.Bool.{Bool, true, false, ◌&&◌, and-false}
use mathlib.Core.List.{List, [], ◌∷◌}
use Prim.Native.Nat.{ℕ, zero, suc, ◌+◌, ◌-◌, ◌*◌, ◌/◌, ◌^◌, ◌≤◌, ◌<◌}
use native.Mathlib.Nat.{add-zero, add-suc, suc-add, div-eq_of_lt-le}
use native.Mathlib.Omega.{arith}
use native.Mathlib.Decide.{ℕ_discrete, dec_le}
use borrow.Author.Tests.{eq-eqb, ne_eqb, le-leb, lt-leb, leb-true}
use lib.Dec.{T, leb, ltb, leb→le, ltb→lt}
use lib.Ieee.Fits.{and_l, and_r}
use lib.ListN.{length, get_or, replicate, get_or-eq_default}
use Rattle.numbers.specs.Fraction.{Fraction, over, whole, ◌⊗◌, ◌≼◌, ◌≺◌, total}
use Rattle.numbers.proofs.Fraction.{at_most_trans, at_most_below, less_with, times_at_most}
use Rattle.decay.specs.Series.{factorial, term, E, Encloses, rounded_down, exponent, entry_of, entries_from, table_of, at_rate}
use Rattle.waste.specs.Kind.{is_kind}
use Rattle.decay.specs.ByMonth.{per_billionth, bracket_of, outwards, left_after_month}
use Rattle.decay.proofs.Series.{odd_term}
use Rattle.decay.proofs.Sums.{same_signs, bottom_pos, summed, sum_is}
use Rattle.decay.proofs.Every.{every_from, up_to, number_at}

-- 10^9 × E(15), which the rule has from below, is below D + 1 too
module _ (p q : ℕ) (h : 0 < q) where
  abbrev x : Fraction
  x = over p q h

  fifteenth : E x 15 ≼ E x 14
  unfolding E total
  fifteenth = less_with (E x 14) (term x 15) (odd_term p q h 15 refl)

  under : (D : ℕ) → Encloses x D → whole (10 ^ 9) ⊗ E x 15 ≺ whole (D + 1)
  under D e = at_most_below (whole (10 ^ 9) ⊗ E x 15) (whole (10 ^ 9) ⊗ E x 14) (whole (D + 1)) (times_at_most (E x 15) (E x 14) (10 ^ 9) fifteenth) e.high

  pub is_rounded_down : (D : ℕ) → Encloses x D → D ≡ rounded_down x
  unfolding rounded_down
  is_rounded_down D e = sym (div-eq_of_lt-le (whole (10 ^ 9) ⊗ E x 15).den (omega (arith, e.low)) (omega (arith, under D e)))

  pub one_entry : (D D' : ℕ) → Encloses x D → Encloses x D' → D ≡ D'
  one_entry D D' e e' = is_rounded_down D e ∙ sym (is_rounded_down D' e')

-- The rule for a sum (plus − minus) / den, multiplied out.
from_below : (D plus minus den : ℕ) (h : 0 < den) → D * den + 10 ^ 9 * minus ≤ 10 ^ 9 * plus
    → whole D ≼ whole (10 ^ 9) ⊗ record { plus = plus; minus = minus; den = den; pos = h }
from_below D plus minus den h e = omega arith

from_above : (D plus minus den : ℕ) (h : 0 < den) → 10 ^ 9 * plus < (D + 1) * den + 10 ^ 9 * minus
    → whole (10 ^ 9) ⊗ record { plus = plus; minus = minus; den = den; pos = h } ≺ whole (D + 1)
from_above D plus minus den h e = omega arith

-- It is a test of the sums over one denominator, with the bound of an entry.
module _ (p q : ℕ) (h : 0 < q) where
  -- of a and b, the terms of E(13) and of E(14) that have the sign of the last one
  unfoldable pub low? : (D a b : ℕ) → Bool
  low? D a b = leb (D * (q ^ 15 * factorial 15) + 10 ^ 9 * (a * (q * 14 * (q * 15)) + p ^ 15)) (10 ^ 9 * (b * (q * 15)))

  unfoldable pub high? : (D a b : ℕ) → Bool
  high? D a b = ltb (10 ^ 9 * b) ((D + 1) * (q ^ 14 * factorial 14) + 10 ^ 9 * (a * (q * 14)))

  unfoldable pub within? : (D a b : ℕ) → Bool
  within? D a b = low? D a b && high? D a b && ltb D (10 ^ 9)

  unfoldable pub encloses? : ℕ → Bool
  encloses? D = within? D (same_signs p q h 13) (same_signs p q h 14)

  pub record Entry (D : ℕ) : Type 0 where
    pub rule : Encloses (over p q h) D
    pub small : D < 10 ^ 9

  meets : (D : ℕ) → T (encloses? D) → Entry D
  unfolding encloses? within? low? high?
  meets D ok =
      let x = over p q h in
      let a = same_signs p q h 13 in
      let b = same_signs p q h 14 in
      let rule = and_l (low? D a b && high? D a b) (ltb D (10 ^ 9)) ok in
      record {
        rule = record {
          low = at_most_trans (whole D) (whole (10 ^ 9) ⊗ summed p q h 15) (whole (10 ^ 9) ⊗ E x 15)
              (from_below D _ _ _ (bottom_pos p q h 15) (leb→le _ _ (and_l (low? D a b) (high? D a b) rule)))
              (times_at_most (summed p q h 15) (E x 15) (10 ^ 9) (omega (arith, sum_is p q h 15)));
          high = at_most_below (whole (10 ^ 9) ⊗ E x 14) (whole (10 ^ 9) ⊗ summed p q h 14) (whole (D + 1))
              (times_at_most (E x 14) (summed p q h 14) (10 ^ 9) (omega (arith, sum_is p q h 14)))
              (from_above D _ _ _ (bottom_pos p q h 14) (ltb→lt _ _ (and_r (low? D a b) (high? D a b) rule)));
        };
        small = ltb→lt _ _ (and_r (low? D a b && high? D a b) (ltb D (10 ^ 9)) ok);
      }

  here : (D : ℕ) → T (encloses? D) → Entry (rounded_down (over p q h))
  here D ok = let e = meets D ok in rw (is_rounded_down p q h D e.rule) at e

  -- 10^9 × E(15) rounded down
  down : ℕ
  down = let a = same_signs p q h 13 in let b = same_signs p q h 14 in (10 ^ 9 * (b * (q * 15)) - 10 ^ 9 * (a * (q * 14 * (q * 15)) + p ^ 15)) / (q ^ 15 * factorial 15)

-- Every rate of a kind by one test, with a number for each; d is the denominator of the kind.
module _ (d : ℕ) (h : 0 < d) (D : ℕ → ℕ) where
  passes? : ℕ → Bool
  passes? r = encloses? r d h (D r)

  every_rate : T (up_to passes? 400) → (r : ℕ) → 1 ≤ r → r ≤ 400 → T (encloses? r d h (D r))
  unfolding passes?
  every_rate = number_at passes? 400

yearly_passes : (h : 0 < 1000) (r : ℕ) → 1 ≤ r → r ≤ 400 → T (encloses? r 1000 h (down r 1000 h))
unfolding passes? encloses? within? low? high? down factorial
yearly_passes h = every_rate 1000 h (λ r. down r 1000 h) tt

pub worked_passes : (h : 0 < 12000) (r : ℕ) → 1 ≤ r → r ≤ 400 → T (encloses? r 12000 h (left_after_month r / per_billionth))
unfolding passes? encloses? within? low? high? factorial left_after_month outwards bracket_of
worked_passes h = every_rate 12000 h (λ r. left_after_month r / per_billionth) tt

yearly : (r : ℕ) → 1 ≤ r → r ≤ 400 → Entry r 1000 (omega arith) (rounded_down (over r 1000 (omega arith)))
yearly r low high = here r 1000 _ (down r 1000 _) (yearly_passes _ r low high)

monthly : (r : ℕ) → 1 ≤ r → r ≤ 400 → Entry r 12000 (omega arith) (rounded_down (over r 12000 (omega arith)))
monthly r low high = here r 12000 _ (left_after_month r / per_billionth) (worked_passes _ r low high)

-- What is known of every entry, once over the kind.
pub record Listed (kind rate D : ℕ) : Type 0 where
  pub rule : Encloses (exponent kind rate) D
  pub small : D < 10 ^ 9

pub listed : (kind rate : ℕ) → is_kind kind ≡ true → 1 ≤ rate → rate ≤ 400 → Listed kind rate (entry_of kind rate)
unfolding entry_of
listed kind rate k low high = simp (k, le-leb 1 rate low, le-leb rate 400 high) (record { rule = both.0; small = both.1 })
  where
    both : (Encloses (exponent kind rate) (rounded_down (exponent kind rate))) × (rounded_down (exponent kind rate) < 10 ^ 9)
    both =
        elim (ℕ_discrete kind 1) [
          | yes y ↦ let e = yearly rate low high in simp (eq-eqb kind 1 y) (e.rule, e.small)
          | no y ↦ let e = monthly rate low high in simp (ne_eqb kind 1 y) (e.rule, e.small)
        ]

-- Any other entry is 0, and so every entry is below 10^9.
pub entry_below : (kind rate : ℕ) → entry_of kind rate < 10 ^ 9
unfolding entry_of
entry_below kind rate = by_test (is_kind kind) (leb 1 rate) (leb rate 400) refl refl refl
  where
    by_test : (a b c : Bool) → is_kind kind ≡ a → leb 1 rate ≡ b → leb rate 400 ≡ c → entry_of kind rate < 10 ^ 9
    by_test true true true p q r = (listed kind rate p (leb-true 1 rate q) (leb-true rate 400 r)).small
    by_test false b c p q r = simp p (omega arith)
    by_test true false c p q r = simp (p, q) (omega arith)
    by_test true true false p q r = simp (p, q, r) (omega arith)

-- Numbers that pass the test are the entries of their rates.
module _ (kind d : ℕ) (h : 0 < d) (is : (rate : ℕ) → exponent kind rate ≡ over rate d h) (k : is_kind kind ≡ true) where
  entry_is : (rate D : ℕ) → 1 ≤ rate → rate ≤ 400 → T (encloses? rate d h D) → D ≡ entry_of kind rate
  unfolding entry_of
  entry_is rate D low high ok = simp (k, le-leb 1 rate low, le-leb rate 400 high, is rate) (is_rounded_down rate d h D (meets rate d h D ok).rule)

  entries_are : (table : List ℕ) (rate : ℕ) → 1 ≤ rate → rate + length table ≤ 401
      → T (every_from (λ r D. encloses? r d h D) rate table) → table ≡ entries_from kind rate (length table)
  unfolding entries_from
  entries_are [] rate low high ok = refl
  entries_are (D ∷ table) rate low high ok =
      let test : ℕ → ℕ → Bool = λ r D. encloses? r d h D in
      let first = entry_is rate D low (omega arith) (and_l (test rate D) (every_from test (suc rate) table) ok) in
      let others = entries_are table (suc rate) (omega arith) (omega arith) (and_r (test rate D) (every_from test (suc rate) table) ok) in
      λ i. first i ∷ others i

  all_are : (table : List ℕ) → T (every_from (λ r D. encloses? r d h D) 1 table) → length table ≡ 400 → table ≡ table_of kind
  unfolding table_of
  all_are table ok n = entries_are table 1 (omega arith) (omega arith) ok ∙ ap (entries_from kind 1) n

pub yearly_table : (table : List ℕ) → T (every_from (λ r D. encloses? r 1000 (omega arith) D) 1 table) → length table ≡ 400 → table ≡ table_of 1
yearly_table = all_are 1 1000 (omega arith) (λ r. refl) refl

-- By month one number is tested by itself.
pub monthly_entry : (rate D : ℕ) → 1 ≤ rate → rate ≤ 400 → T (encloses? rate 12000 (omega arith) D) → D ≡ entry_of 2 rate
monthly_entry = entry_is 2 12000 (omega arith) (λ r. refl) refl

-- Any other kind has zeros.
zeros : (kind rate many : ℕ) → is_kind kind ≡ false → replicate many 0 ≡ entries_from kind rate many
unfolding entry_of entries_from
zeros kind rate zero k = refl
zeros kind rate (suc many) k = simp k (λ i. 0 ∷ zeros kind (suc rate) many k i)

pub no_table : (kind : ℕ) → is_kind kind ≡ false → replicate 400 0 ≡ table_of kind
unfolding table_of
no_table kind k = zeros kind 1 400 k

-- The look-up in the table of a kind is its entry.
pub entry_at : (kind rate many i : ℕ) → i < many → get_or (entries_from kind rate many) i 0 ≡ entry_of kind (rate + i)
unfolding entries_from
entry_at kind rate zero i h = absurd (omega arith)
entry_at kind rate (suc many) zero h = rw (add-zero rate)
entry_at kind rate (suc many) (suc i) h = rw (add-suc rate i, ← suc-add rate i) (entry_at kind (suc rate) many i (omega arith))

pub entries_size : (kind rate many : ℕ) → length (entries_from kind rate many) ≡ many
unfolding entries_from
entries_size kind rate zero = refl
entries_size kind rate (suc many) = ap suc (entries_size kind (suc rate) many)

pub looked_up : (kind rate : ℕ) → at_rate (table_of kind) rate ≡ entry_of kind rate
unfolding entry_of table_of
looked_up kind zero = simp and-false
looked_up kind (suc i) =
    elim (dec_le (suc i) 400) [
      | yes l ↦ let next : 1 + i ≡ suc i = omega arith in rw next at (entry_at kind 1 400 i (omega arith))
      | no l ↦ get_or-eq_default (entries_from kind 1 400) 0 {n = i} (omega (arith, entries_size kind 1 400)) ∙ simp (lt-leb (suc i) 400 (omega arith), and-false)
    ]
