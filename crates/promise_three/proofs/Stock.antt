-- One record on, the exact stock is that before it with the deposit, times the fraction; so what rounding down takes from the
-- ledger's stock grows by less than 1 + T / 10^9 at each record.
use mathlib.Core.Path.{◌≡◌, ap}
use Prim.Native.Nat.{ℕ, zero, suc, ◌+◌, ◌-◌, ◌*◌, ◌/◌, ◌^◌, ◌≤◌, ◌<◌}
use native.Mathlib.Numerals.{add-one}
use native.Mathlib.Omega.{arith}
use Rattle.numbers.specs.Fraction.{Fraction, over, whole, ◌⊕◌, ◌⊗◌, ◌≼◌, ◌≺◌, ◌≈◌, power, total}
use Rattle.decay.specs.Series.{StandsFor}
use Rattle.carbon.specs.Carbon.{left_of}
use Rattle.promise_three.specs.Exact.{remains, exact_stock}
use Rattle.promise_three.specs.DemandThree.{CloseTo}
use Rattle.carbon.proofs.Laws.{left_most}
use Rattle.numbers.proofs.Fraction.{at_most_trans, at_most_below, same_trans, spread, regroup, times_left, times_right, add_at_most, add_same, total_alike, total_times}

module _ (d : Fraction) (deposit : ℕ → ℕ) where
  -- what is left, by the number of its periods
  powered : (n i j : ℕ) → n - i + 1 ≡ j → remains d deposit n i ≡ whole (deposit i) ⊗ power d j
  unfolding remains
  powered n i j h = ap (λ k. whole (deposit i) ⊗ power d k) (omega arith)

  older : (n k : ℕ) → k < n → remains d deposit (suc n) (k + 1) ≈ remains d deposit n (k + 1) ⊗ d
  unfolding power
  older n k h =
      rw (powered (suc n) (k + 1) (suc (n - k)) (omega arith), powered n (k + 1) (n - k) (omega arith))
      (regroup (whole (deposit (k + 1))) (power d (n - k)) d)

  newest : (n : ℕ) → remains d deposit (suc n) (n + 1) ≈ whole (deposit (suc n)) ⊗ d
  unfolding power
  newest n = rw (powered (suc n) (n + 1) (suc zero) (omega arith), add-one) (omega arith)

  pub recurs : (n : ℕ) → exact_stock d deposit (suc n) ≈ (exact_stock d deposit n ⊕ whole (deposit (suc n))) ⊗ d
  unfolding exact_stock total
  recurs n =
      let old = total (λ k. remains d deposit n (k + 1)) n in
      let on = total (λ k. remains d deposit (suc n) (k + 1)) n in
      let new = whole (deposit (suc n)) in
      same_trans (on ⊕ remains d deposit (suc n) (n + 1)) (old ⊗ d ⊕ new ⊗ d) ((old ⊕ new) ⊗ d)
      (add_same on (old ⊗ d) (remains d deposit (suc n) (n + 1)) (new ⊗ d)
      (same_trans on (total (λ k. remains d deposit n (k + 1) ⊗ d) n) (old ⊗ d)
      (total_alike (λ k. remains d deposit (suc n) (k + 1)) (λ k. remains d deposit n (k + 1) ⊗ d) n (older n))
      (total_times (λ k. remains d deposit n (k + 1)) d n))
      (newest n))
      (spread old new d)

-- What is known of the exact stock X after n records bringing T, with R left.
pub record NearExact (X : Fraction) (n T R : ℕ) : Type 0 where
  pub stock_below : whole R ≼ X
  pub short_at_most : X ≼ whole R ⊕ over (10 ^ 9 * n + n * T) (10 ^ 9) (omega arith)
  pub exact_most : X ≼ whole T
  pub stock_most : R ≤ T

module _ (X X' d : Fraction) (n T R x D : ℕ) (small : D < 10 ^ 9) (stands : StandsFor D d) (next : X' ≈ (X ⊕ whole x) ⊗ d) (near : NearExact X n T R) where
  abbrev Y : Fraction
  Y = X ⊕ whole x

  abbrev e : Fraction
  e = over (10 ^ 9 * n + n * T) (10 ^ 9) (omega arith)

  least : over D (10 ^ 9) (omega arith) ≼ d
  least = omega (arith, stands.from)

  not_negative : whole 0 ≼ d
  not_negative = omega (arith, stands.from)

  under : d ≼ over (D + 1) (10 ^ 9) (omega arith)
  under = omega (arith, stands.up_to)

  at_most_1 : d ≼ whole 1
  at_most_1 = at_most_trans d (over (D + 1) (10 ^ 9) (omega arith)) (whole 1) under (omega arith)

  held_low : whole (R + x) ≼ Y
  held_low = omega (arith, near.stock_below)

  held_positive : whole 0 ≼ Y
  held_positive = at_most_trans (whole 0) (whole (R + x)) Y (omega arith) held_low

  held_high : Y ≼ whole (R + x) ⊕ e
  held_high = omega (arith, near.short_at_most)

  never_above : whole (left_of (R + x) D) ≼ X'
  unfolding left_of
  never_above =
      let D' = over D (10 ^ 9) (omega arith) in
      at_most_trans (whole ((R + x) * D / 10 ^ 9)) (whole (R + x) ⊗ D') X' (omega arith)
      (at_most_trans (whole (R + x) ⊗ D') (Y ⊗ D') X' (times_right (whole (R + x)) Y D' (omega arith) held_low)
      (at_most_trans (Y ⊗ D') (Y ⊗ d) X' (times_left D' d Y held_positive least) (omega (arith, next))))

  short_by_less : X' ≺ whole (left_of (R + x) D) ⊕ whole (suc n) ⊕ over (suc n * (T + x)) (10 ^ 9) (omega arith)
  unfolding left_of
  short_by_less =
      let D' = over (D + 1) (10 ^ 9) (omega arith) in
      let H = whole (R + x) in
      let F = (R + x) * D / 10 ^ 9 in
      let floor : (R + x) * D < 10 ^ 9 * (F + 1) = omega arith in
      let end = whole F ⊕ whole (suc n) ⊕ over (suc n * (T + x)) (10 ^ 9) (omega arith) in
      at_most_below X' (Y ⊗ d) end (omega (arith, next))
      (at_most_below (Y ⊗ d) ((H ⊕ e) ⊗ d) end (times_right Y (H ⊕ e) d not_negative held_high)
      (at_most_below ((H ⊕ e) ⊗ d) (H ⊗ d ⊕ e ⊗ d) end (omega (arith, spread H e d))
      (at_most_below (H ⊗ d ⊕ e ⊗ d) (H ⊗ D' ⊕ e ⊗ whole 1) end
      (add_at_most (H ⊗ d) (H ⊗ D') (e ⊗ d) (e ⊗ whole 1) (times_left d D' H (omega arith) under) (times_left d (whole 1) e (omega arith) at_most_1))
      (omega (arith, floor, near.stock_most)))))

  most_next : X' ≼ whole (T + x)
  most_next =
      at_most_trans X' (Y ⊗ d) (whole (T + x)) (omega (arith, next))
      (at_most_trans (Y ⊗ d) (Y ⊗ whole 1) (whole (T + x)) (times_left d (whole 1) Y held_positive at_most_1) (omega (arith, near.exact_most)))

  pub one_on : CloseTo X' (suc n) (T + x) (left_of (R + x) D) × NearExact X' (suc n) (T + x) (left_of (R + x) D)
  one_on = (
    record { never_above = omega (arith, never_above); short_by_less = omega (arith, short_by_less) },
    record { stock_below = never_above; short_at_most = omega (arith, short_by_less); exact_most = most_next; stock_most = omega (arith, near.stock_most, left_most (R + x) D small) },
  )
