-- What the decay table promises, once over the kind.
use mathlib.Core.Path.{◌≡◌, refl}
use mathlib.Core.Bool.{Bool, true, false, cond}
use Prim.Native.Nat.{ℕ, ◌+◌, ◌^◌, ◌≤◌, ◌<◌}
use native.Mathlib.Omega.{arith}
use lib.Dec.{eqb}
use Rattle.numbers.specs.Fraction.{Fraction, over, whole, ◌⊗◌, ◌≼◌}
use Rattle.numbers.proofs.Fraction.{at_most_trans, at_most_below, times_at_most}
use Rattle.decay.specs.Series.{E, Encloses, StandsFor, exponent, entry_of}
use Rattle.waste.specs.Kind.{is_kind}
use Rattle.decay.proofs.Rule.{one_entry, listed}
use Rattle.decay.proofs.Series.{enclosed}

-- what holds of every rate over at least 1000 parts holds of the exponent of either kind
for_kind : (P : Fraction → Type 0) (kind rate : ℕ) → ((d : ℕ) (h : 0 < d) → 1000 ≤ d → P (over rate d h)) → P (exponent kind rate)
for_kind P kind rate f = either (eqb kind 1)
  where
    either : (b : Bool) → P (cond b (over rate 1000 (omega arith)) (over rate 12000 (omega arith)))
    either true = f 1000 (omega arith) (omega arith)
    either false = f 12000 (omega arith) (omega arith)

-- Every listed entry meets the rule ...
pub entry_meets_rule : (kind rate : ℕ) → is_kind kind ≡ true → 1 ≤ rate → rate ≤ 400 → Encloses (exponent kind rate) (entry_of kind rate)
entry_meets_rule kind rate k low high = (listed kind rate k low high).rule

-- ... and the rule has no other answer.
pub rule_has_one_answer : (kind rate D D' : ℕ) → Encloses (exponent kind rate) D → Encloses (exponent kind rate) D' → D ≡ D'
rule_has_one_answer kind rate D D' =
    for_kind (λ x. Encloses x D → Encloses x D' → D ≡ D') kind rate (λ d h l. one_entry rate d h D D')

-- An entry stands for a fraction: that of its billionths.
pub stands_for_some : (D : ℕ) → StandsFor D (over D (10 ^ 9) (omega arith))
stands_for_some D = record { from = omega arith; up_to = omega arith }

-- Every longer sum of the series lies between the two sums of the rule, however long it is.
pub sums_enclosed : (kind rate m : ℕ) → rate ≤ 400 → 15 ≤ m
    → (E (exponent kind rate) 15 ≼ E (exponent kind rate) m) × (E (exponent kind rate) m ≼ E (exponent kind rate) 14)
sums_enclosed kind rate m high long =
    for_kind (λ x. (E x 15 ≼ E x m) × (E x m ≼ E x 14)) kind rate
    (λ d h l. let b = enclosed rate d h (omega arith) 14 m refl (omega arith) in (b.low, b.high))

-- So the entry stands for every longer sum: it is the exponential rounded down, wherever the series is cut.
pub stands_for_sums : (kind rate m : ℕ) → is_kind kind ≡ true → 1 ≤ rate → rate ≤ 400 → 15 ≤ m
    → StandsFor (entry_of kind rate) (E (exponent kind rate) m)
stands_for_sums kind rate m k low high long =
    let x = exponent kind rate in
    let D = entry_of kind rate in
    let rule = entry_meets_rule kind rate k low high in
    let between = sums_enclosed kind rate m high long in
    record {
      from = at_most_trans (whole D) (whole (10 ^ 9) ⊗ E x 15) (whole (10 ^ 9) ⊗ E x m)
          rule.low (times_at_most (E x 15) (E x m) (10 ^ 9) between.0);
      up_to = at_most_below (whole (10 ^ 9) ⊗ E x m) (whole (10 ^ 9) ⊗ E x 14) (whole (D + 1))
          (times_at_most (E x m) (E x 14) (10 ^ 9) between.1) rule.high;
    }
