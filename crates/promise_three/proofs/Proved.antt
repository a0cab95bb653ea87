-- Demand 3, proved.
use mathlib.Core.Path.{◌≡◌, refl}
use mathlib.Core.Bool.{Bool, true, false, ◌&&◌, ◌||◌}
use Prim.Native.Nat.{ℕ, ◌+◌, ◌-◌, ◌≤◌, ◌<◌}
use native.Mathlib.Omega.{arith}
use borrow.Author.Tests.{eqb-true, leb-true}
use lib.Dec.{leb}
use Rattle.numbers.specs.Eight.{every_of}
use Rattle.numbers.specs.Fraction.{Fraction}
use Rattle.numbers.proofs.Eight.{both_true, every_at}
use Rattle.decay.proofs.Laws.{stands_for_sums}
use Rattle.waste.specs.Waste.{climates, is_climate, inert, rate_of}
use Rattle.carbon.specs.Carbon.{entry_at}
use Rattle.ledger.specs.Step.{brought_at, stock_at}
use Rattle.promise_three.specs.Offering.{Offering, offering, records_in}
use Rattle.promise_three.specs.Exact.{exact_stock_at}
use Rattle.promise_three.specs.DemandThree.{NoCarbon, Chosen, CloseTo, sums, DemandThree}
use Rattle.promise_three.specs.Promise.{ThreePromise}
use Rattle.promise_three.proofs.OneByOne.{OneByOne, one_by_one, n_counts, kind_and_climate, conserved, released_total}
use Rattle.promise_three.proofs.Stocks.{close}
use Rattle.promise_three.proofs.Release.{nothing_brought}
use Rattle.promise_three.proofs.Figures.{published}

-- Every rate of a type that decays is in the table, by one test over the types and climates.
rate? : (t climate : ℕ) → Bool
rate? t climate = leb 1 (rate_of (t + 1) climate) && leb (rate_of (t + 1) climate) 400

listed? : (t : ℕ) → Bool
listed? t = every_of (λ c. inert t || rate? t (c + 1)) climates

rate_listed : (t climate : ℕ) → t < 8 → inert t ≡ false → is_climate climate ≡ true
    → (1 ≤ rate_of (t + 1) climate) × (rate_of (t + 1) climate ≤ 400)
unfolding listed? rate? rate_of
rate_listed t climate place i c =
    let ends = both_true (leb 1 climate) (leb climate climates) c in
    let low = leb-true 1 climate ends.0 in
    let high = leb-true climate climates ends.1 in
    let back : climate - 1 + 1 ≡ climate = omega arith in
    let each = every_at (λ c. inert t || rate? t (c + 1)) climates (climate - 1) (omega arith) (every_at listed? 8 t place refl) in
    let rate : rate? t climate ≡ true = simp (i, back) at each in
    let both = both_true (leb 1 (rate_of (t + 1) climate)) (leb (rate_of (t + 1) climate) 400) rate in
    (leb-true 1 (rate_of (t + 1) climate) both.0, leb-true (rate_of (t + 1) climate) 400 both.1)

module _ (o : Offering) (r : OneByOne o) where
  sums_chosen : (m : ℕ) → 15 ≤ m → 1 ≤ o.ledger.n → Chosen o.ledger (sums o.ledger m)
  unfolding entry_at
  sums_chosen m long some t place i =
      let code = kind_and_climate o r (rw (n_counts o r) at some) in
      let rate = rate_listed t o.ledger.climate place i code.1 in
      stands_for_sums o.ledger.kind (rate_of (t + 1) o.ledger.climate) m code.0 rate.0 rate.1 long

  inert_waste : (t : ℕ) → inert t ≡ true → NoCarbon o t
  inert_waste t i =
      let place : t < 8 = omega (arith, eqb-true) in
      let c = conserved t place o r in
      let none = nothing_brought t o i c in
      record {
        t_none = none;
        r_none = omega (arith, c.balance);
        g_none = omega (arith, c.reported, c.balance);
      }

  stock_close : (d : ℕ → Fraction) → Chosen o.ledger d → 1 ≤ o.ledger.n → (t : ℕ) → t < 8
      → CloseTo (exact_stock_at d (records_in o) o.ledger.n t) o.ledger.n (brought_at o.ledger t) (stock_at o.ledger t)
  unfolding exact_stock_at
  stock_close d chosen some t place = by_test (inert t) refl
    where
      by_test : (b : Bool) → inert t ≡ b
          → CloseTo (exact_stock_at d (records_in o) o.ledger.n t) o.ledger.n (brought_at o.ledger t) (stock_at o.ledger t)
      by_test true i =
          let none = inert_waste t i in
          rw (i, none.t_none, none.r_none) (record { never_above = omega arith; short_by_less = omega arith })
      by_test false i = rw (i, n_counts o r) (close t (d t) place o r (rw (n_counts o r) at some) (chosen t place i))

  demand_three : DemandThree o
  demand_three =
      record {
        n_accepted = n_counts o r;
        conserved = λ t place. conserved t place o r;
        inert_waste = inert_waste;
        stock_close = stock_close;
        figures_within = λ d chosen. published o.ledger d chosen o r (λ _. (refl, refl));
        sums_chosen = λ m long. sums_chosen m (omega arith);
      }

pub three_promise : ThreePromise
three_promise =
    record {
      demand_three = λ offers. demand_three (offering offers) (one_by_one offers);
      any_fraction = λ D p q above.
          (λ s. (omega (arith, s.from), omega (arith, s.up_to)), λ h. record { from = omega (arith, h.0); up_to = omega (arith, h.1) });
      released_total = λ offers. released_total (offering offers) (one_by_one offers);
    }
