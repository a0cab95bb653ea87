-- Demand 3, sentence by sentence. Place t has type t + 1; T is `brought_at`, R is `stock_at`, released so far is `released_at`, all in
-- milligrams.
use Rattle.std.specs.Prelude.{◌≡◌, true, false, ℕ, ◌+◌, ◌*◌, ◌^◌, ◌≤◌, ◌<◌, length}
use Rattle.std.proofs.Common.{arith}
use Rattle.numbers.specs.Fraction.{Fraction, over, whole, ◌⊕◌, ◌≼◌, ◌≺◌, WithinBound}
use Rattle.numbers.specs.Lists.{added, Each}
use Rattle.decay.specs.Series.{E, StandsFor, exponent}
use Rattle.waste.specs.Waste.{inert, rate_of}
use Rattle.record.specs.Fields.{deposit_of}
use Rattle.carbon.specs.Carbon.{entry_at}
use Rattle.ledger.specs.Step.{brought_at, stock_at, released_at}
use Rattle.ledger.specs.declared.book.Ledger.{Ledger}
use Rattle.promise_three.specs.Offering.{Offering, records_in, released_by}
use Rattle.promise_three.specs.Exact.{exact_stock_at, exact_figure}

-- At place t, what was released, which is the releases answered, and what is left make up what was brought in, which is the deposits.
pub record Conserved (o : Offering) (t : ℕ) : Type 0 where
  -- Document 02, request b: 'The ledger shall hold it per type, [..] equal to the sum of the releases answered since the fresh ledger.'
  pub reported : released_at o.ledger t ≡ released_by o.accepted t
  pub balance : released_at o.ledger t + stock_at o.ledger t ≡ brought_at o.ledger t
  pub deposited : brought_at o.ledger t ≡ added (λ bytes. deposit_of bytes t) (records_in o)

-- At place t, T, R and all G are 0.
pub record NoCarbon (o : Offering) (t : ℕ) : Type 0 where
  pub t_none : brought_at o.ledger t ≡ 0
  pub r_none : stock_at o.ledger t ≡ 0
  pub g_none : released_by o.accepted t ≡ 0

-- At each place t whose type decays, d t is a fraction from the table entry up to but not including the next billionth.
abbrev pub Chosen : Ledger → (d : ℕ → Fraction) → Type 0
Chosen l d = (t : ℕ) → t < 8 → inert t ≡ false → StandsFor (entry_at l.kind l.climate t) (d t)

-- R is at most the exact stock, and short of it by less than n + n × T / 10^9.
pub record CloseTo (exact : Fraction) (n T R : ℕ) : Type 0 where
  pub never_above : whole R ≼ exact
  pub short_by_less : exact ≺ whole R ⊕ whole n ⊕ over (n * T) (10 ^ 9) (omega arith)

-- The sums E(m) of the series, for the rate of each type.
abbrev pub sums : Ledger → (m t : ℕ) → Fraction
sums l m t = E (exponent l.kind (rate_of (t + 1) l.climate)) m

-- What demand 3 says of an offering, with the n, T and R of its ledger.
pub record DemandThree (o : Offering) : Type 0 where
  pub n_accepted : o.ledger.n ≡ length o.accepted
  -- 'For each waste type, the carbon reported released by the accepted records plus the carbon left equals the carbon those
  -- records brought in.'
  pub conserved : (t : ℕ) → t < 8 → Conserved o t
  -- 'Type 6 has no rate; its T, R and G are always 0.'
  pub inert_waste : (t : ℕ) → inert t ≡ true → NoCarbon o t
  -- 'Take, for each type that decays, any fraction from its table entry up to but not including the next billionth. [..] After n
  -- accepted records (n at least 1) bringing T milligrams, the carbon left is never above the exact stock and short of it by less
  -- than n + nT/1,000,000,000 milligrams'
  pub stock_close : (d : ℕ → Fraction) → Chosen o.ledger d → 1 ≤ o.ledger.n → (t : ℕ) → t < 8
      → CloseTo (exact_stock_at d (records_in o) o.ledger.n t) o.ledger.n (brought_at o.ledger t) (stock_at o.ledger t)
  -- '; each published figure differs from the exact formula by less than its printed bound.'
  pub figures_within : (d : ℕ → Fraction) → Chosen o.ledger d
      → Each (λ i turn. WithinBound (exact_figure d (records_in o) i) turn.answer.figure turn.answer.bound) 1 o.accepted
  -- 'The two sums enclose the true exponential': every longer sum is such a fraction too.
  pub sums_chosen : (m : ℕ) → 15 ≤ m → 1 ≤ o.ledger.n → Chosen o.ledger (sums o.ledger m)
