-- The ledger's stock beside the exact stock of the accepted records: what `Stock` says of one record holds of all, by induction.
use mathlib.Core.Path.{◌≡◌, refl, ap}
use mathlib.Core.List.{List, [], ◌∷◌, ◌++◌}
use Prim.Native.Nat.{ℕ, suc, ◌+◌, ◌-◌, ◌≤◌, ◌<◌}
use native.Mathlib.Omega.{arith}
use lib.ListN.{length, length-map, get_or-append}
use lib.Seq.{get_or_at}
use Rattle.numbers.specs.Fraction.{Fraction, whole, ◌⊕◌, ◌⊗◌, ◌≈◌, total}
use Rattle.numbers.proofs.Eight.{eight_at}
use Rattle.numbers.proofs.Fraction.{total_same}
use Rattle.numbers.proofs.Lists.{length_more}
use Rattle.decay.specs.Series.{StandsFor}
use Rattle.record.specs.Fields.{kind_of, climate_of, deposit_of}
use Rattle.carbon.specs.Carbon.{entry_at}
use Rattle.carbon.proofs.Laws.{entry_small}
use Rattle.ledger.specs.Step.{fresh, brought_at, stock_at, after}
use Rattle.ledger.specs.Refusal.{refusal_of}
use Rattle.ledger.specs.declared.book.Ledger.{Ledger}
use Rattle.ledger.proofs.Accepted as step
use Rattle.run.proofs.History.{accepted_turn}
use Rattle.ledger.proofs.Step.{brought_after, stock_after}
use Rattle.promise_three.specs.Offering.{Offering, records_in}
use Rattle.promise_three.specs.Exact.{record_at, remains, exact_stock, deposit_in}
use Rattle.promise_three.specs.DemandThree.{CloseTo}
use Rattle.promise_three.proofs.OneByOne.{with_one, OneByOne, none_yet, one_more, records_more, n_counts}
use Rattle.promise_three.proofs.Stock.{recurs, NearExact, one_on}

-- one record more leaves those before it as they are, and stands behind them
module _ (records : List (List ℕ)) (bytes : List ℕ) where
  abbrev all : List (List ℕ)
  all = records ++ (bytes ∷ [])

  pub record_earlier : (i : ℕ) → 1 ≤ i → i ≤ length records → record_at all i ≡ record_at records i
  record_earlier i low high = get_or-append records (bytes ∷ []) [] (i - 1) (omega arith)

  pub record_latest : record_at all (suc (length records)) ≡ bytes
  record_latest =
      let e : suc (length records) - 1 ≡ length records = omega arith in
      rw (e, get_or_at records bytes [] [] (length records) refl)

-- and so do their deposits
module _ (records : List (List ℕ)) (bytes : List ℕ) (t : ℕ) where
  pub earlier : (i : ℕ) → 1 ≤ i → i ≤ length records → deposit_in (all records bytes) t i ≡ deposit_in records t i
  unfolding deposit_in
  earlier i low high = ap (λ b. deposit_of b t) (record_earlier records bytes i low high)

  pub latest : deposit_in (all records bytes) t (suc (length records)) ≡ deposit_of bytes t
  unfolding deposit_in
  latest = ap (λ b. deposit_of b t) (record_latest records bytes)

  pub before : (d : Fraction) (n : ℕ) → n ≤ length records → exact_stock d (deposit_in (all records bytes) t) n ≡ exact_stock d (deposit_in records t) n
  unfolding exact_stock remains
  before d n h =
      total_same (λ k. remains d (deposit_in (all records bytes) t) n (k + 1)) (λ k. remains d (deposit_in records t) n (k + 1)) n
      (λ k l. rw (earlier (k + 1) (omega arith) (omega arith)))

pub all_counted : (o : Offering) → length (records_in o) ≡ length o.accepted
all_counted o = length-map o.accepted (λ turn. turn.bytes)

-- the exact stock of one type after the accepted records
abbrev pub exact_in : Fraction → Offering → ℕ → Fraction
exact_in d o t = exact_stock d (deposit_in (records_in o) t) (length o.accepted)

abbrev pub NearAt : Fraction → Offering → ℕ → Type 0
NearAt d o t = NearExact (exact_in d o t) (length o.accepted) (brought_at o.ledger t) (stock_at o.ledger t)

abbrev pub CloseAt : Fraction → Offering → ℕ → Type 0
CloseAt d o t = CloseTo (exact_in d o t) (length o.accepted) (brought_at o.ledger t) (stock_at o.ledger t)

module _ (d : Fraction) (o : Offering) (bytes : List ℕ) (t : ℕ) (place : t < 8) (stands : StandsFor (entry_at (kind_of bytes) (climate_of bytes) t) d) (near : NearAt d o t) where
  abbrev grown : List (List ℕ)
  grown = records_in o ++ (bytes ∷ [])

  on : exact_stock d (deposit_in grown t) (suc (length o.accepted)) ≈ (exact_in d o t ⊕ whole (deposit_of bytes t)) ⊗ d
  on =
      let last : deposit_in grown t (suc (length o.accepted)) ≡ deposit_of bytes t = rw (all_counted o) at (latest (records_in o) bytes t) in
      rw (before (records_in o) bytes t d (length o.accepted) (rw (all_counted o) (omega arith)), last) at (recurs d (deposit_in grown t) (length o.accepted))

  pub both_next : CloseAt d (with_one o bytes) t × NearAt d (with_one o bytes) t
  both_next =
      rw (records_more o bytes, length_more o.accepted (accepted_turn o.ledger bytes), brought_after o.ledger bytes t place, stock_after o.ledger bytes t place)
      (one_on (exact_in d o t) (exact_stock d (deposit_in grown t) (suc (length o.accepted))) d (length o.accepted)
      (brought_at o.ledger t) (stock_at o.ledger t) (deposit_of bytes t) (entry_at (kind_of bytes) (climate_of bytes) t)
      (entry_small (kind_of bytes) (climate_of bytes) t) stands on near)

-- once a record is accepted, kind and climate are those of the ledger L
abbrev pub Alike : Ledger → Offering → Type 0
Alike L o = 0 < length o.accepted → (L.kind ≡ o.ledger.kind) × (L.climate ≡ o.ledger.climate)

pub alike_before : (o : Offering) (bytes : List ℕ) (room : ℕ) → OneByOne o → refusal_of o.ledger bytes room ≡ 0
    → Alike (after o.ledger bytes) o
unfolding after
alike_before o bytes room r e h =
    let some : 0 < o.ledger.n = rw (n_counts o r) h in
    (step.accepted_meets o.ledger bytes room e).same (λ z. omega arith)

pub near : (L : Ledger) (t : ℕ) (d : Fraction) → t < 8 → StandsFor (entry_at L.kind L.climate t) d → (o : Offering)
    → OneByOne o → Alike L o → NearAt d o t
unfolding fresh exact_stock total after
near L t d place stands _ none_yet alike =
    rw (eight_at (λ _. 0) t place) (record { stock_below = omega arith; short_at_most = omega arith; exact_most = omega arith; stock_most = omega arith })
near L t d place stands _ (one_more o bytes room r e) alike =
    let same = alike (rw (length_more o.accepted (accepted_turn o.ledger bytes)) (omega arith)) in
    let here : StandsFor (entry_at (kind_of bytes) (climate_of bytes) t) d = rw (same.0, same.1) at stands in
    (both_next d o bytes t place here (near (after o.ledger bytes) t d place here o r (alike_before o bytes room r e))).1

pub close : (t : ℕ) (d : Fraction) → t < 8 → (o : Offering) → OneByOne o → 1 ≤ length o.accepted
    → StandsFor (entry_at o.ledger.kind o.ledger.climate t) d → CloseAt d o t
unfolding after
close t d place _ none_yet h stands = absurd (omega arith)
close t d place _ (one_more o bytes room r e) h stands =
    (both_next d o bytes t place stands (near (after o.ledger bytes) t d place stands o r (alike_before o bytes room r e))).0
