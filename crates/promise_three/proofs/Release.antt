-- A release is the difference of two stocks, so it is off by at most what one of them is off by: the margin of its type.
use mathlib.Core.Path.{◌≡◌, refl, ap, ◌∙◌}
use mathlib.Core.Bool.{true, false}
use mathlib.Core.List.{List, [], ◌∷◌, ◌++◌}
use Prim.Native.Nat.{ℕ, suc, ◌+◌, ◌-◌, ◌*◌, ◌/◌, ◌^◌, ◌≤◌, ◌<◌}
use native.Mathlib.Nat.{mul-le-mul_right}
use native.Mathlib.Omega.{arith}
use native.Mathlib.Decide.{ℕ_discrete}
use borrow.Author.Tests.{eq-eqb, ne_eqb}
use lib.ListN.{length}
use Rattle.numbers.specs.Fraction.{Fraction, over, whole, ◌⊕◌, ◌⊖◌, ◌≼◌}
use Rattle.numbers.specs.Lists.{added}
use Rattle.numbers.proofs.Lists.{length_more}
use Rattle.waste.specs.Waste.{inert}
use Rattle.record.specs.Fields.{deposit_of}
use Rattle.record.proofs.Laws.{inert_brings_none}
use Rattle.figure.specs.Figure.{margin_of}
use Rattle.ledger.specs.Step.{brought_at, stock_at, release, after}
use Rattle.run.proofs.History.{accepted_turn}
use Rattle.ledger.proofs.Step.{brought_after, balanced}
use Rattle.promise_three.specs.Offering.{Offering, records_in}
use Rattle.promise_three.specs.Exact.{exact_stock, exact_release, deposit_in, exact_release_at}
use Rattle.promise_three.specs.DemandThree.{Conserved}
use Rattle.promise_three.proofs.OneByOne.{with_one, records_more}
use Rattle.promise_three.proofs.Stock.{NearExact}
use Rattle.promise_three.proofs.Stocks.{before, latest, NearAt, all_counted}

-- g is within m of G, to either side
pub record Beside (g : Fraction) (G m : ℕ) : Type 0 where
  pub above : whole G ≼ g ⊕ whole m
  pub below : g ≼ whole G ⊕ whole m

module _ (X X' : Fraction) (n T R x R' G : ℕ) (near : NearExact X n T R) (near' : NearExact X' (suc n) (T + x) R') (makes : G + R' ≡ R + x) where
  -- where both stocks are short of the exact ones by at most E / 10^9
  beside_by : (E m : ℕ) → X ≼ whole R ⊕ over E (10 ^ 9) (omega arith) → X' ≼ whole R' ⊕ over E (10 ^ 9) (omega arith)
      → E ≤ 10 ^ 9 * m → Beside (X ⊕ whole x ⊖ X') G m
  beside_by E m high high' room =
      let both = X.den * X'.den in
      let whole_part = ap (λ (y : ℕ). y * both) makes in
      let margin = mul-le-mul_right both room in
      record {
        above = omega (arith, whole_part, margin, mul-le-mul_right X'.den near.stock_below, mul-le-mul_right X.den high');
        below = omega (arith, whole_part, margin, mul-le-mul_right X.den near'.stock_below, mul-le-mul_right X'.den high);
      }

  -- which is 0 where nothing was ever brought
  beside : Beside (X ⊕ whole x ⊖ X') G (margin_of (suc n) (T + x))
  unfolding margin_of
  beside =
      elim (ℕ_discrete (T + x) 0) [
        | yes z ↦
            let no_t : T ≡ 0 = omega arith in
            simp (eq-eqb (T + x) 0 z)
            (beside_by 0 0 (omega (arith, near.exact_most, ap (λ (y : ℕ). y * X.den) no_t)) (omega (arith, near'.exact_most, ap (λ (y : ℕ). y * X'.den) z)) (omega arith))
        | no z ↦
            let grown : 10 ^ 9 * n + n * T ≤ 10 ^ 9 * suc n + suc n * (T + x) = omega arith in
            simp (ne_eqb (T + x) 0 z)
            (beside_by (10 ^ 9 * suc n + suc n * (T + x)) (suc n + 1 + suc n * (T + x) / 10 ^ 9)
            (omega (arith, near.short_at_most, mul-le-mul_right X.den grown)) near'.short_at_most (omega arith))
      ]

-- Inert waste brings no carbon, whatever the records.
none_added : (t : ℕ) → inert t ≡ true → (records : List (List ℕ)) → added (λ bytes. deposit_of bytes t) records ≡ 0
none_added t e [] = refl
none_added t e (bytes ∷ rest) = omega (arith, inert_brings_none bytes t e, none_added t e rest)

pub nothing_brought : (t : ℕ) (o : Offering) → inert t ≡ true → Conserved o t → brought_at o.ledger t ≡ 0
nothing_brought t o e c = c.deposited ∙ none_added t e (records_in o)

-- At each place, the release of one record more beside its exact release.
module _ (d : ℕ → Fraction) (o : Offering) (bytes : List ℕ) (t : ℕ) (place : t < 8) where
  abbrev count : ℕ
  count = suc (length o.accepted)

  abbrev records : List (List ℕ)
  records = records_in o ++ (bytes ∷ [])

  abbrev Here : Type 0
  Here = Beside (exact_release_at d records count t) (release o.ledger bytes t) (margin_of count (brought_at (after o.ledger bytes) t))

  pub beside_inert : inert t ≡ true → Conserved o t → Here
  unfolding exact_release_at margin_of
  beside_inert e c =
      let no_t = nothing_brought t o e c in
      let no-x = inert_brings_none bytes t e in
      let no_g : release o.ledger bytes t ≡ 0 = omega (arith, balanced o.ledger bytes t place, c.balance) in
      let no_t' : brought_at (after o.ledger bytes) t ≡ 0 = omega (arith, brought_after o.ledger bytes t place) in
      rw (e, no_g, no_t') (record { above = omega arith; below = omega arith })

  pub beside_decaying : inert t ≡ false → NearAt (d t) o t → NearAt (d t) (with_one o bytes) t → Here
  unfolding exact_release_at exact_release
  beside_decaying e near near' =
      let n = length o.accepted in
      let deposits = deposit_in records t in
      let now : deposits count ≡ deposit_of bytes t = rw (all_counted o) at (latest (records_in o) bytes t) in
      let b = beside (exact_stock (d t) deposits n) (exact_stock (d t) deposits count) n (brought_at o.ledger t) (stock_at o.ledger t)
      (deposits count) (stock_at (after o.ledger bytes) t) (release o.ledger bytes t)
      (rw (before (records_in o) bytes t (d t) n (rw (all_counted o) (omega arith))) near)
      (rw now (rw (records_more o bytes, length_more o.accepted (accepted_turn o.ledger bytes), brought_after o.ledger bytes t place) at near'))
      (rw now (balanced o.ledger bytes t place)) in
      let back : count - 1 ≡ n = omega arith in
      rw (e, back, brought_after o.ledger bytes t place, ← now)
      (record { above = omega (arith, b.above); below = omega (arith, b.below) })
