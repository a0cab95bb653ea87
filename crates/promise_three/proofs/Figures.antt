-- Every published figure, by induction on the accepted records: later ones change nothing that the exact figure of an earlier one is
-- made of, and the newest is the chain on the eight releases beside their exact ones.
use mathlib.Core.Path.{◌≡◌, refl}
use mathlib.Core.Bool.{Bool, true, false}
use mathlib.Core.List.{List, [], ◌∷◌, ◌++◌}
use Prim.Native.Nat.{ℕ, suc, ◌+◌, ◌-◌, ◌≤◌, ◌<◌}
use native.Mathlib.Numerals.{add-one}
use native.Mathlib.Omega.{arith}
use lib.ListN.{length}
use lib.Seq.{get_or_at}
use Rattle.numbers.specs.Fraction.{Fraction, total, WithinBound}
use Rattle.numbers.specs.Lists.{Each}
use Rattle.numbers.proofs.Fraction.{total_same}
use Rattle.numbers.proofs.Lists.{length_more, each_map, each_more}
use Rattle.waste.specs.Waste.{inert}
use Rattle.record.specs.Fields.{factors_of}
use Rattle.record.proofs.Laws.{ranged}
use Rattle.figure.specs.Figure.{margin_of, b_of}
use Rattle.ledger.specs.Step.{brought_at, release, x0_of, after}
use Rattle.ledger.specs.Refusal.{refusal_of}
use Rattle.ledger.specs.Take.{accepted_of}
use Rattle.run.specs.History.{Turn}
use Rattle.ledger.specs.declared.book.Ledger.{Ledger}
use Rattle.ledger.specs.Answer.{Answer}
use Rattle.ledger.proofs.Accepted as step
use Rattle.run.proofs.History.{accepted_turn}
use Rattle.promise_three.specs.Offering.{Offering, records_in}
use Rattle.promise_three.specs.Exact.{exact_release, exact_release_at, exact_figure}
use Rattle.promise_three.specs.DemandThree.{Chosen}
use Rattle.promise_three.proofs.OneByOne.{OneByOne, none_yet, one_more, records_more, n_counts, conserved}
use Rattle.promise_three.proofs.Stocks.{record_earlier, earlier, before, all_counted, Alike, alike_before, near, both_next}
use Rattle.promise_three.proofs.Release.{Beside, beside_inert, beside_decaying}
use Rattle.promise_three.proofs.Figure.{beside_sums, chain}

-- an earlier record's exact figure
module _ (d : ℕ → Fraction) (records : List (List ℕ)) (bytes : List ℕ) (n : ℕ) (low : 1 ≤ n) (high : n ≤ length records) where
  pub release_kept : (t : ℕ) → exact_release_at d (records ++ (bytes ∷ [])) n t ≡ exact_release_at d records n t
  unfolding exact_release_at exact_release
  release_kept t =
      rw (
        before records bytes t (d t) (n - 1) (omega arith),
        before records bytes t (d t) n high,
        earlier records bytes t n low high,
      )

  figure_kept : exact_figure d (records ++ (bytes ∷ [])) n ≡ exact_figure d records n
  unfolding exact_figure
  figure_kept =
      rw (
        record_earlier records bytes n low high,
        total_same (exact_release_at d (records ++ (bytes ∷ [])) n) (exact_release_at d records n) 8 (λ t _. release_kept t),
      )

-- the newest record's figure
module _ (d : ℕ → Fraction) (o : Offering) (bytes : List ℕ) (room : ℕ) (r : OneByOne o) (e : refusal_of o.ledger bytes room ≡ 0) (chosen : Chosen (after o.ledger bytes) d) where
  abbrev count : ℕ
  count = suc (length o.accepted)

  abbrev records : List (List ℕ)
  records = records_in o ++ (bytes ∷ [])

  abbrev margin : ℕ → ℕ
  margin t = margin_of count (brought_at (after o.ledger bytes) t)

  beside_exact : (t : ℕ) → t < 8 → Beside (exact_release_at d records count t) (release o.ledger bytes t) (margin t)
  unfolding after
  beside_exact t place = by_test (inert t) refl
    where
      by_test : (b : Bool) → inert t ≡ b → Beside (exact_release_at d records count t) (release o.ledger bytes t) (margin t)
      by_test true i = beside_inert d o bytes t place i (conserved t place o r)
      by_test false i =
          let old = near (after o.ledger bytes) t (d t) place (chosen t place i) o r (alike_before o bytes room r e) in
          beside_decaying d o bytes t place i old (both_next (d t) o bytes t place (chosen t place i) old).1

  -- its releases together are beside their exact sum
  pub newest_beside : Beside (total (exact_release_at d records count) 8) (x0_of o.ledger bytes) (b_of count (brought_at (after o.ledger bytes)))
  unfolding x0_of b_of
  newest_beside = beside_sums (exact_release_at d records count) (release o.ledger bytes) margin 8 beside_exact

  abbrev answer : Answer
  answer = accepted_of o.ledger bytes

  newest_within : WithinBound (exact_figure d records count) answer.figure answer.bound
  unfolding exact_figure accepted_of after
  newest_within =
      let back : count - 1 ≡ length (records_in o) = rw (all_counted o) (omega arith) in
      let n : o.ledger.n + 1 ≡ count = rw (n_counts o r, add-one) in
      rw (back, get_or_at (records_in o) bytes [] [] (length (records_in o)) refl, n)
      (chain (factors_of bytes) (ranged (factors_of bytes) (step.accepted_meets o.ledger bytes room e).ranges)
      (total (exact_release_at d records count) 8) (x0_of o.ledger bytes) (b_of count (brought_at (after o.ledger bytes))) newest_beside)

-- the answer to record i
abbrev pub Published : (d : ℕ → Fraction) → List (List ℕ) → (i : ℕ) → Turn → Type 0
Published d records i turn = WithinBound (exact_figure d records i) turn.answer.figure turn.answer.bound

pub published : (L : Ledger) (d : ℕ → Fraction) → Chosen L d → (o : Offering) → OneByOne o → Alike L o
    → Each (Published d (records_in o)) 1 o.accepted
unfolding after
published L d chosen _ none_yet alike = tt
published L d chosen _ (one_more o bytes room r e) alike =
    let turn = accepted_turn o.ledger bytes in
    let same = alike (rw (length_more o.accepted turn) (omega arith)) in
    let here : Chosen (after o.ledger bytes) d = rw (same.0, same.1) at chosen in
    let records = records_in o ++ (bytes ∷ []) in
    let last : 1 + length o.accepted ≡ suc (length o.accepted) = omega arith in
    rw (records_more o bytes)
    (each_more (Published d records) 1 o.accepted turn
    (each_map (Published d (records_in o)) (Published d records) 1 o.accepted
    (λ i turn low high p. rw (figure_kept d (records_in o) bytes i low (rw (all_counted o) (omega arith))) p)
    (published (after o.ledger bytes) d here o r (alike_before o bytes room r e)))
    (rw last (newest_within d o bytes room r e here)))
