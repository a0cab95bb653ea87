-- The promises of request j, proved.
use mathlib.Core.Path.{◌≡◌, refl, sym, ap, ◌∙◌}
use mathlib.Core.Bool.{Bool, true, false}
use mathlib.Core.List.{List, [], ◌∷◌}
use Prim.Native.Nat.{ℕ, zero, suc, ◌+◌, ◌*◌, ◌≤◌, ◌<◌}
use native.Mathlib.Decide.{ℕ_discrete}
use native.Mathlib.Nat.{zero-add}
use native.Mathlib.Omega.{arith}
use borrow.Author.Tests.{eq-eqb, le-ltb}
use lib.ListN.{length, get_or, replicate}
use Rattle.numbers.specs.Eight.{eight, one}
use Rattle.numbers.specs.Lists.{Each}
use Rattle.numbers.proofs.Eight.{eight_at, sum_same}
use Rattle.numbers.proofs.Lists.{each_at, each_both}
use Rattle.record.specs.Fields.{record_bytes, factors_of}
use Rattle.figure.specs.Figure.{figure_of}
use Rattle.ledger.specs.Step.{fresh, stock_at}
use Rattle.run.specs.History.{records_of, whole_run}
use Rattle.run.proofs.History.{no_records, stopped, run_ends}
use Rattle.by_type.specs.Alone.{HasPlaces}
use Rattle.by_type.proofs.Alone.{release_in, figure_in, alone_is_ledgers}
use Rattle.ledger.proofs.Accepted.{fresh_stock}
use Rattle.by_type.specs.Columns.{column_entry, column_after, columns_after, any_short, columns_refusal, columns_of, filled_of}
use Rattle.by_type.specs.Columns.{Filled}
use Rattle.by_type.proofs.Ledgers.{column_of_type, have_places, refused_first, refused_short, filled_well}
use Rattle.promise_columns.specs.Sheets.{Lent, Sheets, sheets, nothing_filled, history, end_ledger, Long}
use Rattle.promise_columns.specs.Promise.{ColumnsPromise}
use Rattle.promise_columns.proofs.Histories.{none_then, none_if, accepted_all, ledger_end, run_most_17, FromReleases, history_added}
use Rattle.promise_columns.proofs.Places.{each_place, entries_there, past_there, length_there, column_there}

-- The test of the lengths: a short column is one that has fewer places.
none_short : (n : ℕ) (columns : List (List ℕ)) → ((c : ℕ) → c < length columns → n ≤ length (get_or columns c [])) → any_short n columns ≡ false
none_short n [] h = refl
none_short n (column ∷ rest) h = simp (le-ltb (length column) n (h zero (omega arith))) (none_short n rest (λ c near. h (suc c) (omega arith)))

-- The three ways that a call can go.
data Ways (s : Lent) : Type 0 where
  by_run : ((whole_run s.file).refusal ≡ 0 → ⊥) → sheets s ≡ nothing_filled (whole_run s.file).refusal s → Ways s
  by_length : (whole_run s.file).refusal ≡ 0 → (Long s → ⊥) → sheets s ≡ nothing_filled 26 s → Ways s
  well : (whole_run s.file).refusal ≡ 0 → Long s → (sheets s).refusal ≡ 0 → Ways s

module _ (s : Lent) where
  abbrev run_refusal : ℕ
  run_refusal = (whole_run s.file).refusal

  -- what is left, from the laws of each way out
  left_as : {q : ℕ} → (record { refusal = q; stocks = replicate 8 0 } ≡ filled_of s.file s.columns) × (s.columns ≡ columns_of s.file s.columns) → sheets s ≡ nothing_filled q s
  left_as p = rw (← p.0, ← p.1)

  long_is : run_refusal ≡ 0 → any_short (length (whole_run s.file).accepted) s.columns ≡ false → Long s
  long_is z e c near =
      rw (← accepted_all s.file z)
      (each_at (HasPlaces (length (whole_run s.file).accepted)) 0 s.columns [] (have_places (length (whole_run s.file).accepted) 0 s.columns e) c (omega (arith, s.nine_lent)))

  short_is : run_refusal ≡ 0 → any_short (length (whole_run s.file).accepted) s.columns ≡ true → Long s → ⊥
  short_is z e long =
      let not : any_short (length (whole_run s.file).accepted) s.columns ≡ false
      = rw (accepted_all s.file z) (none_short (length (history s.file)) s.columns (λ c near. long c (omega (arith, s.nine_lent)))) in
      let clash : ◌≡◌ {A = ℕ} 0 1 = ap one (sym not ∙ e) in
      absurd (omega (arith, clash))

  ways : Ways s
  ways =
      elim (ℕ_discrete run_refusal 0) [
        | yes z ↦ by_test z (any_short (length (whole_run s.file).accepted) s.columns) refl
        | no z ↦ by_run z (left_as (refused_first s.file s.columns refl z))
      ]
    where
      by_test : run_refusal ≡ 0 → (short : Bool) → any_short (length (whole_run s.file).accepted) s.columns ≡ short → Ways s
      by_test z true e = by_length z (short_is z e) (left_as (refused_short s.file s.columns z e))
      by_test z false e = well z (long_is z e) (sym (ap (λ (f : Filled). f.refusal) (filled_well s.file s.columns z e refl refl).0))

  -- where it is filled, the run refused nothing and no column is short
  filled_by : (sheets s).refusal ≡ 0 → (run_refusal ≡ 0) × Long s
  filled_by r =
      elim ways [
        | by_run z e ↦ absurd (z (sym (ap (λ (x : Sheets). x.refusal) e) ∙ r))
        | by_length z short e ↦ absurd (omega (arith, ap (λ (x : Sheets). x.refusal) e, r))
        | well z long q ↦ (z, long)
      ]

-- A file of no bytes has no records, so nothing is written and nothing is left.
none_written : (c : ℕ) (columns : List (List ℕ)) → columns ≡ columns_after c [] columns
unfolding column_after
none_written c [] = refl
none_written c (column ∷ rest) = ap (λ (xs : List (List ℕ)). column ∷ xs) (none_written (c + 1) rest)

-- nothing is left of a fresh ledger
no_stocks : replicate 8 0 ≡ eight (stock_at fresh)
unfolding fresh
no_stocks = refl

empty_run : (file : List ℕ) → file ≡ [] → whole_run file ≡ stopped fresh 0
unfolding whole_run
empty_run file e = rw (e, no_records [] refl) (run_ends fresh 0)

-- Where the call is accepted, each column is that of the history.
module _ (s : Lent) (r : (sheets s).refusal ≡ 0) where
  none : (whole_run s.file).refusal ≡ 0
  none = (filled_by s r).0

  columns_are : (sheets s).columns ≡ columns_after 0 (history s.file) s.columns
  unfolding columns_of filled_of
  columns_are = simp (eq-eqb (columns_refusal s.file s.columns) 0 r) (rw (accepted_all s.file none))

  stocks_are : (sheets s).stocks ≡ eight (stock_at (end_ledger s.file))
  unfolding filled_of
  stocks_are = simp (eq-eqb (columns_refusal s.file s.columns) 0 r) (rw (ledger_end s.file none))

  abbrev column : ℕ → List ℕ
  column c = get_or (sheets s).columns c []

  column_is : (c : ℕ) → c < 9 → column c ≡ column_after c (history s.file) (get_or s.columns c [])
  column_is c near =
      ap (λ (xs : List (List ℕ)). get_or xs c []) columns_are
      ∙ rw (zero-add c) at (column_there 0 (history s.file) s.columns c (omega (arith, s.nine_lent)))

  entries_are : (c : ℕ) → c < 9 → Each (λ i turn. get_or (column c) i 0 ≡ column_entry c turn) 0 (history s.file)
  entries_are c near = rw (column_is c near) (entries_there c (history s.file) (get_or s.columns c []))

  releases_are : (t : ℕ) → t < 8 → Each (λ i turn. get_or (column t) i 0 ≡ release_in t turn) 0 (history s.file)
  releases_are t place = rw (column_of_type t place) at (entries_are t (omega arith))

  figures_are : Each (λ i turn. get_or (column 8) i 0 ≡ figure_in turn) 0 (history s.file)
  unfolding column_entry
  figures_are = entries_are 8 (omega arith)

pub columns_promise : ColumnsPromise
unfolding whole_run
columns_promise =
    record {
      same_as_ledger = λ s r.
          let turns = history s.file in
          record {
            releases = releases_are s r;
            figures = figures_are s r;
            -- the figure is the chain from the answer's releases, and these are what the eight columns have
            across = each_both (λ i turn. (get_or (column s r 8) i 0 ≡ figure_in turn) × FromReleases i turn) (λ i turn. (t : ℕ) → t < 8 → get_or (column s r t) i 0 ≡ release_in t turn) _
                (λ i turn p q. p.0 ∙ p.1 ∙ ap (figure_of (factors_of turn.bytes)) (sum_same (λ t. release_in t turn) (λ t. get_or (column s r t) i 0) 8 (λ t h. sym (q t h))))
                0 turns
                (each_both _ FromReleases _ (λ i turn p q. (p, q)) 0 turns (figures_are s r) (history_added s.file (none_then s.file (none s r))))
                (each_place (λ t i turn. get_or (column s r t) i 0 ≡ release_in t turn) 0 turns (releases_are s r));
            past_stay = λ c near. rw (column_is s r c near) (past_there c turns (get_or s.columns c []));
            as_long = λ c near. rw (column_is s r c near) (length_there c turns (get_or s.columns c []) ((filled_by s r).1 c near));
            stocks = λ t place. rw (stocks_are s r) (eight_at (stock_at (end_ledger s.file)) t place);
            eight_stocks = rw (stocks_are s r);
          };
      type_alone = λ file some t place.
          let none = none_if file some in
          let alone = alone_is_ledgers t place fresh (records_of file) (record_bytes * length (records_of file)) none in
          (rw (fresh_stock t place, accepted_all file none) at alone.releases, rw (fresh_stock t place, ledger_end file none) at alone.stock);
      filled_where = λ s.
          elim (ways s) [
            | by_run z e ↦ (λ r. absurd (z (filled_by s r).0), λ p. absurd (z (none_if s.file p.0)))
            | by_length z short e ↦ (λ r. absurd (short (filled_by s r).1), λ p. absurd (short p.1))
            | well z long r ↦ (λ q. (none_then s.file z, long), λ p. r)
          ];
      refused_as_run = λ s some.
          elim (ways s) [
            | by_run z e ↦ (z, e)
            | by_length z short e ↦ absurd (some (none_then s.file z))
            | well z long r ↦ absurd (some (none_then s.file z))
          ];
      refused_26 = λ s.
          elim (ways s) [
            | by_run z e ↦ (
              λ q. absurd (let same = ap (λ (x : Sheets). x.refusal) (sym e ∙ q) in omega (arith, same, run_most_17 s.file)),
              λ p. absurd (z (none_if s.file p.0)),
            )
            | by_length z short e ↦ (λ q. (none_then s.file z, short), λ p. e)
            | well z long r ↦ (λ q. absurd (omega (arith, r, ap (λ (x : Sheets). x.refusal) q)), λ p. absurd (p.1 long))
          ];
      empty_file = λ s e.
          let run = empty_run s.file e in
          left_as s
          (filled_well s.file s.columns (rw run) (rw run (none_short 0 s.columns (λ c near. omega arith)))
          (rw run no_stocks) (rw run (none_written 0 s.columns)));
    }
