-- An accepted file's columns, once they are filled, are those of the first engine's history.
use mathlib.Core.Path.{◌≡◌, refl, sym, ap, ◌∙◌}
use mathlib.Core.Bool.{true, false, cond}
use mathlib.Core.List.{List, [], ◌∷◌, ◌++◌}
use Prim.Native.Nat.{ℕ, ◌+◌, ◌*◌, ◌≤◌, ◌<◌}
use native.Mathlib.Nat.{add-zero, zero-add}
use native.Mathlib.Omega.{arith}
use borrow.Author.Tests.{ltb-false, lt-ltb, ne_eqb}
use lib.Dec.{ltb}
use lib.ListN.{length, drop, get_or}
use lib.Seq.{take_at, get_or-take}
use Rattle.numbers.specs.Eight.{eight}
use Rattle.numbers.specs.Lists.{Each}
use Rattle.numbers.proofs.Eight.{eight_same, either_false}
use Rattle.numbers.proofs.Lists.{each_at}
use Rattle.record.specs.Fields.{record_bytes}
use Rattle.ledger.specs.Step.{fresh, stock_at}
use Rattle.run.specs.History.{Turn, records_of, whole_run}
use Rattle.ledger.proofs.Accepted.{fresh_stock}
use Rattle.run.proofs.History.{Counts, records_join, run_counts, run_whole}
use Rattle.by_type.specs.Columns.{column_entry, column_after, columns_after, any_short, column_faults, columns_of, filled_of}
use Rattle.by_type.specs.Alone.{HasPlaces, releases_alone, stock_alone, filled_from}
use Rattle.by_type.specs.Across.{HoldsReleases, figures_across}
use Rattle.by_type.proofs.Alone.{release_in, figure_in, IsLedgers, alone_is_ledgers, releases_length, HoldFrom, figures_are_ledgers}

-- What the first eight columns have of an answer is the release of their type.
pub column_of_type : (t : ℕ) → t < 8 → column_entry t ≡ release_in t
unfolding column_entry
column_of_type t place = λ i turn. cond (lt-ltb t 8 place i) (release_in t turn) (figure_in turn)

after_more : (c : ℕ) (turns : List Turn) (columns : List (List ℕ)) (last : List ℕ)
    → columns_after c turns (columns ++ (last ∷ [])) ≡ columns_after c turns columns ++ (column_after (c + length columns) turns last ∷ [])
after_more c turns [] last = rw (add-zero c)
after_more c turns (column ∷ rest) last =
    let on : c + 1 + length rest ≡ c + length (column ∷ rest) = omega arith in
    rw (after_more (c + 1) turns rest last, on)

module _ (file : List ℕ) (none : (whole_run file).refusal ≡ 0) where
  counts : Counts fresh (records_of file) (whole_run file)
  unfolding whole_run fresh
  counts = run_counts fresh (records_of file) (record_bytes * length (records_of file)) (omega arith)

  -- The accepted records are the file's bytes.
  pub file_whole : record_bytes * length (whole_run file).accepted ≡ length file
  unfolding whole_run
  file_whole =
      omega (arith, counts.all none, run_whole (length file) file (omega arith) fresh (record_bytes * length (records_of file)) none)

  module _ (n : ℕ) (whole : record_bytes * n ≡ length file) where
    accepted_n : length (whole_run file).accepted ≡ n
    accepted_n = omega (arith, file_whole, whole)

    alone : (t : ℕ) → t < 8 → IsLedgers t fresh (records_of file) (record_bytes * length (records_of file))
    unfolding whole_run
    alone t place = alone_is_ledgers t place fresh (records_of file) (record_bytes * length (records_of file)) none

    stock_is : (t : ℕ) → t < 8 → stock_alone t 0 (records_of file) ≡ stock_at (whole_run file).ledger t
    unfolding whole_run
    stock_is t place = rw (fresh_stock t place) at (alone t place).stock

    pub stocks_are : {stocks : List ℕ} → stocks ≡ eight (λ t. stock_alone t 0 (records_of file)) → stocks ≡ eight (stock_at (whole_run file).ledger)
    stocks_are e = e ∙ eight_same (λ t. stock_alone t 0 (records_of file)) (stock_at (whole_run file).ledger) stock_is

    column_is : (t : ℕ) → t < 8 → (column : List ℕ) → releases_alone t 0 (records_of file) ++ drop n column ≡ column_after t (whole_run file).accepted column
    unfolding column_after whole_run
    column_is t place column = rw (accepted_n, column_of_type t place, rw (fresh_stock t place) at (alone t place).releases)

    holds_releases : (t : ℕ) (column : List ℕ) → HoldsReleases file n t (releases_alone t 0 (records_of file) ++ drop n column)
    holds_releases t column =
        take_at (releases_alone t 0 (records_of file)) (drop n column) n (releases_length t 0 (records_of file) ∙ (records_join n file [] (sym whole)).1)

    -- Columns that are filled hold their releases, and are the history's.
    pub all_hold : (t : ℕ) (columns : List (List ℕ)) {now : List (List ℕ)} → now ≡ filled_from file n t columns → Each (HoldsReleases file n) t now
    all_hold t columns e = rw e (each t columns)
      where
        each : (t : ℕ) (columns : List (List ℕ)) → Each (HoldsReleases file n) t (filled_from file n t columns)
        each t [] = tt
        each t (column ∷ rest) = (holds_releases t column, each (t + 1) rest)

    columns_are : (t : ℕ) (columns : List (List ℕ)) → t + length columns ≤ 8 → filled_from file n t columns ≡ columns_after t (whole_run file).accepted columns
    columns_are t [] few = refl
    columns_are t (column ∷ rest) few = rw (column_is t (omega arith) column, columns_are (t + 1) rest (omega arith))

    module _ (columns : List (List ℕ)) (size : length columns ≡ 8) (each : Each (HoldsReleases file n) 0 columns) where
      hold_from : HoldFrom columns 0 fresh (records_of file)
      hold_from t place j near =
          let holds : HoldsReleases file n t (get_or columns t []) = rw zero-add at (each_at (HoldsReleases file n) 0 columns [] each t (omega (arith, size))) in
          rw (zero-add j, fresh_stock t place)
          (sym (get_or-take n (get_or columns t []) j 0 (omega (arith, near, (records_join n file [] (sym whole)).1))) ∙ ap (λ (xs : List ℕ). get_or xs j 0) holds)

      pub figures_is : (figures : List ℕ) {filled : List ℕ} → filled ≡ figures_across columns 0 (records_of file) ++ drop n figures
          → filled ≡ column_after 8 (whole_run file).accepted figures
      unfolding column_after column_entry whole_run
      figures_is figures e =
          e ∙ rw (accepted_n, figures_are_ledgers columns 0 fresh (records_of file) (record_bytes * length (records_of file)) none hold_from)

    -- The eight columns, filled, and the figures.
    pub nine_are : (columns : List (List ℕ)) → length columns ≡ 8 → (last : List ℕ) {now : List (List ℕ)} {figures : List ℕ} → now ≡ filled_from file n 0 columns
        → figures ≡ column_after 8 (whole_run file).accepted last → now ++ (figures ∷ []) ≡ columns_after 0 (whole_run file).accepted (columns ++ (last ∷ []))
    nine_are columns size last filled figure =
        rw (filled, columns_are 0 columns (omega (arith, size)), figure) (sym (after_more 0 (whole_run file).accepted columns last ∙ rw size))

-- Where no column is short, each has a place for each record.
pub have_places : (n t : ℕ) (columns : List (List ℕ)) → any_short n columns ≡ false → Each (HasPlaces n) t columns
have_places n t [] e = tt
have_places n t (column ∷ rest) e =
    let both = either_false (ltb (length column) n) (any_short n rest) e in
    (ltb-false (length column) n both.0, have_places n (t + 1) rest both.1)

-- The three ways out: the first engine refuses, a column is short, or the columns are filled.
module _ (file : List ℕ) (columns : List (List ℕ)) where
  abbrev Left : (refusal : ℕ) (stocks : List ℕ) → List (List ℕ) → Type 0
  Left refusal stocks now = (record { refusal = refusal; stocks = stocks } ≡ filled_of file columns) × (now ≡ columns_of file columns)

  pub refused_first : {q : ℕ} → q ≡ (whole_run file).refusal → (q ≡ 0 → ⊥) → Left q (eight (λ t. 0)) columns
  unfolding filled_of columns_of column_faults
  refused_first {q} e some = let no = ne_eqb q 0 some in rw (← e) (simp no (refl, refl))

  module _ (none : (whole_run file).refusal ≡ 0) where
    pub refused_short : any_short (length (whole_run file).accepted) columns ≡ true → Left 26 (eight (λ t. 0)) columns
    unfolding filled_of columns_of column_faults
    refused_short short = rw (none, short) (refl, refl)

    pub filled_well : any_short (length (whole_run file).accepted) columns ≡ false → {stocks : List ℕ} {now : List (List ℕ)}
        → stocks ≡ eight (stock_at (whole_run file).ledger) → now ≡ columns_after 0 (whole_run file).accepted columns → Left 0 stocks now
    unfolding filled_of columns_of column_faults
    filled_well long s n = rw (none, long, s, n) (refl, refl)
