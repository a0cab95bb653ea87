-- Where the loop that adds across is before a record, and how a record and the end go from there.
use mathlib.Core.Path.{◌≡◌, refl, sym, ap, ◌∙◌}
use mathlib.Core.Bool.{true}
use mathlib.Core.List.{List, [], ◌∷◌, ◌++◌, append_assoc, append-nil}
use Prim.Native.Nat.{ℕ, ◌+◌, ◌*◌, ◌≤◌, ◌<◌}
use native.Mathlib.Omega.{arith}
use lib.ListN.{length, drop, set, length-drop, length-take}
use lib.Seq.{get_or-take}
use Rattle.numbers.specs.Lists.{Each}
use Rattle.numbers.proofs.Lists.{length_more, write_more, each_map}
use Rattle.record.specs.Fields.{record_bytes, factors_of}
use Rattle.record.specs.Ranges.{in_range}
use Rattle.figure.specs.Figure.{figure_of}
use Rattle.ledger.specs.Step.{fresh}
use Rattle.ledger.proofs.Accepted.{accepted_meets, fresh_stock}
use Rattle.run.specs.History.{records_of, whole_run}
use Rattle.run.proofs.History.{no_records, records_join}
use Rattle.by_type.specs.Across.{HoldsReleases, HoldsAt, across_at, figures_across}
use Rattle.by_type.proofs.Alone.{releases_length, releases_small}
use Rattle.releases.proofs.Midway.{Midway, midway_starts, next_record, records_are, next_taken, midway_on}

-- A column that holds its releases has each place of them, and none is large.
module _ (file : List ℕ) (n : ℕ) (none : (whole_run file).refusal ≡ 0) (whole : record_bytes * n ≡ length file) where
  holds_long : (t : ℕ) (column : List ℕ) → HoldsReleases file n t column → n ≤ length column
  holds_long t column e = omega (arith, ap length e, releases_length t 0 (records_of file), (records_join n file [] (sym whole)).1, length-take n column)

  holds_at : (i : ℕ) → i < n → (t : ℕ) (column : List ℕ) → t < 8 → HoldsReleases file n t column → HoldsAt i t column
  unfolding whole_run
  holds_at i near t column place e = (
    omega (arith, holds_long t column e),
    rw (← get_or-take n column i 0 near, e)
        (rw (fresh_stock t place) at (releases_small t place fresh (records_of file) (record_bytes * length (records_of file)) none i)),
  )

  pub all_hold_at : (i : ℕ) → i < n → (columns : List (List ℕ)) → length columns ≡ 8 → Each (HoldsReleases file n) 0 columns → Each (HoldsAt i) 0 columns
  all_hold_at i near columns eight each =
      each_map (HoldsReleases file n) (HoldsAt i) 0 columns (λ t column low high e. holds_at i near t column (omega (arith, high, eight)) e) each

pub record MidFigures (file figures₀ : List ℕ) (columns : List (List ℕ)) (figures : List ℕ) (i : ℕ) : Type 0 where
  pub here : Midway file i
  pub done : List ℕ
  pub placed : length done ≡ i
  pub written : figures ≡ done ++ drop i figures₀
  pub so_far : figures_across columns 0 (records_of file) ≡ done ++ figures_across columns i (records_of (drop (record_bytes * i) file))

pub figures_start : (file figures : List ℕ) (columns : List (List ℕ)) → (whole_run file).refusal ≡ 0 → MidFigures file figures columns figures 0
figures_start file figures columns none = record { here = midway_starts file none; done = []; placed = refl; written = refl; so_far = refl }

module _ {file figures₀ : List ℕ} {columns : List (List ℕ)} {figures : List ℕ} {i : ℕ}
    (h : MidFigures file figures₀ columns figures i) (more : record_bytes * i < length file) where
  pub in_range_lem : in_range (factors_of (next_record h.here more)) ≡ true
  in_range_lem = (accepted_meets h.here.ledger (next_record h.here more) h.here.room (next_taken h.here more)).ranges

  pub figures_on : {figure : ℕ} → i < length figures₀ → figure ≡ figure_of (factors_of (next_record h.here more)) (across_at columns i)
      → MidFigures file figures₀ columns (set figures i figure) (i + 1)
  unfolding figures_across
  figures_on {figure} room e =
      record {
        here = midway_on h.here more;
        done = h.done ++ (figure ∷ []);
        placed = omega (arith, length_more h.done figure, h.placed);
        written = write_more h.done figure 0 figures₀ i h.placed room h.written;
        so_far = h.so_far ∙ rw (records_are h.here more, e) (sym (append_assoc h.done (_ ∷ []) _));
      }

pub figures_end : {file figures₀ : List ℕ} {columns : List (List ℕ)} {figures : List ℕ} {i : ℕ} → MidFigures file figures₀ columns figures i → record_bytes * i ≡ length file
    → figures ≡ figures_across columns 0 (records_of file) ++ drop i figures₀
unfolding figures_across
figures_end {file} {i = i} h last =
    let gone : records_of (drop (record_bytes * i) file) ≡ [] = no_records (drop (record_bytes * i) file) (simp length-drop (omega arith)) in
    h.written ∙ rw (h.so_far, gone, append-nil)
