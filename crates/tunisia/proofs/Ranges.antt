-- How large an answer can be: no file's sums are over half of all the carbon that a ledger holds.
use mathlib.Core.Path.{◌≡◌, refl}
use mathlib.Core.Bool.{Bool, true, false}
use mathlib.Core.List.{List, []}
use Prim.Native.Nat.{ℕ, ◌+◌, ◌*◌, ◌^◌, ◌≤◌}
use native.Mathlib.Decide.{ℕ_discrete}
use native.Mathlib.Omega.{arith}
use borrow.Author.Tests.{eq-eqb, ne_eqb}
use lib.IntN.{pos, ◌-ℤ◌}
use lib.ListN.{length}
use lib.Signed.{mag}
use Rattle.numbers.specs.Lists.{added}
use Rattle.waste.specs.Kind.{is_monthly}
use Rattle.record.specs.Fields.{record_bytes, kind_of}
use Rattle.carbon.specs.Carbon.{most_records}
use Rattle.ledger.specs.Step.{fresh}
use Rattle.ledger.proofs.Sound.{sound_is}
use Rattle.run.specs.History.{Turn, records_of, whole_run}
use Rattle.tunisia.specs.Years.{accepted_years, years_from, years_of}
use Rattle.tunisia.specs.Reduction.{answer_over, no_answer, reduction_of, Reduction}
use Rattle.reductions.specs.Stretch.{all_grams, stretch_refusal, less_all}
use Rattle.reductions.specs.Year.{reference_of, project_of, stretch_of, sums_of}
use Rattle.tunisia.specs.Walk.{none_walked, SumsFit}
use Rattle.reductions.proofs.Sizes.{less_most}
use Rattle.reductions.proofs.Entries.{light_most, entries_light, entries_count}
use Rattle.tunisia.proofs.Walks.{walk_starts, walk_fits}
use Rattle.tunisia.proofs.OverRun.{over_run}
use Rattle.tunisia.proofs.ByYear.{yearly_file, monthly_file}

-- What holds of the accepted years of a file.
abbrev Fit : (first last : ℕ) → List Turn → Type 0
Fit first last turns = (SumsFit (sums_of (stretch_of first last (years_of turns)))) × (length turns ≤ most_records)

run_fits : (first last : ℕ) (file : List ℕ) → Fit first last (whole_run file).accepted
unfolding whole_run
run_fits first last file =
    let over = over_run first last [] (length file) file (omega arith) [] fresh none_walked (record_bytes * length (records_of file)) (walk_starts first last) in
    (rw over.walks.sums at (walk_fits over.walks), omega (arith, over.walks.counted, (sound_is _ over.walks.good).few))

none_fit : (first last : ℕ) → Fit first last []
unfolding sums_of stretch_of years_of years_from
none_fit first last = ((omega arith, omega arith, omega arith), omega arith)

pub years_fit : (first last : ℕ) (file : List ℕ) → Fit first last (accepted_years file)
years_fit first last file = by_kind (is_monthly (kind_of file)) refl
  where
    by_kind : (month : Bool) → is_monthly (kind_of file) ≡ month → Fit first last (accepted_years file)
    by_kind true e = rw (monthly_file file e).0 (none_fit first last)
    by_kind false e = rw (yearly_file file e).0 (run_fits first last file)

-- The reduction of every input is far from what 64 bits can hold.
less_all_most : (reference project electricity fuel : ℕ) → mag (less_all reference project electricity fuel) ≤ reference + project + electricity + fuel
unfolding less_all
less_all_most r p e f = omega (arith, less_most (pos r) p, less_most (pos r -ℤ pos p) e, less_most (pos r -ℤ pos p -ℤ pos e) f)

reduction_most : (file : List ℕ) (first last : ℕ) (electricity fuel : List ℕ) → mag (reduction_of file first last electricity fuel).reduction ≤ 72 * 10 ^ 17
unfolding reduction_of answer_over no_answer sums_of
reduction_most file first last electricity fuel =
    let years = length (accepted_years file) in
    let fits = years_fit first last file in
    elim (ℕ_discrete (stretch_refusal first last years electricity fuel) 0) [
      | yes z ↦
          let light = entries_light first last years electricity fuel z in
          let few = entries_count first last years electricity fuel z fits.1 in
          let stretch = stretch_of first last (years_of (accepted_years file)) in
          simp (eq-eqb _ 0 z)
          (omega (arith, less_all_most (added reference_of stretch) (added project_of stretch) (all_grams electricity) (all_grams fuel), fits.0.0, fits.0.1, light_most electricity light.0, light_most fuel light.1, few.0, few.1))
      | no z ↦ simp (ne_eqb _ 0 z) (omega arith)
    ]

pub with_size : (file : List ℕ) (first last : ℕ) (electricity fuel : List ℕ) {r : Reduction} → r ≡ reduction_of file first last electricity fuel
    → (r ≡ reduction_of file first last electricity fuel) × (mag r.reduction ≤ 72 * 10 ^ 17)
with_size file first last electricity fuel e = (e, rw e (reduction_most file first last electricity fuel))
