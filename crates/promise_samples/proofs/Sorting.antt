-- What request a claims: its laws over whole numbers (samples), carried to the fractions of equations (5) to (8).
use mathlib.Core.Path.{◌≡◌, refl, sym, ap, ◌∙◌}
use mathlib.Core.Bool.{true, true≢false}
use mathlib.Core.List.{List}
use mathlib.Core.Logic.{◌↔◌, ⊎_elim}
use Prim.Native.Nat.{ℕ, ◌+◌, ◌*◌, ◌%◌, ◌≤◌, ◌<◌, zero-le}
use native.Mathlib.Nat.{le_of_eq, le_trans}
use native.Mathlib.Decide.{ℕ_discrete}
use native.Mathlib.Omega.{arith}
use borrow.Author.Tests.{eqb-true, eq-eqb, le-leb}
use lib.Dec.{eqb, lit<}
use lib.ListN.{length, get_or}
use Rattle.numbers.specs.Eight.{sum_of, every_of}
use Rattle.numbers.specs.Fraction.{Fraction, over, whole, ◌⊕◌, ◌⊗◌, ◌≈◌, total, WithinBound}
use Rattle.numbers.proofs.Eight.{both_true, eight_at, every_at, every_each}
use Rattle.numbers.proofs.Fault.{refused_with}
use Rattle.numbers.proofs.Fraction.{at_most_below, below_at_most, add_right, same_trans, times_same, same_times, total_over}
use Rattle.waste.specs.Waste.{mass_limit}
use Rattle.record.specs.Fields.{mass_of}
use Rattle.record.specs.Ranges.{light}
use Rattle.refusal.specs.Refusal.{faults_of}
use Rattle.ledger.specs.Refusal.{refusal_of, sound}
use Rattle.ledger.specs.Take.{take_of}
use Rattle.ledger.specs.declared.book.Ledger.{Ledger}
use Rattle.ledger.proofs.Take.{take_refusal}
use Rattle.samples.specs.Samples.{least_samples, most_samples, right_number, fraction_at, adds_up, number_of, mass_of_type, Sorted, sorted_of}
use Rattle.samples.proofs.Laws.{mass_near, masses_add_up, mass_most}
use Rattle.samples.proofs.Answer.{year_or_month, Right, number_within, Taken, when_taken, taken, nothing_sorted}
use Rattle.promise_samples.specs.Sorting.{fraction_in, mean_fraction, mean_share, Enough, year, month, Sortable, Parted}

-- A right number of samples, as the test says it and as the request does.
enough_when : (kind Z : ℕ) → right_number kind Z ≡ true → Enough kind Z
enough_when kind Z e = ⊎_elim (λ y. year y.0 y.1 y.2) (λ m. month m.0 m.1) (year_or_month kind Z e)

right_when : (kind Z : ℕ) → Enough kind Z → right_number kind Z ≡ true
right_when kind Z (year k low high) = rw k (simp (le-leb least_samples Z low, le-leb Z most_samples high))
right_when kind Z (month k three) = rw (k, three) refl

-- A fraction that is the same is as near.
within_same : (a b : Fraction) (n bound : ℕ) → a ≈ b → WithinBound b n bound → WithinBound a n bound
within_same a b n bound e h =
    record {
      exact_below = at_most_below a b (whole n ⊕ whole bound) (le_of_eq e) h.exact_below;
      figure_below = below_at_most (whole n) (b ⊕ whole bound) (a ⊕ whole bound) h.figure_below (add_right b a (whole bound) (le_of_eq (sym e)));
    }

-- The mean share in one fraction.
share_is : (samples : List ℕ) (Z : ℕ) (some : 0 < Z) (W t : ℕ)
    → mean_share samples Z some W t ≈ over (W * sum_of (λ n. fraction_at samples n t) Z) (10000 * Z) (omega arith)
unfolding mean_share mean_fraction
share_is samples Z some W t =
    let added = over (sum_of (λ n. fraction_at samples n t) Z) 10000 (lit< tt) in
    let mean = added ⊗ over 1 Z some in
    same_trans (whole W ⊗ mean_fraction samples Z some t) (whole W ⊗ mean) (over (W * sum_of (λ n. fraction_at samples n t) Z) (10000 * Z) (omega arith))
    (same_times (mean_fraction samples Z some t) mean (whole W)
    (times_same (total (λ n. fraction_in samples n t) Z) added (over 1 Z some) (total_over (λ n. fraction_at samples n t) 10000 (lit< tt) Z)))
    (omega arith)

module _ (kind W : ℕ) (samples : List ℕ) where
  allowed : Taken kind W samples → Sortable kind W samples
  unfolding adds_up
  allowed t =
      let both = both_true (right_number kind (number_of samples)) (eqb (length samples % 16) 0) t.right in
      record {
        not_too_large = t.not_large;
        whole_samples = omega (arith, eqb-true (length samples % 16) 0 both.1);
        enough = enough_when kind (number_of samples) both.0;
        each_whole = λ n l. eqb-true _ _ (every_at (adds_up samples) (number_of samples) n l t.adds_up_lem);
      }

  accepts : Sortable kind W samples → (sorted_of kind W samples).refusal ≡ 0
  unfolding adds_up
  accepts s =
      let number : eqb (length samples % 16) 0 ≡ true = eq-eqb (length samples % 16) 0 (omega (arith, s.whole_samples)) in
      let right : Right kind samples true = rw (right_when kind (number_of samples) s.enough, number) in
      let up = every_each (adds_up samples) (number_of samples) (λ n l. eq-eqb _ _ (s.each_whole n l)) in
      sym (ap (λ (r : Sorted). r.refusal) (taken kind W samples s.not_too_large right up _ refl))

  pub sorted_where : ((sorted_of kind W samples).refusal ≡ 0) ↔ Sortable kind W samples
  sorted_where = (λ e. allowed (when_taken kind W samples e), accepts)

  module _ (e : (sorted_of kind W samples).refusal ≡ 0) where
    t : Taken kind W samples
    t = when_taken kind W samples e

    some : 0 < number_of samples
    some = (number_within kind samples t.right).0

    masses_are : (u : ℕ) → u < 8 → get_or (sorted_of kind W samples).masses u 0 ≡ mass_of_type samples W (u + 1)
    masses_are u h = rw (sym (taken kind W samples t.not_large t.right t.adds_up_lem _ refl)) (eight_at (λ v. mass_of_type samples W (v + 1)) u h)

    add_up : sum_of (λ u. get_or (sorted_of kind W samples).masses u 0) 8 ≡ W
    add_up = rw (sym (taken kind W samples t.not_large t.right t.adds_up_lem _ refl)) (masses_add_up samples W some t.adds_up_lem)

  -- every mass is within the limit, accepted or not
  mass_light : (u : ℕ) → u < 8 → get_or (sorted_of kind W samples).masses u 0 ≤ mass_limit
  mass_light u h =
      elim (ℕ_discrete (sorted_of kind W samples).refusal 0) [
        | yes e ↦ rw (masses_are e u h) (le_trans (mass_most samples W (some e) (t e).adds_up_lem u h) (t e).not_large)
        | no e ↦ rw (nothing_sorted kind W samples e) (rw (eight_at (λ v. 0) u h) zero-le)
      ]

  pub sorted_well : (e : (sorted_of kind W samples).refusal ≡ 0) → Parted W samples (sorted_of kind W samples).masses
  sorted_well e =
      let Z = number_of samples in
      let near : (u : ℕ) → WithinBound (over (W * sum_of (λ n. fraction_at samples n u) Z) (10000 * Z) (omega (arith, some e))) (mass_of_type samples W (u + 1)) 1
      = λ u. let n = mass_near samples W (some e) u in record { exact_below = omega (arith, n.0); figure_below = omega (arith, n.1) } in
      record {
        some = some e;
        add_up = add_up e;
        under_1_kg = λ u h. rw (masses_are e u h) (within_same _ _ _ 1 (share_is samples Z (some e) W u) (near u));
        share_is = share_is samples Z (some e) W;
      }

  pub sorted_light : (l : Ledger) (bytes : List ℕ) (room : ℕ)
      → ((t : ℕ) → t < 8 → mass_of bytes t ≡ get_or (sorted_of kind W samples).masses t 0) → (take_of l bytes room).refusal ≡ 9 → ⊥
  unfolding refusal_of faults_of light
  sorted_light l bytes room h nine =
      let there = refused_with 8 (faults_of (sound l) l.n l.kind l.climate l.year bytes room) (sym (take_refusal l bytes room) ∙ nine) in
      let fine : every_of (light bytes) 8 ≡ true = every_each (light bytes) 8 (λ u k. le-leb (mass_of bytes u) mass_limit (rw (h u k) (mass_light u k))) in
      true≢false (sym (rw fine at there))
