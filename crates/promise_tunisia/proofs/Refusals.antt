-- Each refusal of this mode exactly where the request has it.
use mathlib.Core.Path.{◌≡◌, refl, sym, ap, ◌∙◌}
use mathlib.Core.Bool.{Bool, true, false, cond, ◌&&◌}
use mathlib.Core.Logic.{◌↔◌}
use mathlib.Core.List.{List, [], ◌∷◌}
use Prim.Native.Nat.{ℕ, zero, suc, ◌+◌, ◌-◌, ◌≤◌}
use native.Mathlib.Decide.{ℕ_discrete}
use native.Mathlib.Omega.{arith}
use borrow.Author.Tests.{le-leb, leb-true, eq-eqb, ne_eqb, eqb-true}
use lib.Dec.{eqb, leb, eqb-suc-zero}
use lib.ListN.{length}
use Rattle.numbers.specs.Fault.{Fault, first_of, ahead}
use Rattle.numbers.proofs.Eight.{both_true, three_true}
use Rattle.numbers.proofs.Fault.{onward, first_up_to, inserted_first, inserted_absent}
use Rattle.waste.specs.Kind.{monthly, is_monthly}
use Rattle.record.specs.Fields.{record_bytes, kind_of}
use Rattle.refusal.specs.Refusal.{faults_of}
use Rattle.ledger.specs.Refusal.{sound, refusal_of}
use Rattle.ledger.specs.declared.book.Ledger.{Ledger}
use Rattle.tunisia.specs.Years.{refusal_by_year, accepted_years, refusal_after}
use Rattle.tunisia.specs.Reduction.{answer_over, no_answer, reduction_of, Reduction}
use Rattle.reductions.specs.Stretch.{most_grams, grams_light, is_stretch, stretch_refusal}
use Rattle.promise_tunisia.specs.Reported.{StretchOfYears, reported, Within, Light, NoneBefore6}

-- A monthly record, after 5 and before 6.
module _ (l : Ledger) (bytes : List ℕ) where
  abbrev faults : List Fault
  faults = faults_of (sound l) l.n l.kind l.climate l.year bytes record_bytes

  first_is : refusal_by_year l bytes ≡ cond (eqb (first_of (ahead 6 faults)) 0) (cond (is_monthly (kind_of bytes)) 23 (first_of (onward 6 faults))) (first_of (ahead 6 faults))
  unfolding refusal_by_year faults_of
  first_is = inserted_first 6 23 (is_monthly (kind_of bytes)) faults refl

  early_most : first_of (ahead 6 faults) ≤ 5
  unfolding faults_of
  early_most = first_up_to 5 (ahead 6 faults) refl

  late_most : first_of (onward 6 faults) ≤ 17
  unfolding faults_of
  late_most = first_up_to 17 (onward 6 faults) refl

  only_then : (early late : ℕ) (month : Bool) → early ≤ 5 → late ≤ 17 → cond (eqb early 0) (cond month 23 late) early ≡ 23 → (early ≡ 0) × (month ≡ true)
  only_then zero late true low high e = (refl, refl)
  only_then zero late false low high e = absurd (omega arith)
  only_then (suc early) late month low high e = let own : suc early ≡ 23 = rw (eqb-suc-zero early) at e in absurd (omega arith)

  pub refused_23 : (refusal_by_year l bytes ≡ 23) ↔ (NoneBefore6 l bytes × (kind_of bytes ≡ monthly))
  refused_23 = (
    λ e. let both = only_then (first_of (ahead 6 faults)) (first_of (onward 6 faults)) (is_monthly (kind_of bytes)) early_most late_most (sym first_is ∙ e) in (both.0, eqb-true (kind_of bytes) monthly both.1),
    λ h. first_is ∙ simp (eq-eqb (first_of (ahead 6 faults)) 0 h.0, eq-eqb (kind_of bytes) monthly h.1),
  )

  pub refused_else : is_monthly (kind_of bytes) ≡ false → refusal_by_year l bytes ≡ refusal_of l bytes record_bytes
  unfolding refusal_by_year refusal_of
  refused_else e = inserted_absent 6 23 (is_monthly (kind_of bytes)) faults e

-- The tests of a stretch, in words.
light_is : (grams : List ℕ) → grams_light grams ≡ true → Light grams
unfolding grams_light
light_is [] e i h = absurd (omega arith)
light_is (one ∷ rest) e zero h = leb-true one most_grams (both_true (leb one most_grams) (grams_light rest) e).0
light_is (one ∷ rest) e (suc i) h = light_is rest (both_true (leb one most_grams) (grams_light rest) e).1 i (omega arith)

is_light : (grams : List ℕ) → Light grams → grams_light grams ≡ true
unfolding grams_light
is_light [] h = refl
is_light (one ∷ rest) h = simp (le-leb one most_grams (h 0 (omega arith)), is_light rest (λ i l. h (suc i) (omega arith)))

module _ (s : StretchOfYears) where
  abbrev years : ℕ
  years = length (accepted_years s.file)

  abbrev count : ℕ
  count = s.last + 1 - s.first

  abbrev stretch? : Bool
  stretch? = is_stretch s.first s.last years (length s.electricity) (length s.fuel)

  abbrev light? : Bool
  light? = grams_light s.electricity && grams_light s.fuel

  within_is : stretch? ≡ true → Within s
  unfolding is_stretch
  within_is e =
      let both = both_true (leb 1 s.first && leb s.first s.last && leb s.last years) (eqb (length s.electricity) count && eqb (length s.fuel) count) e in
      let tests = three_true (leb 1 s.first) (leb s.first s.last) (leb s.last years) both.0 in
      let counts = both_true (eqb (length s.electricity) count) (eqb (length s.fuel) count) both.1 in
      (leb-true 1 s.first tests.0, leb-true s.first s.last tests.1.0, leb-true s.last years tests.1.1, eqb-true _ count counts.0, eqb-true _ count counts.1)

  is_within : Within s → stretch? ≡ true
  unfolding is_stretch
  is_within h =
      simp (le-leb 1 s.first h.0, le-leb s.first s.last h.1, le-leb s.last years h.2, eq-eqb (length s.electricity) count h.3, eq-eqb (length s.fuel) count h.4)

  lights : light? ≡ true → Light s.electricity × Light s.fuel
  lights e = let both = both_true (grams_light s.electricity) (grams_light s.fuel) e in (light_is s.electricity both.0, light_is s.fuel both.1)

  are_light : Light s.electricity × Light s.fuel → light? ≡ true
  are_light h = simp (is_light s.electricity h.0, is_light s.fuel h.1)

  -- An answer without a refusal is to a stretch without one.
  pub answered : (reported s).refusal ≡ 0 → stretch_refusal s.first s.last years s.electricity s.fuel ≡ 0
  unfolding reduction_of answer_over no_answer
  answered z =
      let q = stretch_refusal s.first s.last years s.electricity s.fuel in
      elim (ℕ_discrete q 0) [ yes e ↦ e | no e ↦ simp (ne_eqb q 0 e) at z ]

  -- The answer by the two tests.
  abbrev none : (refusal : ℕ) → Reduction
  none refusal = no_answer refusal years (refusal_after s.file)

  by_tests : (a b : Bool) → stretch? ≡ a → light? ≡ b → (reported s).refusal ≡ cond a (cond b 0 25) 24
  unfolding reduction_of stretch_refusal answer_over no_answer
  by_tests true true e f = rw (e, f)
  by_tests true false e f = rw (e, f)
  by_tests false b e f = rw e

  no_stretch : stretch? ≡ false → reported s ≡ none 24
  unfolding reduction_of stretch_refusal
  no_stretch e = rw e

  heavy : stretch? ≡ true → light? ≡ false → reported s ≡ none 25
  unfolding reduction_of stretch_refusal
  heavy e f = rw (e, f)

  pub answered_where : ((reported s).refusal ≡ 0) ↔ (Within s × (Light s.electricity × Light s.fuel))
  answered_where = (λ z. from stretch? light? refl refl z, λ h. by_tests true true (is_within h.0) (are_light h.1))
    where
      from : (a b : Bool) → stretch? ≡ a → light? ≡ b → (reported s).refusal ≡ 0 → Within s × (Light s.electricity × Light s.fuel)
      from true true e f z = (within_is e, lights f)
      from true false e f z = absurd (omega (arith, by_tests true false e f))
      from false b e f z = absurd (omega (arith, by_tests false b e f))

  pub stretch_24 : (reported s ≡ none 24) ↔ (Within s → ⊥)
  unfolding no_answer
  stretch_24 = (λ e h. there light? refl (is_within h) (ap (λ (x : Reduction). x.refusal) e), λ h. no_stretch (missing stretch? refl h))
    where
      there : (b : Bool) → light? ≡ b → stretch? ≡ true → (reported s).refusal ≡ 24 → ⊥
      there true f e z = omega (arith, by_tests true true e f)
      there false f e z = omega (arith, by_tests true false e f)

      missing : (a : Bool) → stretch? ≡ a → (Within s → ⊥) → stretch? ≡ false
      missing true e h = absurd (h (within_is e))
      missing false e h = e

  pub stretch_25 : (reported s ≡ none 25) ↔ (Within s × ((Light s.electricity × Light s.fuel) → ⊥))
  unfolding no_answer
  stretch_25 = (λ e. there stretch? light? refl refl (ap (λ (x : Reduction). x.refusal) e), λ h. heavy (is_within h.0) (missing light? refl h.1))
    where
      there : (a b : Bool) → stretch? ≡ a → light? ≡ b → (reported s).refusal ≡ 25 → Within s × ((Light s.electricity × Light s.fuel) → ⊥)
      there true true e f z = absurd (omega (arith, by_tests true true e f))
      there true false e f z = (within_is e, λ h. omega (arith, by_tests true true e (are_light h), by_tests true false e f))
      there false b e f z = absurd (omega (arith, by_tests false b e f))

      missing : (b : Bool) → light? ≡ b → ((Light s.electricity × Light s.fuel) → ⊥) → light? ≡ false
      missing true f h = absurd (h (lights f))
      missing false f h = f
