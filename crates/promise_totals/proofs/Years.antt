-- A buffer worked out afresh: its slots, and one output record more.
use mathlib.Core.Path.{◌≡◌, refl, sym, ap, ◌∙◌}
use mathlib.Core.Bool.{Bool, true, false, cond}
use mathlib.Core.List.{List, [], ◌∷◌, ◌++◌, append-nil}
use Prim.Native.Nat.{ℕ, ◌+◌, ◌-◌, ◌*◌, ◌/◌, ◌≤◌, ◌<◌}
use native.Mathlib.Decide.{ℕ_discrete}
use native.Mathlib.Omega.{arith}
use borrow.Author.Tests.{eq-eqb, ne_eqb, le-leb}
use lib.Dec.{eqb}
use lib.ListN.{length}
use Rattle.numbers.specs.Fault.{between}
use Rattle.numbers.specs.Lists.{added}
use Rattle.numbers.proofs.Fault.{between_low, between_high}
use Rattle.numbers.proofs.Joined.{joined_same, joined_length, joined_part, joined_set}
use Rattle.numbers.proofs.Lists.{length_more, added_more}
use Rattle.year_slots.specs.Slots.{slot_size, slot_count, totals_bytes, slot_at, slot_row, with_month, added_to}
use Rattle.year_slots.proofs.Slots.{SmallSlot, row_length, part, slot_read}
use Rattle.promise_totals.specs.Afresh.{period_in, x0_in, figure_in, bound_in, of_year, year_slot, afresh}

abbrev pub inside : (k : ℕ) → List ℕ → Bool
inside k o = between (12 * k + 1) (period_in o) (12 * k + 12)

-- An output record more is one of its own year.
of_year_more : (k : ℕ) (outs : List (List ℕ)) (o : List ℕ) → of_year k (outs ++ (o ∷ [])) ≡ of_year k outs ++ cond (inside k o) (o ∷ []) []
unfolding of_year
of_year_more k [] o = refl
of_year_more k (first ∷ rest) o = by (inside k first) (of_year_more k rest o)
  where
    by : (test : Bool) → of_year k (rest ++ (o ∷ [])) ≡ of_year k rest ++ cond (inside k o) (o ∷ []) []
        → cond test (first ∷ of_year k (rest ++ (o ∷ []))) (of_year k (rest ++ (o ∷ []))) ≡ cond test (first ∷ of_year k rest) (of_year k rest) ++ cond (inside k o) (o ∷ []) []
    by true on = ap (λ (outs : List (List ℕ)). first ∷ outs) on
    by false on = on

pub of_own_year : (k : ℕ) (outs : List (List ℕ)) (o : List ℕ) → 12 * k + 1 ≤ period_in o → period_in o ≤ 12 * k + 12 → of_year k (outs ++ (o ∷ [])) ≡ of_year k outs ++ (o ∷ [])
of_own_year k outs o low high = of_year_more k outs o ∙ simp (le-leb (12 * k + 1) (period_in o) low, le-leb (period_in o) (12 * k + 12) high)

pub of_other_year : (k : ℕ) (outs : List (List ℕ)) (o : List ℕ) → (12 * k + 1 ≤ period_in o → period_in o ≤ 12 * k + 12 → ⊥) → of_year k (outs ++ (o ∷ [])) ≡ of_year k outs
of_other_year k outs o out = of_year_more k outs o ∙ by (inside k o) refl
  where
    by : (test : Bool) → inside k o ≡ test → of_year k outs ++ cond test (o ∷ []) [] ≡ of_year k outs
    by true e = absurd (out (between_low (12 * k + 1) (period_in o) (12 * k + 12) e) (between_high (12 * k + 1) (period_in o) (12 * k + 12) e))
    by false e = append-nil (of_year k outs)

-- The records of a year add up to no more than all.
pub year_part : (f : List ℕ → ℕ) (k : ℕ) (outs : List (List ℕ)) → added f (of_year k outs) ≤ added f outs
unfolding of_year
year_part f k [] = omega arith
year_part f k (o ∷ rest) = by (inside k o) (year_part f k rest)
  where
    by : (test : Bool) → added f (of_year k rest) ≤ added f rest → added f (cond test (o ∷ of_year k rest) (of_year k rest)) ≤ f o + added f rest
    by true on = omega (arith, on)
    by false on = omega (arith, on)

abbrev rows : List (List ℕ) → ℕ → List ℕ
rows outs k = slot_row (year_slot k (of_year k outs))

each_row : (outs : List (List ℕ)) (t : ℕ) → t < slot_count → length (rows outs t) ≡ slot_size
each_row outs t h = row_length (year_slot t (of_year t outs))

pub afresh_length : (outs : List (List ℕ)) → length (afresh outs) ≡ totals_bytes
unfolding afresh
afresh_length outs = joined_length (rows outs) slot_size slot_count (each_row outs) slot_count (omega arith)

pub afresh_part : (outs : List (List ℕ)) (k : ℕ) → k < slot_count → part (afresh outs) k ≡ rows outs k
unfolding afresh
afresh_part outs k h = joined_part (rows outs) slot_size slot_count (each_row outs) slot_count k (omega arith) h

pub afresh_slot : (outs : List (List ℕ)) (k : ℕ) → k < slot_count → SmallSlot (year_slot k (of_year k outs)) → slot_at (afresh outs) k ≡ year_slot k (of_year k outs)
afresh_slot outs k h small = slot_read (afresh outs) k (year_slot k (of_year k outs)) small (afresh_part outs k h)

-- a month more of a year
with_one_lem : (k : ℕ) (mine : List (List ℕ)) (o : List ℕ) → with_month k (year_slot k mine) (x0_in o) (figure_in o) (bound_in o) ≡ year_slot k (mine ++ (o ∷ []))
unfolding with_month year_slot
with_one_lem k mine o =
    let many : length (mine ++ (o ∷ [])) ≡ length mine + 1 = length_more mine o ∙ omega arith in
    let number : cond (eqb (length (mine ++ (o ∷ []))) 0) 0 (k + 1) ≡ k + 1 = simp (ne_eqb (length (mine ++ (o ∷ []))) 0 (λ z. omega (arith, many, z))) in
    λ i. record {
      year = sym number i;
      months = sym many i;
      x0 = sym (added_more x0_in mine o) i;
      figure = sym (added_more figure_in mine o) i;
      bound = sym (added_more bound_in mine o) i;
    }

-- The month after n, added to the buffer of the output records before it, makes that of all.
pub afresh_more : (outs : List (List ℕ)) (o : List ℕ) (n : ℕ) → n < 1200 → period_in o ≡ n + 1 → SmallSlot (year_slot (n / 12) (of_year (n / 12) outs))
    → added_to (afresh outs) (n + 1) (x0_in o) (figure_in o) (bound_in o) ≡ afresh (outs ++ (o ∷ []))
unfolding added_to afresh
afresh_more outs o n few period small =
    let k = n / 12 in
    let e : n + 1 - 1 ≡ n = omega arith in
    let here : k < slot_count = omega arith in
    let new = slot_row (with_month k (year_slot k (of_year k outs)) (x0_in o) (figure_in o) (bound_in o)) in
    let own : new ≡ rows (outs ++ (o ∷ [])) k
    = ap slot_row (with_one_lem k (of_year k outs) o ∙ ap (year_slot k) (sym (of_own_year k outs o (omega (arith, period)) (omega (arith, period))))) in
    rw (e, afresh_slot outs k here small)
    (joined_set (rows outs) slot_size slot_count (each_row outs) slot_count (omega arith) k here new (row_length (with_month k (year_slot k (of_year k outs)) (x0_in o) (figure_in o) (bound_in o)))
    ∙ joined_same (λ t. cond (eqb t k) new (rows outs t)) (rows (outs ++ (o ∷ []))) slot_count (λ t h.
    elim (ℕ_discrete t k) [
      | yes z ↦ simp (eq-eqb t k z) (own ∙ ap (rows (outs ++ (o ∷ []))) (sym z))
      | no z ↦ simp (ne_eqb t k z) (ap (λ (mine : List (List ℕ)). slot_row (year_slot t mine)) (sym (of_other_year t outs o (λ low high. z (omega (arith, period, low, high))))))
    ]))
