-- What request d claims of its calls: who is accepted, what the factor is (Equation.antt), and how it moves.
use mathlib.Core.Path.{◌≡◌, refl, sym, ◌∙◌}
use mathlib.Core.Bool.{Bool, true, false, ◌&&◌}
use mathlib.Core.Logic.{◌⊎◌, inl, inr, ⊎_elim, ◌↔◌}
use Prim.Native.Nat.{ℕ, ◌≤◌, ◌<◌, zero-le}
use native.Mathlib.Nat.{le_refl, le_trans}
use native.Mathlib.Decide.{ℕ_discrete}
use native.Mathlib.Omega.{arith}
use borrow.Author.Tests.{leb-true, le-leb, eqb-true}
use lib.Dec.{eqb, lit<, lit≤}
use Rattle.numbers.proofs.Eight.{both_true, three_true, either_true}
use Rattle.uncertainty.specs.Uncertainty.{entering, all_full, AtMost, is_percentage, are_percentages, squares_of, most_squares, allows, factor_for, is_code, are_codes, chosen, chosen_by, both_entered, percentage_faults, by_percentages, by_codes}
use Rattle.uncertainty.specs.declared.Uncertainties.{Uncertainties}
use Rattle.uncertainty.proofs.Laws
use Rattle.uncertainty.proofs.Answer
use Rattle.promise_uncertainty.specs.Uncertainties.{V², EquationFour, Entered, Takes, takes_lower, takes_higher, ByTable, Coded, Determined}
use Rattle.promise_uncertainty.proofs.Equation.{equation_four, no_other, v_is}

module _ (u : Uncertainties) where
  -- Where S is from one sum to another, the factor is from the other's to the one's.
  determined : (low high : ℕ) → low ≤ squares_of u → squares_of u ≤ high → 0 < factor_for high
      → Determined u (factor_for high) (factor_for (squares_of u)) (factor_for low)
  determined low high least most some =
      let S = squares_of u in
      record {
        equation_four = equation_four S (V² u) (v_is u);
        at_least = Laws.falls_as_s_rises S high most;
        at_most = Laws.falls_as_s_rises low S least;
        recordable = simp (le-leb 1 (factor_for S) (omega (arith, Laws.falls_as_s_rises S high most)), le-leb (factor_for S) 100 (Laws.factor_most S));
      }

-- Six percentages.
module _ (u : Uncertainties) where
  both_when : u.a ≤ 100 → u.b ≤ 100 → both_entered u ≡ true
  both_when ha hb = simp (le-leb u.a 100 ha, le-leb u.b 100 hb)

  pub factor_where : ((by_percentages u).refusal ≡ 0) ↔ Entered u
  factor_where = (
    λ z. Laws.each_at_most_lem u (Answer.when_entered u z),
    λ h. rw (sym (Answer.factor_found u (Answer.all_entered u (both_when h.most_a h.most_b) h.most_c h.most_d h.most_e h.most_g) refl)),
  )

  pub factor_18 : (Entered u → ⊥) → by_percentages u ≡ record { refusal = 18; factor = 0 }
  factor_18 bad = by_test (are_percentages u) refl
    where
      by_test : (t : Bool) → are_percentages u ≡ t → by_percentages u ≡ record { refusal = 18; factor = 0 }
      by_test true t = absurd (bad (Laws.each_at_most_lem u t))
      by_test false t = sym (Answer.percentage_over u t)

  factor_is : (by_percentages u).refusal ≡ 0 → (by_percentages u).factor ≡ factor_for (squares_of u)
  factor_is z = rw (sym (Answer.factor_found u (Answer.when_entered u z) refl))

  pub factor_well : (by_percentages u).refusal ≡ 0 → Determined u 28 (by_percentages u).factor 100
  unfolding factor_for allows
  factor_well z = rw (factor_is z) (determined u 0 most_squares zero-le (Laws.squares_most u (Answer.when_entered u z)) (lit< tt))

  pub factor_one : (p : ℕ) → (by_percentages u).refusal ≡ 0 → EquationFour (V² u) p → p ≡ (by_percentages u).factor
  factor_one p z met =
      let some : 0 < factor_for (squares_of u) = omega (arith, factor_is z, (factor_well z).at_least) in
      no_other (squares_of u) (V² u) (v_is u) some p met ∙ sym (factor_is z)

-- A code that is taken is 1 or 2, and takes the value that is chosen.
code_is : (code : ℕ) → is_code code ≡ true → (code ≡ 1) ⊎ (code ≡ 2)
code_is code t = ⊎_elim (λ one. inl (eqb-true code 1 one)) (λ two. inr (eqb-true code 2 two)) (either_true (eqb code 1) (eqb code 2) t)

is_code_lem : (code : ℕ) → (code ≡ 1) ⊎ (code ≡ 2) → is_code code ≡ true
is_code_lem code = ⊎_elim (λ one. rw one) (λ two. rw two)

takes_chosen : {code lower higher value : ℕ} → Takes code lower higher value → value ≡ chosen code lower higher
takes_chosen (takes_lower one is) = rw (one, is)
takes_chosen (takes_higher two is) = rw (two, is)

takes_the_chosen : {code lower higher : ℕ} → (code ≡ 1) ⊎ (code ≡ 2) → Takes code lower higher (chosen code lower higher)
takes_the_chosen (inl one) = takes_lower one (rw one)
takes_the_chosen (inr two) = takes_higher two (rw two)

code_within : {code : ℕ} → (code ≡ 1) ⊎ (code ≡ 2) → (1 ≤ code) × (code ≤ 2)
code_within (inl one) = (omega arith, omega arith)
code_within (inr two) = (omega arith, omega arith)

chosen_rises : (code code' : ℕ) {lower higher : ℕ} → (code ≡ 1) ⊎ (code ≡ 2) → (code' ≡ 1) ⊎ (code' ≡ 2) → code ≤ code' → lower ≤ higher
    → chosen code lower higher ≤ chosen code' lower higher
chosen_rises code code' {lower} (inl one) (inl one') h low = rw (one, one') (le_refl lower)
chosen_rises code code' (inl one) (inr two') h low = rw (one, two') low
chosen_rises code code' (inr two) (inl one') h low = absurd (omega arith)
chosen_rises code code' {lower} {higher} (inr two) (inr two') h low = rw (two, two') (le_refl higher)

chosen_less : (u u' : Uncertainties) → Coded u → Coded u' → AtMost u u' → AtMost (chosen_by u) (chosen_by u')
unfolding chosen_by
chosen_less u u' k k' h =
    record {
      most_a = h.most_a;
      most_b = h.most_b;
      most_c = chosen_rises u.c u'.c k.c_code k'.c_code h.most_c (lit≤ tt);
      most_d = chosen_rises u.d u'.d k.d_code k'.d_code h.most_d (lit≤ tt);
      most_e = chosen_rises u.e u'.e k.e_code k'.e_code h.most_e (lit≤ tt);
      most_g = chosen_rises u.g u'.g k.g_code k'.g_code h.most_g (lit≤ tt);
    }

-- Least and most uncertainty by codes.
abbrev lowest : Uncertainties
lowest = entering 0 0 1 1 1 1

abbrev highest : Uncertainties
highest = entering 100 100 2 2 2 2

coded_at : (n m : ℕ) → n ≤ 100 → (m ≡ 1) ⊎ (m ≡ 2) → Coded (entering n n m m m m)
coded_at n m h is = record { a_most = h; b_most = h; c_code = is; d_code = is; e_code = is; g_code = is }

-- Four by codes.
module _ (u : Uncertainties) where
  both_most : both_entered u ≡ true → (u.a ≤ 100) × (u.b ≤ 100)
  both_most t =
      let both = both_true (is_percentage u.a) (is_percentage u.b) t in
      (leb-true u.a 100 both.0, leb-true u.b 100 both.1)

  coded_if : (u.a ≤ 100) × (u.b ≤ 100) → are_codes u ≡ true → Coded u
  unfolding are_codes
  coded_if entered t =
      let fourth = both_true (is_code u.c && is_code u.d && is_code u.e) (is_code u.g) t in
      let three = three_true (is_code u.c) (is_code u.d) (is_code u.e) fourth.0 in
      record {
        a_most = entered.0;
        b_most = entered.1;
        c_code = code_is u.c three.0;
        d_code = code_is u.d three.1.0;
        e_code = code_is u.e three.1.1;
        g_code = code_is u.g fourth.1;
      }

  coded_when : (by_codes u).refusal ≡ 0 → Coded u
  coded_when z = let t = Answer.when_coded u z in coded_if (both_most t.0) t.1

  pub codes_18 : ((u.a ≤ 100) × (u.b ≤ 100) → ⊥) → by_codes u ≡ record { refusal = 18; factor = 0 }
  codes_18 bad = by_test (both_entered u) refl
    where
      by_test : (t : Bool) → both_entered u ≡ t → by_codes u ≡ record { refusal = 18; factor = 0 }
      by_test true t = absurd (bad (both_most t))
      by_test false t = sym (Answer.entered_over u t)

  pub codes_19 : u.a ≤ 100 → u.b ≤ 100 → (Coded u → ⊥) → by_codes u ≡ record { refusal = 19; factor = 0 }
  codes_19 ha hb bad = by_test (are_codes u) refl
    where
      by_test : (t : Bool) → are_codes u ≡ t → by_codes u ≡ record { refusal = 19; factor = 0 }
      by_test true t = absurd (bad (coded_if (ha, hb) t))
      by_test false t = sym (Answer.not_coded u (both_when u ha hb) t)

  module _ (h : Coded u) where
    least_coded : AtMost lowest u
    least_coded =
        record {
          most_a = zero-le;
          most_b = zero-le;
          most_c = (code_within h.c_code).0;
          most_d = (code_within h.d_code).0;
          most_e = (code_within h.e_code).0;
          most_g = (code_within h.g_code).0;
        }

    most_coded : AtMost u highest
    most_coded =
        record {
          most_a = h.a_most;
          most_b = h.b_most;
          most_c = (code_within h.c_code).1;
          most_d = (code_within h.d_code).1;
          most_e = (code_within h.e_code).1;
          most_g = (code_within h.g_code).1;
        }

    all_coded : are_codes u ≡ true
    unfolding are_codes
    all_coded = simp (is_code_lem u.c h.c_code, is_code_lem u.d h.d_code, is_code_lem u.e h.e_code, is_code_lem u.g h.g_code)

    chosen_is : by_codes u ≡ by_percentages (chosen_by u)
    chosen_is = sym (Answer.as_chosen u (both_when u h.a_most h.b_most) all_coded)

    chosen_taken : (by_percentages (chosen_by u)).refusal ≡ 0
    chosen_taken = rw (sym (Answer.factor_found (chosen_by u) (Answer.chosen_entered u (both_when u h.a_most h.b_most)) refl))

  pub codes_where : ((by_codes u).refusal ≡ 0) ↔ Coded u
  codes_where = (coded_when, λ h. rw (chosen_is h) (chosen_taken h))

  by_table : (values : Uncertainties) → ByTable u values → values ≡ chosen_by u
  unfolding chosen_by
  by_table values t =
      rw (
        ← t.a_entered,
        ← t.b_entered,
        ← takes_chosen t.c_chosen,
        ← takes_chosen t.d_chosen,
        ← takes_chosen t.e_chosen,
        ← takes_chosen t.g_chosen,
      )

  pub codes_table : Coded u → ByTable u (chosen_by u)
  unfolding chosen_by
  codes_table h =
      record {
        a_entered = refl;
        b_entered = refl;
        c_chosen = takes_the_chosen h.c_code;
        d_chosen = takes_the_chosen h.d_code;
        e_chosen = takes_the_chosen h.e_code;
        g_chosen = takes_the_chosen h.g_code;
      }

  module _ (values : Uncertainties) (z : (by_codes u).refusal ≡ 0) (t : ByTable u values) where
    pub codes_chosen : by_codes u ≡ by_percentages values
    codes_chosen = rw (by_table values t) (chosen_is (coded_when z))

    pub codes_well : Determined values 39 (by_codes u).factor 93
    unfolding factor_for allows squares_of chosen_by
    codes_well =
        let h = coded_when z in
        let from = Laws.squares_rise (chosen_by lowest) (chosen_by u) (chosen_less lowest u (coded_at 0 1 zero-le (inl refl)) h (least_coded h)) in
        let to = Laws.squares_rise (chosen_by u) (chosen_by highest) (chosen_less u highest h (coded_at 100 2 (le_refl 100) (inr refl)) (most_coded h)) in
        rw (by_table values t, chosen_is h, factor_is (chosen_by u) (chosen_taken h)) (determined (chosen_by u) (squares_of (chosen_by lowest)) (squares_of (chosen_by highest)) from to (lit< tt))

-- More uncertainty: a refused call has the factor 0, and where the larger call is accepted, so is the smaller.
at_most_follows : (u u' u'' : Uncertainties) → AtMost u u' → AtMost u' u'' → AtMost u u''
at_most_follows u u' u'' h k =
    record {
      most_a = le_trans h.most_a k.most_a;
      most_b = le_trans h.most_b k.most_b;
      most_c = le_trans h.most_c k.most_c;
      most_d = le_trans h.most_d k.most_d;
      most_e = le_trans h.most_e k.most_e;
      most_g = le_trans h.most_g k.most_g;
    }

pub factor_falls : (u u' : Uncertainties) → AtMost u u' → (by_percentages u').factor ≤ (by_percentages u).factor
factor_falls u u' h =
    elim (ℕ_discrete (by_percentages u').refusal 0) [
      | yes z ↦ let smaller = (factor_where u).1 (at_most_follows u u' all_full h ((factor_where u').0 z)) in
          rw (factor_is u' z, factor_is u smaller) (Laws.falls_as_s_rises (squares_of u) (squares_of u') (Laws.squares_rise u u' h))
      | no z ↦ rw (factor_18 u' (λ h. z ((factor_where u').1 h))) zero-le
    ]

-- A call by codes that is not accepted has the factor 0, by whichever refusal.
none_coded : (u : Uncertainties) → ((by_codes u).refusal ≡ 0 → ⊥) → (by_codes u).factor ≡ 0
none_coded u z = by_test (both_entered u) refl
  where
    by_test : (t : Bool) → both_entered u ≡ t → (by_codes u).factor ≡ 0
    by_test true t = let both = both_most u t in rw (codes_19 u both.0 both.1 (λ h. z ((codes_where u).1 h)))
    by_test false t = rw (sym (Answer.entered_over u t))

pub codes_fall : (u u' : Uncertainties) → (by_codes u).refusal ≡ 0 → AtMost u u' → (by_codes u').factor ≤ (by_codes u).factor
codes_fall u u' z h =
    elim (ℕ_discrete (by_codes u').refusal 0) [
      | yes z' ↦ let k = coded_when u z in
          let k' = coded_when u' z' in
          rw (chosen_is u k, chosen_is u' k') (factor_falls (chosen_by u) (chosen_by u') (chosen_less u u' k k' h))
      | no z' ↦ rw (none_coded u' z') zero-le
    ]

pub factor_86 : by_percentages (entering 10 10 5 0 0 5) ≡ record { refusal = 0; factor = 86 }
unfolding by_percentages percentage_faults are_percentages factor_for allows squares_of
factor_86 = refl
