-- What is remembered stays sound, and after an accepted monthly record it is that record's own. Of a record only bytes 0 to 11 matter to it.
use mathlib.Core.Path.{◌≡◌, refl, sym, ap, ◌∙◌}
use mathlib.Core.Bool.{Bool, true, false, cond, ◌&&◌, and-false, true≢false}
use mathlib.Core.List.{List}
use Prim.Native.Nat.{ℕ, ◌+◌, ◌%◌, ◌≤◌}
use native.Mathlib.Decide.{ℕ_discrete}
use native.Mathlib.Omega.{arith}
use borrow.Author.Tests.{eq-eqb, ne_eqb, eqb-true, eqb-false, leb-true, lt-ltb, le-ltb}
use lib.Dec.{eqb, ltb, lit<}
use Rattle.numbers.proofs.Eight.{three_true, all_true}
use Rattle.waste.specs.Waste.{is_class}
use Rattle.record.specs.Fields.{kind_of, factor_of, captured_of, class_of, factors_of}
use Rattle.record.specs.Ranges.{is_factor, is_share, ranges, in_range}
use Rattle.record.proofs.Front.{SameFront}
use Rattle.waste.specs.Kind.{is_monthly}
use Rattle.year_factors.specs.YearFactors.{year_of, no_year, months, begins_year, repeats, shares, remembered, year_in_range, nothing_kept, sound_year}
use Rattle.year_factors.specs.declared.YearFactors.{YearFactors}

-- A record whose factors are in range has a year in range.
own_in_range : (bytes : List ℕ) → in_range (factors_of bytes) ≡ true → is_class (class_of bytes) ≡ true → year_in_range (year_of bytes) ≡ true
unfolding in_range factors_of year_of
own_in_range bytes e c =
    let p = all_true (ranges (factors_of bytes)) e in
    simp (p.0, p.1.1.1.1.1.0, c)

-- What is remembered has at most so much captured.
pub captured_most : (n kind : ℕ) (year : YearFactors) → sound_year n kind year ≡ true → year.captured ≤ 10000
unfolding sound_year
captured_most n kind year = by (ltb 0 n && is_monthly kind)
  where
    by : (b : Bool) → cond b (year_in_range year) (nothing_kept year) ≡ true → year.captured ≤ 10000
    by true e = leb-true year.captured 10000 (three_true (is_factor year.factor) (is_share year.captured) (is_class year.class) e).1.0
    by false e = omega (arith, eqb-true year.captured 0 (three_true (eqb year.factor 0) (eqb year.captured 0) (eqb year.class 0) e).1.0)

-- A ledger that is not monthly remembers nothing.
pub nothing_kept_lem : (n kind : ℕ) (year : YearFactors) → sound_year n kind year ≡ true → is_monthly kind ≡ false → year ≡ no_year
unfolding sound_year no_year
nothing_kept_lem n kind year e m =
    let p = three_true (eqb year.factor 0) (eqb year.captured 0) (eqb year.class 0) (simp (m, and-false (ltb 0 n)) at e) in
    λ i. record {
      factor = eqb-true year.factor 0 p.0 i;
      captured = eqb-true year.captured 0 p.1.0 i;
      class = eqb-true year.class 0 p.1.1 i;
    }

module _ (n : ℕ) (year : YearFactors) (bytes : List ℕ) where
  pub year_stays : (kind : ℕ) → sound_year n kind year ≡ true → ((n ≡ 0 → ⊥) → kind_of bytes ≡ kind)
      → in_range (factors_of bytes) ≡ true → is_class (class_of bytes) ≡ true → sound_year (n + 1) (kind_of bytes) (remembered n year bytes) ≡ true
  unfolding sound_year remembered
  year_stays kind s same e c = by (is_monthly (kind_of bytes)) refl (begins_year n) refl
    where
      by : (m : Bool) → is_monthly (kind_of bytes) ≡ m → (b : Bool) → begins_year n ≡ b → sound_year (n + 1) (kind_of bytes) (remembered n year bytes) ≡ true
      by true m true b = simp (lt-ltb 0 (n + 1) (omega arith), m, b) (own_in_range bytes e c)
      by true m false b =
          let some : n ≡ 0 → ⊥ = λ z. eqb-false (n % months) 0 b (omega (arith, z)) in
          let k : is_monthly kind ≡ true = ap is_monthly (sym (same some)) ∙ m in
          simp (lt-ltb 0 (n + 1) (omega arith), m, b) (simp (lt-ltb 0 n (omega (arith, some)), k) at s)
      by false m b' b =
          elim (ℕ_discrete n 0) [
            | yes z ↦ simp (lt-ltb 0 (n + 1) (omega arith), m) (simp (le-ltb 0 n (omega (arith, z))) at s)
            | no some ↦
                let k : is_monthly kind ≡ false = ap is_monthly (sym (same some)) ∙ m in
                simp (lt-ltb 0 (n + 1) (omega arith), m) (simp (lt-ltb 0 n (omega (arith, some)), k) at s)
          ]

  -- A record that repeats a year has that year.
  pub repeated : repeats year bytes ≡ true → year_of bytes ≡ year
  unfolding year_of
  repeated e =
      let p = three_true (eqb (factor_of bytes) year.factor) (eqb (captured_of bytes) year.captured) (eqb (class_of bytes) year.class) e in
      λ i. record {
        factor = eqb-true (factor_of bytes) year.factor p.0 i;
        captured = eqb-true (captured_of bytes) year.captured p.1.0 i;
        class = eqb-true (class_of bytes) year.class p.1.1 i;
      }

  pub remembers_own : is_monthly (kind_of bytes) ≡ true → shares n year bytes ≡ true → remembered n year bytes ≡ year_of bytes
  unfolding shares remembered
  remembers_own m s = by (begins_year n) refl
    where
      by : (b : Bool) → begins_year n ≡ b → remembered n year bytes ≡ year_of bytes
      by true b = simp (m, b)
      by false b = simp (m, b) (sym (repeated (simp (m, b) at s)))

  -- A record that does not share is a month in the middle of a year, with another year than its own.
  pub unshared : shares n year bytes ≡ false → (kind_of bytes ≡ 2) × ((n % months ≡ 0 → ⊥) × (year_of bytes ≡ year → ⊥))
  unfolding shares year_of
  unshared e = by (is_monthly (kind_of bytes)) refl (begins_year n) refl
    where
      by : (m : Bool) → is_monthly (kind_of bytes) ≡ m → (b : Bool) → begins_year n ≡ b → (kind_of bytes ≡ 2) × ((n % months ≡ 0 → ⊥) × (year_of bytes ≡ year → ⊥))
      by true m true b = absurd (true≢false (simp (m, b) at e))
      by true m false b =
          let unlike : year_of bytes ≡ year → ⊥
          = λ same. true≢false (simp (
            m,
            b,
            eq-eqb (factor_of bytes) year.factor (ap (λ (y : YearFactors). y.factor) same),
            eq-eqb (captured_of bytes) year.captured (ap (λ (y : YearFactors). y.captured) same),
            eq-eqb (class_of bytes) year.class (ap (λ (y : YearFactors). y.class) same),
          ) at e) in
          (eqb-true (kind_of bytes) 2 m, (eqb-false (n % months) 0 b, unlike))
      by false m b' b = absurd (true≢false (simp m at e))

  -- And such a record does not share.
  pub not_shared : kind_of bytes ≡ 2 → (n % months ≡ 0 → ⊥) → (year_of bytes ≡ year → ⊥) → shares n year bytes ≡ false
  unfolding shares
  not_shared month mid unlike = simp (eq-eqb (kind_of bytes) 2 month, ne_eqb (n % months) 0 mid) (by (repeats year bytes) refl)
    where
      by : (b : Bool) → repeats year bytes ≡ b → repeats year bytes ≡ false
      by true e = absurd (unlike (repeated e))
      by false e = e

-- Two records that have the same bytes 0 to 11 share a year alike, and are remembered alike.
module _ (one other : List ℕ) (byte : SameFront one other) (n : ℕ) (year : YearFactors) where
  pub shares_alike : shares n year one ≡ shares n year other
  unfolding shares
  shares_alike = rw (byte 2 (lit< tt), byte 4 (lit< tt), byte 8 (lit< tt), byte 10 (lit< tt), byte 11 (lit< tt))

  pub remembered_alike : remembered n year one ≡ remembered n year other
  unfolding remembered year_of
  remembered_alike = rw (byte 2 (lit< tt), byte 4 (lit< tt), byte 8 (lit< tt), byte 10 (lit< tt), byte 11 (lit< tt))
