-- Laws of a year and of the years of a stretch: how large its figures and bounds can be, with what they grow, and one year more at the end.
use mathlib.Core.Path.{◌≡◌, refl, ap, ◌∙◌}
use mathlib.Core.Bool.{Bool, true, false, cond}
use mathlib.Core.List.{List, [], ◌∷◌, ◌++◌}
use Prim.Native.Nat.{ℕ, ◌+◌, ◌-◌, ◌*◌, ◌/◌, ◌^◌, ◌≤◌}
use native.Mathlib.Nat.{mul-le-mul_right}
use native.Mathlib.Omega.{arith}
use Rattle.numbers.specs.Fault.{between}
use Rattle.numbers.proofs.Lists.{added_more}
use Rattle.waste.specs.Waste.{correction_of}
use Rattle.record.specs.Ranges.{in_range}
use Rattle.record.specs.declared.factors.Factors.{Factors}
use Rattle.record.proofs.Laws.{ranged}
use Rattle.figure.specs.Figure.{x1_of, x2_of, grams_of, figure_of}
use Rattle.figure.proofs.Laws.{figure_most, bound_half}
use Rattle.figure.proofs.Grows.{figure_grows, bound_grows}
use Rattle.reductions.specs.Year.{Year, in_class, reference_of, project_of, project_bound, reference_bound, bounds_of, stretch_of, sums_of, with_year}

pub stretch_more : (first last : ℕ) (years : List Year) (year : Year)
    → stretch_of first last (years ++ (year ∷ [])) ≡ cond (between first year.number last) (stretch_of first last years ++ (year ∷ [])) (stretch_of first last years)
unfolding stretch_of
stretch_more first last [] year = refl
stretch_more first last (one ∷ years) year =
    ap (λ (ys : List Year). cond (between first one.number last) (one ∷ ys) ys) (stretch_more first last years year)
    ∙ both (between first one.number last) (between first year.number last)
  where
    both : (a b : Bool) → let ys = stretch_of first last years in
        cond a (one ∷ cond b (ys ++ (year ∷ [])) ys) (cond b (ys ++ (year ∷ [])) ys) ≡ cond b (cond a (one ∷ ys) ys ++ (year ∷ [])) (cond a (one ∷ ys) ys)
    both true true = refl
    both true false = refl
    both false true = refl
    both false false = refl

pub sums_more : (test : Bool) (stretch : List Year) (year : Year)
    → sums_of (cond test (stretch ++ (year ∷ [])) stretch) ≡ cond test (with_year (sums_of stretch) year) (sums_of stretch)
unfolding sums_of with_year
sums_more true stretch year =
    λ i. record {
      reference = added_more reference_of stretch year i;
      project = added_more project_of stretch year i;
      bound = added_more bounds_of stretch year i;
    }
sums_more false stretch year = refl

-- The class has no range of its own.
pub in_class_lem : (v : Factors) (class : ℕ) → in_range v ≡ true → in_range (in_class class v) ≡ true
unfolding in_range in_class
in_class_lem v class e = e

-- How much a year adds: figures of at most 2/15 of x0, and bounds of at most B and 7 together.
module _ (year : Year) (e : in_range year.factors ≡ true) where
  pub reference_most : reference_of year + reference_of year ≤ year.release
  unfolding reference_of
  reference_most = omega (arith, figure_most (in_class 1 year.factors) year.release (in_class_lem year.factors 1 e))

  pub project_most : project_of year + project_of year ≤ year.release
  unfolding project_of
  project_most = omega (arith, figure_most (in_class 2 year.factors) year.release (in_class_lem year.factors 2 e))

  pub bounds_most : bounds_of year ≤ year.B + 7
  unfolding bounds_of reference_bound project_bound
  bounds_most = omega (arith, bound_half year.factors year.B e)

-- With the same factors, figures do not fall where the release grows, nor bounds where B grows.
module _ (year year' : Year) (same : year.factors ≡ year'.factors) where
  pub reference_grows : year.release ≤ year'.release → reference_of year ≤ reference_of year'
  unfolding reference_of
  reference_grows h = rw same (omega (arith, figure_grows (in_class 1 year'.factors) year.release year'.release h))

  pub project_grows : year.release ≤ year'.release → project_of year ≤ project_of year'
  unfolding project_of
  project_grows h = rw same (figure_grows (in_class 2 year'.factors) year.release year'.release h)

  pub bounds_grow : year.B ≤ year'.B → (project_bound year ≤ project_bound year') × (reference_bound year ≤ reference_bound year')
  unfolding reference_bound project_bound
  bounds_grow h = let grown = bound_grows year'.factors year.B year'.B h in rw same (grown, omega (arith, grown))

-- Half the correction gives half the figure, but for 2 g: on u, the product of what both chains have before the site class, at a GWP of W.
module _ (u W : ℕ) where
  abbrev whole : ℕ
  whole = u * 100 / 10 ^ 8 * 4 * W / 3000

  abbrev half : ℕ
  half = u * 50 / 10 ^ 8 * 4 * W / 3000

  half_most : half + half ≤ whole
  half_most =
      let twice : u * 50 / 10 ^ 8 + u * 50 / 10 ^ 8 ≤ u * 100 / 10 ^ 8 = omega arith in
      omega (arith, mul-le-mul_right (4 * W) twice)

  half_least : W ≤ 100 → whole ≤ half + half + 2
  half_least few =
      let twice : u * 100 / 10 ^ 8 ≤ u * 50 / 10 ^ 8 + u * 50 / 10 ^ 8 + 1 = omega arith in
      omega (arith, mul-le-mul_right (4 * W) twice)

-- So no reference is below its project, and it is above by at most 23/100 of the anaerobic figure and a gram.
module _ (year : Year) where
  abbrev v : Factors
  v = year.factors

  abbrev u : ℕ
  u = year.release * v.factor * (10000 - v.captured) / 10 ^ 6 * (100 - v.oxidation) * v.methane * v.docf

  pub project_below : project_of year ≤ reference_of year
  unfolding project_of reference_of figure_of grams_of x2_of x1_of in_class correction_of
  project_below = omega (arith, half_most u v.potential)

  pub apart_most : in_range v ≡ true → 1500 * reference_of year ≤ 1500 * project_of year + 46 * year.release + 1500
  unfolding project_of reference_of figure_of grams_of x2_of x1_of in_class correction_of
  apart_most e = omega (arith, half_least u v.potential (ranged v e).potential, figure_most (in_class 1 v) year.release (in_class_lem v 1 e))
