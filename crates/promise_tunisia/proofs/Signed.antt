-- Differences of whole numbers below and above zero, as fractions.
use mathlib.Core.Path.{◌≡◌, refl}
use mathlib.Core.Bool.{Bool, true, false, cond}
use Prim.Native.Nat.{ℕ, zero, suc, ◌+◌, ◌-◌, ◌≤◌}
use native.Mathlib.Nat.{mul-le-mul_right}
use native.Mathlib.Omega.{arith}
use borrow.Author.Tests.{ltb-true, ltb-false}
use lib.Dec.{ltb}
use lib.IntN.{ℤ, pos, negsuc, ◌-ℤ◌}
use Rattle.numbers.specs.Fraction.{Fraction, whole, negative, ◌⊕◌, ◌⊖◌, ◌≼◌, ◌≺◌, ◌≈◌, WithinBound}
use Rattle.numbers.proofs.Fraction.{below_at_most, at_most_below, same_trans, same_right, add_right}
use Rattle.reductions.specs.Stretch.{less_all}
use Rattle.promise_tunisia.specs.Exact.{signed, WithinSigned}

-- a − b of two numbers, by their order
by_order : (below : Bool) (a b : ℕ) → ltb a b ≡ below → signed (cond below (negsuc (b - suc a)) (pos (a - b))) ≈ whole a ⊖ whole b
unfolding signed
by_order true a b e = omega (arith, ltb-true a b e)
by_order false a b e = omega (arith, ltb-false a b e)

signed_less : (z : ℤ) (x : ℕ) → signed (z -ℤ pos x) ≈ signed z ⊖ whole x
unfolding signed
signed_less (pos a) zero = omega arith
signed_less (pos a) (suc x) = by_order (ltb a (suc x)) a (suc x) refl
signed_less (negsuc a) zero = omega (arith, by_order (ltb 0 (suc a)) 0 (suc a) refl)
signed_less (negsuc a) (suc x) = omega arith

whole_less : (r p : ℕ) → signed (pos r -ℤ pos p) ≈ whole r ⊖ whole p
unfolding signed
whole_less r p = signed_less (pos r) p

-- Reference less project less electricity less fuel.
module _ (r p e f : ℕ) where
  abbrev apart : Fraction
  apart = whole r ⊖ whole p ⊖ whole e ⊖ whole f

  pub signed_all : signed (less_all r p e f) ≈ apart
  unfolding less_all
  signed_all =
      let one = pos r -ℤ pos p in
      let two = one -ℤ pos e in
      same_trans (signed (two -ℤ pos f)) (signed two ⊖ whole f) apart (signed_less two f)
      (same_right (signed two) (whole r ⊖ whole p ⊖ whole e) (negative (whole f))
      (same_trans (signed two) (signed one ⊖ whole e) (whole r ⊖ whole p ⊖ whole e) (signed_less one e)
      (same_right (signed one) (whole r ⊖ whole p) (negative (whole e)) (whole_less r p))))

-- What two figures are off by is at most what both are off by together.
module _ (eR eP : Fraction) (r p rb pb : ℕ) (R : WithinBound eR r rb) (P : WithinBound eP p pb) where
  pub year_below : eR ⊖ eP ⊕ whole p ≺ whole r ⊕ whole (rb + pb)
  year_below = omega (arith, mul-le-mul_right eP.den R.exact_below, mul-le-mul_right eR.den P.figure_below, eR.pos, eP.pos)

  pub year_above : whole r ≺ eR ⊖ eP ⊕ whole p ⊕ whole (rb + pb)
  year_above = omega (arith, mul-le-mul_right eP.den R.figure_below, mul-le-mul_right eR.den P.exact_below, eR.pos, eP.pos)

-- One year more on a sum.
module _ (E D : Fraction) (r p b r' p' b' : ℕ) where
  pub sum_below : E ⊕ whole p ≼ whole r ⊕ whole b → D ⊕ whole p' ≺ whole r' ⊕ whole b' → E ⊕ D ⊕ whole (p + p') ≺ whole (r + r') ⊕ whole (b + b')
  sum_below h k = omega (arith, mul-le-mul_right D.den h, mul-le-mul_right E.den k, E.pos, D.pos)

  pub sum_above : whole r ≼ E ⊕ whole p ⊕ whole b → whole r' ≺ D ⊕ whole p' ⊕ whole b' → whole (r + r') ≺ E ⊕ D ⊕ whole (p + p') ⊕ whole (b + b')
  sum_above h k = omega (arith, mul-le-mul_right D.den h, mul-le-mul_right E.den k, E.pos, D.pos)

-- The same for the difference as one number, with electricity and fuel taken off.
pub less_within : (E : Fraction) (r p b e f : ℕ) → E ⊕ whole p ≺ whole r ⊕ whole b → whole r ≺ E ⊕ whole p ⊕ whole b
    → WithinSigned (E ⊖ whole e ⊖ whole f) (less_all r p e f) b
less_within E r p b e f below above =
    let exact = E ⊖ whole e ⊖ whole f in
    let answered = signed (less_all r p e f) in
    let same = signed_all r p e f in
    record {
      exact_below = below_at_most exact (apart r p e f ⊕ whole b) (answered ⊕ whole b) (omega (arith, below)) (add_right (apart r p e f) answered (whole b) (omega (arith, same)));
      answered_below = at_most_below answered (apart r p e f) (exact ⊕ whole b) (omega (arith, same)) (omega (arith, above));
    }

-- How large the difference is, where the project is at most the reference.
module _ (r p e f m : ℕ) where
  pub difference_most : less_all r p e f ≡ pos m → m + p ≤ r
  unfolding signed
  difference_most is = let same = rw is at (signed_all r p e f) in omega (arith, same)

  pub below_most : p ≤ r → less_all r p e f ≡ negsuc m → m + 1 ≤ e + f
  unfolding signed
  below_most h is = let same = rw is at (signed_all r p e f) in omega (arith, same)
