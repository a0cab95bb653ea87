-- What holds of every point.
use mathlib.Core.Path.{◌≡◌, refl, sym, ap, ◌∙◌}
use mathlib.Core.Bool.{Bool, true, false, cond}
use Prim.Native.Nat.{ℕ, ◌+◌, ◌-◌, ◌≤◌, ◌<◌}
use native.Mathlib.Omega.{arith}
use lib.Dec.{T, eqb, leb, lit<}
use lib.Ieee.{binary64, le, of_int}
use lib.Ieee.Back.{round_whole}
use lib.Ieee.Exact.{HasValue}
use lib.Ieee.Order.{round_mono}
use borrow.Author.Tests.{le-leb, lt-leb}
use Rattle.std.proofs.Common.{Result, Ok, Err}
use Rattle.door.specs.Point.{exact, float_of, point_of, Charted, charted_of, charted_as}
use Rattle.door.specs.declared.point.EdgeTooHigh.{EdgeTooHigh}
use Rattle.door.specs.declared.point.Point.{Point}

-- The float of a whole number up to 2^53 is exactly that number: it has no minus, and is n / 1 in size.
pub float_exact : (n : ℕ) → n ≤ exact → HasValue (float_of n) false n 1
unfolding of_int
float_exact n h = round_whole binary64 false n (omega arith)

-- Each float of a point equals its whole number exactly.
pub record Exact (point : Point) (figure bound : ℕ) : Type 0 where
  pub figure_exact : HasValue point.figure false figure 1
  pub low_exact : HasValue point.low false (figure - bound) 1
  pub high_exact : HasValue point.high false (figure + bound) 1

pub point_exact : (figure bound : ℕ) → figure + bound ≤ exact → Exact (charted_of figure bound).point figure bound
point_exact figure bound h = rw (le-leb (figure + bound) exact h) (record {
  figure_exact = float_exact figure (omega arith);
  low_exact = float_exact (figure - bound) (omega arith);
  high_exact = float_exact (figure + bound) h;
})

-- The low edge is at most the figure, and the figure at most the high edge.
pub record InOrder (point : Point) : Type 0 where
  pub low_first : T (le point.low point.figure)
  pub high_last : T (le point.figure point.high)

pub edges_in_order : (figure bound : ℕ) → InOrder (charted_of figure bound).point
edges_in_order figure bound = either (leb (figure + bound) exact) _ _ (in_order figure bound) (in_order 0 0)
  where
    rises : (a b : ℕ) → a ≤ b → T (le (float_of a) (float_of b))
    rises a b h = unfold of_int in round_mono binary64 a 1 b 1 (lit< tt) (lit< tt) (omega arith)

    in_order : (figure bound : ℕ) → InOrder (point_of figure bound)
    in_order figure bound = record { low_first = rises (figure - bound) figure (omega arith); high_last = rises figure (figure + bound) (omega arith) }

    either : (b : Bool) (x y : Charted) → InOrder x.point → InOrder y.point → InOrder (cond {A = Charted} b x y).point
    either true x y p q = p
    either false x y p q = q

-- Where the point is refused, all three are 0.
pub refused_zero : (figure bound : ℕ) → exact < figure + bound → (charted_of figure bound).point ≡ point_of 0 0
refused_zero figure bound h = rw (lt-leb (figure + bound) exact h) refl

-- The case of the answer that has these numbers: so two cases with the same numbers are one.
case_of : Charted → Result Point EdgeTooHigh
case_of n = cond (eqb n.refusal 13) (Err (record {})) (Ok n.point)

same_case : (answer : Result Point EdgeTooHigh) → case_of (charted_as answer) ≡ answer
unfolding case_of
same_case (Ok point) = refl
same_case (Err why) = refl

pub one_point : (n : Charted) (a b : Result Point EdgeTooHigh) → charted_as a ≡ n → charted_as b ≡ n → a ≡ b
one_point n a b p q = sym (same_case a) ∙ ap case_of (p ∙ sym q) ∙ same_case b
