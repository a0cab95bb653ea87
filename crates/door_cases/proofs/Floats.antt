-- The three floats of a chart point are numbers: each is that of a whole number, which is never a NaN.
use mathlib.Core.Bool.{Bool, true, false, cond, not}
use Prim.Native.Nat.{ℕ, zero, suc, ◌+◌, ◌-◌, ◌*◌, ◌/◌, ◌%◌, ◌^◌, compare}
use lib.Dec.{T, leb, ltb}
use lib.Ieee.{Float, Format, prec, emax, low, binary64, size, nearest, is_nan, of_int, round, units, odd, inf}
use Rattle.door.specs.Point.{exact, float_of, point_of, Charted, charted_of}
use Rattle.door.specs.declared.point.Point.{Point}

abbrev pub IsNumber : Float → Type 0
IsNumber x = T (not (is_nan x))

pub record AreNumbers (point : Point) : Type 0 where
  pub figure : IsNumber point.figure
  pub low : IsNumber point.low
  pub high : IsNumber point.high

odd_number : (d : ℕ) (s : Bool) (q k l : ℕ) → IsNumber (odd d s q k l)
unfolding odd is_nan
odd_number d s zero k l = tt
odd_number d s (suc q) k l = tt

either_number : (b : Bool) (x y : Float) → IsNumber x → IsNumber y → IsNumber (cond b x y)
either_number true x y hx hy = hx
either_number false x y hx hy = hy

units_number : (f : Format) (s : Bool) (q k : ℕ) → IsNumber (units f s q k)
unfolding units is_nan
units_number f s q k =
    either_number (ltb (q * 2 ^ k) (2 ^ (low f + suc (emax f)))) (odd (suc (prec f)) s q k (low f)) (inf s) (odd_number (suc (prec f)) s q k (low f)) tt

round_number : (f : Format) (s : Bool) (num den : ℕ) → IsNumber (round f s num den)
unfolding round
round_number f s num den =
    let n = num * 2 ^ low f in
    let k = size (n / den) - prec f in
    let u = den * 2 ^ k in
    units_number f s (nearest (n / u) (compare (n % u * 2) u)) k

float_number : (n : ℕ) → IsNumber (float_of n)
unfolding of_int
float_number n = round_number binary64 false n 1

point_numbers : (figure bound : ℕ) → AreNumbers (point_of figure bound)
point_numbers figure bound =
    record { figure = float_number figure; low = float_number (figure - bound); high = float_number (figure + bound) }

either_chart : (b : Bool) (x y : Charted) → AreNumbers x.point → AreNumbers y.point → AreNumbers (cond b x y).point
either_chart true x y hx hy = hx
either_chart false x y hx hy = hy

pub chart_numbers : (figure bound : ℕ) → AreNumbers (charted_of figure bound).point
chart_numbers figure bound = either_chart (leb (figure + bound) exact) _ _ (point_numbers figure bound) (point_numbers 0 0)
