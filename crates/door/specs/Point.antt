-- Document 01, "The spreadsheet door", its second paragraph: the points of a chart.
use Rattle.std.specs.Prelude.{ℕ, ◌+◌, ◌-◌, cond, leb, pos, Float, Result, Ok, Err}
use Rattle.std.specs.Float.{binary64}
use Rattle.std.specs.Float.Ieee.{of_int}
use Rattle.door.specs.declared.point.EdgeTooHigh.{EdgeTooHigh}
use Rattle.door.specs.declared.point.Point.{Point}

-- Two to the 53, the highest edge.
abbrev pub exact : ℕ
exact = 9007199254740992

-- The 64-bit float of a whole number, which up to two to the 53 equals it exactly.
abbrev pub float_of : ℕ → Float
float_of n = of_int binary64 (pos n)

-- Figure, low edge (figure − bound, or 0 where the bound is larger, as ℕ subtracts) and high edge (figure + bound).
abbrev pub point_of : ℕ → ℕ → Point
point_of figure bound = record { figure = float_of figure; low = float_of (figure - bound); high = float_of (figure + bound) }

-- An answer in numbers: the point with refusal 0, or the refusal's number with a point that is all 0.
pub record Charted : Type 0 where
  pub point : Point
  pub refusal : ℕ

-- If the true sum is above 9,007,199,254,740,992 the point is refused with 13 and all three are 0.
abbrev pub charted_of : ℕ → ℕ → Charted
charted_of figure bound =
    cond (leb (figure + bound) exact)
    (record { point = point_of figure bound; refusal = 0 })
    (record { point = point_of 0 0; refusal = 13 })

-- The number of the refusal, and the numbers of each case of the answer.
abbrev pub edge_refusal : ℕ
edge_refusal = 13

abbrev pub charted_as : Result Point EdgeTooHigh → Charted
charted_as (Ok point) = record { point = point; refusal = 0 }
charted_as (Err why) = record { point = point_of 0 0; refusal = edge_refusal }
