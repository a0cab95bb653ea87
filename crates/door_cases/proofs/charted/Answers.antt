-- What `chart` answers are numbers, so each has its bits.
use Rattle.door_cases.proofs.Floats.{AreNumbers, chart_numbers}
use Rattle.door.specs.Point.{Charted, charted_of}
use Rattle.std.proofs.Common.{◌≡◌, ℕ}
use Rattle.door_cases.proofs.charted.Goals as goal

numbers : {answer : Charted} (figure bound : ℕ) → answer ≡ charted_of figure bound → AreNumbers answer.point
numbers figure bound e = rw e (chart_numbers figure bound)

pub float_to_bits-figure : goal.float_to_bits-figure
float_to_bits-figure g c = (numbers _ _ c.in-Ok.ensures).figure

pub float_to_bits-low : goal.float_to_bits-low
float_to_bits-low g c = (numbers _ _ c.in-Ok.ensures).low

pub float_to_bits-high : goal.float_to_bits-high
float_to_bits-high g c = (numbers _ _ c.in-Ok.ensures).high
