-- The public functions of `door`.
use Rattle.door.proofs.cell.CellRefusal.number.Reads as cell_number
use Rattle.door.proofs.weigh.Reads as weigh
use Rattle.door.proofs.point.EdgeTooHigh.number.Reads as edge_number
use Rattle.door.proofs.chart.Reads as chart
use Rattle.door.proofs.Cells.{one_mass}
use Rattle.door.proofs.Points.{one_point}
use Rattle.promise_answers.proofs.OneAnswer.{OneAnswer, by_equation}

pub cell_number_one : OneAnswer cell_number.Learnt
cell_number_one = by_equation (λ κs a r s p. p)

pub weigh_one : OneAnswer weigh.Learnt
weigh_one κs a r r' s s' p q = one_mass a.0 r r' p q

pub edge_number_one : OneAnswer edge_number.Learnt
edge_number_one = by_equation (λ κs a r s p. p)

pub chart_one : OneAnswer chart.Learnt
chart_one κs a r r' s s' p q = one_point _ r r' p q
