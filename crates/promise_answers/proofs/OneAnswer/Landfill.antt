-- The entries that C calls.
use Rattle.landfill.proofs.landfill_entry.Reads as entry
use Rattle.landfill.proofs.landfill_fresh.Reads as fresh
use Rattle.landfill.proofs.landfill_take.Reads as take
use Rattle.landfill.proofs.landfill_run.Reads as run
use Rattle.landfill.proofs.landfill_totals.Reads as totals
use Rattle.landfill.proofs.landfill_cell.Reads as cell
use Rattle.landfill.proofs.landfill_masses.Reads as masses
use Rattle.landfill.proofs.landfill_factor.Reads as factor
use Rattle.landfill.proofs.landfill_factor_by_codes.Reads as factor-by-codes
use Rattle.landfill.proofs.landfill_repair.Reads as repair
use Rattle.landfill.proofs.landfill_tunisia.Reads as tunisia
use Rattle.landfill.proofs.landfill_columns.Reads as columns
use Rattle.landfill.proofs.landfill_take_month.Reads as take-month
use Rattle.landfill.proofs.landfill_run_months.Reads as run-months
use Rattle.landfill.proofs.landfill_point.Reads as point
use Rattle.by_type.specs.Columns.{nine}
use Rattle.landfill.proofs.landfill_listing.Reads as listing
use Rattle.promise_answers.proofs.OneAnswer.{OneAnswer, Settled, by_equation, ◌&◌, both}

pub landfill_entry_one : OneAnswer entry.Learnt
landfill_entry_one = by_equation (λ κs a r s p. p)

pub landfill_fresh_one : Settled fresh.Learnt (λ κs r s. r & s.0.now)
landfill_fresh_one = by_equation (λ κs a r s p. both p.0 p.1)

pub landfill_take_one : Settled take.Learnt (λ κs r s. r & s.0.now & s.1.1.0.now & s.1.1.1.0.now)
landfill_take_one = by_equation (λ κs a r s p. both p.0 (both p.1.0 (both p.1.1.0 p.1.1.1)))

pub landfill_run_one : Settled run.Learnt (λ κs r s. r & s.0.now & s.1.1.0.now & s.1.1.1.0.now & s.1.1.1.1.0.now)
landfill_run_one = by_equation (λ κs a r s p. both p.0 (both p.1.0 (both p.1.1.0 (both p.1.1.1.0 p.1.1.1.1))))

pub landfill_totals_one : Settled totals.Learnt (λ κs r s. r & s.1.0.now & s.1.1.0.now & s.1.1.1.0.now)
landfill_totals_one = by_equation (λ κs a r s p. both p.0 (both p.1.0 (both p.1.1.0 p.1.1.1)))

pub landfill_cell_one : Settled cell.Learnt (λ κs r s. r & s.1.1.0.now)
landfill_cell_one = by_equation (λ κs a r s p. both p.0 p.1)

pub landfill_masses_one : Settled masses.Learnt (λ κs r s. r & s.1.1.1.0.now)
landfill_masses_one = by_equation (λ κs a r s p. both p.0 p.1)

pub landfill_factor_one : Settled factor.Learnt (λ κs r s. r & s.1.1.1.1.1.1.0.now)
landfill_factor_one = by_equation (λ κs a r s p. both p.0 p.1)

pub landfill_factor_by_codes_one : Settled factor-by-codes.Learnt (λ κs r s. r & s.1.1.1.1.1.1.0.now)
landfill_factor_by_codes_one = by_equation (λ κs a r s p. both p.0 p.1)

pub landfill_repair_one : Settled repair.Learnt (λ κs r s. r & s.1.1.0.now & s.1.1.1.0.now & s.1.1.1.1.0.now)
landfill_repair_one = by_equation (λ κs a r s p. both p.0 (both p.1.0 (both p.1.1.0 p.1.1.1)))

-- file, first, last, electricity and fuel, and then the six numbers that are written
pub landfill_tunisia_one : Settled tunisia.Learnt (λ κs r s. let w = s.1.1.1.1.1 in
    r & w.0.now & w.1.0.now & w.1.1.0.now & w.1.1.1.0.now & w.1.1.1.1.0.now & w.1.1.1.1.1.0.now)
landfill_tunisia_one =
    by_equation (λ κs a r s p. let q = p.1.1 in
    both p.0 (both p.1.0 (both q.0 (both q.1.0 (both q.1.1.0 (both q.1.1.1.0 q.1.1.1.1))))))

-- file, the nine columns and the stocks
pub landfill_columns_one : Settled columns.Learnt (λ κs r s. r & nine s.1.0.now s.1.1.0.now s.1.1.1.0.now s.1.1.1.1.0.now s.1.1.1.1.1.0.now s.1.1.1.1.1.1.0.now s.1.1.1.1.1.1.1.0.now s.1.1.1.1.1.1.1.1.0.now s.1.1.1.1.1.1.1.1.1.0.now & s.1.1.1.1.1.1.1.1.1.1.0.now)
landfill_columns_one = by_equation (λ κs a r s p. both p.0 (both p.1.0 p.1.1))

-- ledger, totals, record, output and answer
pub landfill_take_month_one : Settled take-month.Learnt (λ κs r s. r & s.0.now & s.1.0.now & s.1.1.1.0.now & s.1.1.1.1.0.now)
landfill_take_month_one = by_equation (λ κs a r s p. both p.0 (both p.1.0 (both p.1.1.0 (both p.1.1.1.0 p.1.1.1.1))))

-- ledger, totals, records, output, and the two numbers that are written
pub landfill_run_months_one : Settled run-months.Learnt (λ κs r s. r & s.0.now & s.1.0.now & s.1.1.1.0.now & s.1.1.1.1.0.now & s.1.1.1.1.1.0.now)
landfill_run_months_one = by_equation (λ κs a r s p. both p.0 (both p.1.0 (both p.1.1.0 (both p.1.1.1.0 (both p.1.1.1.1.0 p.1.1.1.1.1)))))

pub landfill_point_one : Settled point.Learnt (λ κs r s. r & s.1.1.0.now & s.1.1.1.0.now & s.1.1.1.1.0.now)
landfill_point_one = by_equation (λ κs a r s p. both p.0 (both p.1.0 (both p.1.1.0 p.1.1.1)))

pub landfill_listing_one : Settled listing.Learnt (λ κs r s. r & s.1.0.now & s.1.1.0.now)
landfill_listing_one = by_equation (λ κs a r s p. both p.0 (both p.1.0 p.1.1))
