-- The promises, proved.
use Rattle.promises.specs.Promises.{Promises}
use Rattle.promise_three.proofs.Proved.{three_promise}
use Rattle.promise_run.proofs.Proved.{run_promise}
use Rattle.promise_listing.proofs.Proved.{listing_promise}
use Rattle.promise_site.proofs.Proved.{site_promise}
use Rattle.promise_worked.proofs.Proved.{worked_promise}
use Rattle.promise_samples.proofs.Proved.{samples_promise}
use Rattle.promise_months.proofs.Proved.{months_promise}
use Rattle.promise_uncertainty.proofs.Proved.{uncertainty_promise}
use Rattle.promise_sludge.proofs.Proved.{sludge_promise}
use Rattle.promise_order.proofs.Proved.{order_promise}
use Rattle.promise_work.proofs.Proved.{work_promise}
use Rattle.promise_tunisia.proofs.Proved.{tunisia_promise}
use Rattle.promise_columns.proofs.Proved.{columns_promise}
use Rattle.promise_more.proofs.Proved.{more_promise}
use Rattle.promise_totals.proofs.Proved.{totals_promise}

pub promises : Promises
promises =
    record {
      carbon_kept = three_promise;
      whole_runs = run_promise;
      listings = listing_promise;
      kept_sites = site_promise;
      worked_table = worked_promise;
      sorted_samples = samples_promise;
      shared_factors = months_promise;
      factor_from_uncertainties = uncertainty_promise;
      measured_sludge = sludge_promise;
      shuffled_files = order_promise;
      decay_work = work_promise;
      tunisian_reductions = tunisia_promise;
      columns_of_types = columns_promise;
      more_waste = more_promise;
      yearly_totals = totals_promise;
    }
