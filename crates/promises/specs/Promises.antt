-- What is promised: the demand, or the request of document 02, and the record that states it, sentence by sentence, in specs/Promise.antt of
-- its crate. proofs/Proved.antt proves `Promises`. That each public function has one answer is in promise_answers.
use Rattle.promise_three.specs.Promise.{ThreePromise}
use Rattle.promise_run.specs.Promise.{RunPromise}
use Rattle.promise_listing.specs.Promise.{ListingPromise}
use Rattle.promise_site.specs.Promise.{SitePromise}
use Rattle.promise_worked.specs.Promise.{WorkedPromise}
use Rattle.promise_samples.specs.Promise.{SamplesPromise}
use Rattle.promise_months.specs.Promise.{MonthsPromise}
use Rattle.promise_uncertainty.specs.Promise.{UncertaintyPromise}
use Rattle.promise_sludge.specs.Promise.{SludgePromise}
use Rattle.promise_order.specs.Promise.{OrderPromise}
use Rattle.promise_work.specs.Promise.{WorkPromise}
use Rattle.promise_tunisia.specs.Promise.{TunisiaPromise}
use Rattle.promise_columns.specs.Promise.{ColumnsPromise}
use Rattle.promise_more.specs.Promise.{MorePromise}
use Rattle.promise_totals.specs.Promise.{TotalsPromise}

pub record Promises : Type 0 where
  -- Demand 3, and request b of document 02: released carbon.
  pub carbon_kept : ThreePromise
  -- Document 01, 'What the contracts have to decide': a whole run.
  pub whole_runs : RunPromise
  -- Document 01, 'One step' and 'Worked figures': output records and the listing.
  pub listings : ListingPromise
  -- Demand 3, over the entries that C calls: a site kept from call to call.
  pub kept_sites : SitePromise
  -- Document 01, 'Worked figures': P1 to P10.
  pub worked_table : WorkedPromise
  -- Document 02, request a: masses from sorting samples.
  pub sorted_samples : SamplesPromise
  -- Document 02, request c: months of one year share the year's factors.
  pub shared_factors : MonthsPromise
  -- Document 02, request d: the correction factor from uncertainties.
  pub factor_from_uncertainties : UncertaintyPromise
  -- Document 02, request f: sludge with a measured dry matter.
  pub measured_sludge : SludgePromise
  -- Document 02, request g: shuffled files put right.
  pub shuffled_files : OrderPromise
  -- Document 02, request h: how much decay work a run did.
  pub decay_work : WorkPromise
  -- Document 02, request i: the Tunisian reference method.
  pub tunisian_reductions : TunisiaPromise
  -- Document 02, request j: a column-by-column calculation.
  pub columns_of_types : ColumnsPromise
  -- Document 02, request k: more waste never shows less gas.
  pub more_waste : MorePromise
  -- Document 02, request l: yearly totals beside a monthly run.
  pub yearly_totals : TotalsPromise
