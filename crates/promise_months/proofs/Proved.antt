-- What request c claims, proved.
use native.Mathlib.Omega.{arith}
use Rattle.promise_three.specs.Offering.{offering}
use Rattle.promise_three.proofs.OneByOne.{one_by_one}
use Rattle.promise_months.specs.Promise.{MonthsPromise}
use Rattle.promise_months.proofs.Months.{months_share, only_17, always_17, year_kept}

pub months_promise : MonthsPromise
months_promise =
    record {
      months_share = λ offers. months_share (offering offers) (one_by_one offers);
      only_17 = only_17;
      yearly_not_17 = λ l bytes room e r. omega (arith, (only_17 l bytes room r).by_month, e);
      always_17 = always_17;
      year_kept = year_kept;
    }
