-- What request h claims, proved. The two numbers and the place of inert waste are held to the page here.
use native.Mathlib.Omega.{arith}
use borrow.Author.Tests.{eqb-true}
use Rattle.promise_work.specs.Promise.{WorkPromise}
use Rattle.promise_work.proofs.Work.{work_counted, seven_a_record, most_in_a_run, type_6_none, by_masses, masses_decide, by_releases}

pub work_promise : WorkPromise
work_promise =
    record {
      work_counted = work_counted;
      seven_a_record = λ l file out i b. omega (arith, seven_a_record l file out i b);
      most_in_a_run = λ l file out. omega (arith, most_in_a_run l file out);
      inert_none = λ l bytes out t e is. type_6_none l bytes out e t (omega (arith, eqb-true));
      by_masses = by_masses;
      masses_decide = masses_decide;
      by_releases = by_releases;
    }
