-- What is promised of a whole run, proved.
use Rattle.promise_run.specs.Promise.{RunPromise}
use Rattle.promise_run.proofs.WholeRun.{whole_run_lem}
use Rattle.promise_run.proofs.OneRun.{one_run_lem}

pub run_promise : RunPromise
run_promise = record { whole_run_lem = whole_run_lem; one_run_lem = one_run_lem }
