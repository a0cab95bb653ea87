-- The worked figures, proved.
use Rattle.promise_worked.specs.Promise.{WorkedPromise}
use Rattle.promise_worked.proofs.Worked.{worked}

pub worked_promise : WorkedPromise
worked_promise = record { worked_figures = worked }
