-- What request a claims, proved.
use Rattle.samples.proofs.Answer.{nothing_sorted}
use Rattle.promise_samples.specs.Promise.{SamplesPromise}
use Rattle.promise_samples.proofs.Sorting.{sorted_where, sorted_well, sorted_light}

pub samples_promise : SamplesPromise
samples_promise = record { sorted_where = sorted_where; sorted_well = sorted_well; sorted_none = nothing_sorted; sorted_light = sorted_light }
