-- Document 01, 'Worked figures'. proofs/Proved.antt proves `WorkedPromise`.
use Rattle.std.specs.Prelude.{◌≡◌, true, map}
use Rattle.numbers.specs.Eight.{all_of}
use Rattle.promise_worked.specs.Worked.{rows, holds}

pub record WorkedPromise : Type 0 where
  -- 'P1 to P10 are one table proved with a single statement from the definitions'
  pub worked_figures : all_of (map holds rows) ≡ true
