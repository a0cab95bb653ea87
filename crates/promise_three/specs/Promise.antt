-- Demand 3, with what request b of document 02 adds. proofs/Proved.antt proves `ThreePromise`.
use Rattle.std.specs.Prelude.{◌≡◌, ◌↔◌, List, ℕ, ◌+◌, ◌*◌, ◌^◌, ◌≤◌, ◌<◌}
use Rattle.numbers.specs.Fraction.{over}
use Rattle.numbers.specs.Lists.{added}
use Rattle.decay.specs.Series.{StandsFor}
use Rattle.ledger.specs.Take.{total_released}
use Rattle.run.specs.History.{Offer, Turn}
use Rattle.promise_three.specs.Offering.{offering}
use Rattle.promise_three.specs.DemandThree.{DemandThree}

pub record ThreePromise : Type 0 where
  -- 'Start a fresh ledger and offer any list of records, passing over refused ones.'
  pub demand_three : (offers : List Offer) → DemandThree (offering offers)
  -- 'A decay fraction is any whole number over any whole number above 0': an entry D stands for p / q exactly where
  -- D / 10^9 ≤ p / q < (D + 1) / 10^9, with the denominators multiplied out.
  pub any_fraction : (D p q : ℕ) (above : 0 < q) → StandsFor D (over p q above) ↔ ((D * q ≤ 10 ^ 9 * p) × (10 ^ 9 * p < (D + 1) * q))
  -- Document 02, request b, 'without adding up old files': what all types have released so far is the x0 of the accepted records, which
  -- stand in their output records, added.
  pub released_total : (offers : List Offer) → total_released (offering offers).ledger ≡ added (λ (turn : Turn). turn.answer.x0) (offering offers).accepted
