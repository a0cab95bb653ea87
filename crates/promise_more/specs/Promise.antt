-- Document 02, request k, 'More waste never shows less gas'. proofs/Proved.antt proves `MorePromise`.
use Rattle.std.specs.Prelude.{◌≡◌, List, [], ◌∷◌, ℕ, ◌*◌, ◌≤◌, length}
use Rattle.numbers.specs.Lists.{Each}
use Rattle.record.specs.Fields.{record_bytes}
use Rattle.ledger.specs.Step.{fresh}
use Rattle.run.specs.History.{Offer, turns, AllAccepted, records_of, run_of}
use Rattle.tunisia.specs.Years.{accepted_years, refusal_after, years_of}
use Rattle.promise_tunisia.specs.Reported.{StretchOfYears, reported}
use Rattle.promise_more.specs.More.{EqualButMasses, MoreWaste, WithinLimit, Pairs, Offered, InFiles, LightOffer, TurnNoLess}
use Rattle.promise_more.specs.Years.{YearNoLess, StretchNoLess, SameYears}
use Rattle.promise_more.specs.Example.{food_file, figures_of, second_year, answered_with}

pub record MorePromise : Type 0 where
  -- 'take two runs from fresh ledgers, of equal records but for masses, all accepted, each mass in the second at least that in the first. Then
  -- every release of every type, every stock, figure and bound in the second is at least that in the first. This holds in both kinds': of the
  -- step's answers to any offers, with any room,
  pub more_offered : (first second : List Offer) → Offered MoreWaste first second → AllAccepted (turns fresh first) → AllAccepted (turns fresh second)
      → Pairs TurnNoLess (turns fresh first) (turns fresh second)
  -- and of two files that are run to their ends.
  pub more_in_a_run : (first second : List ℕ) (room room' : ℕ) → InFiles MoreWaste first second
      → (run_of fresh (records_of first) room).refusal ≡ 0 → (run_of fresh (records_of second) room').refusal ≡ 0
      → Pairs TurnNoLess (run_of fresh (records_of first) room).accepted (run_of fresh (records_of second) room').accepted
  -- That the second is accepted need not be assumed where its masses are within the limit and its output has room; they may be less, too.
  pub still_accepted : (first second : List Offer) → Offered EqualButMasses first second → AllAccepted (turns fresh first)
      → Each (λ i offer. LightOffer offer) 1 second → AllAccepted (turns fresh second)
  pub still_accepted_in_a_run : (first second : List ℕ) (room room' : ℕ) → InFiles EqualButMasses first second → (run_of fresh (records_of first) room).refusal ≡ 0
      → Each (λ i bytes. WithinLimit bytes) 1 (records_of second) → record_bytes * length (records_of second) ≤ room' → (run_of fresh (records_of second) room').refusal ≡ 0
  -- '[..] and in the mode of i), for reference and project figures separately', with their bounds: year by year,
  pub more_by_year : (first second : List ℕ) → InFiles MoreWaste first second → refusal_after first ≡ 0 → refusal_after second ≡ 0
      → Pairs YearNoLess (years_of (accepted_years first)) (years_of (accepted_years second))
  -- where again the second file is accepted if its masses are within the limit;
  pub still_accepted_by_year : (first second : List ℕ) → InFiles EqualButMasses first second → refusal_after first ≡ 0
      → Each (λ i bytes. WithinLimit bytes) 1 (records_of second) → refusal_after second ≡ 0
  -- and over any stretch that is answered for both files, whatever comes of the records after it.
  pub more_over_years : (first second : StretchOfYears) → SameYears first second → InFiles MoreWaste first.file second.file
      → (reported first).refusal ≡ 0 → (reported second).refusal ≡ 0 → StretchNoLess (reported first) (reported second)
  -- There are such files, and a kilogram more of food shows: it takes the first figure from 3 g to 4 g. A run that accepts nothing does not meet
  -- that, nor does a constant figure.
  pub more_food : InFiles MoreWaste (food_file 0) (food_file 26) × InFiles MoreWaste (food_file 26) (food_file 27)
  pub more_gas : (figures_of (food_file 26) ≡ 3 ∷ 2 ∷ []) × (figures_of (food_file 27) ≡ 4 ∷ 2 ∷ [])
  -- 'the reduction may go either way': with 0, 26 and 27 kg of food it is 0, 1 and 0.
  pub either_way : (second_year 0 ≡ answered_with 0 0 0) × (second_year 26 ≡ answered_with 2 1 1) × (second_year 27 ≡ answered_with 2 2 0)
