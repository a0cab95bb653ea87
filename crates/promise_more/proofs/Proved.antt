-- What request k claims, proved.
use mathlib.Core.Path.{◌≡◌}
use mathlib.Core.List.{List}
use Prim.Native.Nat.{ℕ, ◌*◌, ◌≤◌}
use lib.ListN.{length}
use Rattle.numbers.specs.Lists.{Each}
use Rattle.record.specs.Fields.{record_bytes}
use Rattle.ledger.specs.Step.{fresh}
use Rattle.ledger.proofs.Accepted.{fresh_sound}
use Rattle.run.specs.History.{turns, records_of, in_turn, run_of}
use Rattle.run.proofs.History.{none_refused, none_ending}
use Rattle.promise_more.specs.More.{EqualButMasses, MoreWaste, WithinLimit, Pairs, InFiles, TurnNoLess}
use Rattle.promise_more.specs.Promise.{MorePromise}
use Rattle.promise_more.proofs.Records.{fresh_place}
use Rattle.promise_more.proofs.Steps.{fresh_holds}
use Rattle.promise_more.proofs.Turns.{turns_no_less, in_turn_lem, light_offers, turns_accepted}
use Rattle.promise_more.proofs.Years.{more_by_year, still_accepted_by_year, more_over_years}
use Rattle.promise_more.proofs.Example.{more_food, computed}

-- A run that refuses nothing has every record accepted in turn.
more_in_a_run : (first second : List ℕ) (room room' : ℕ) → InFiles MoreWaste first second
    → (run_of fresh (records_of first) room).refusal ≡ 0 → (run_of fresh (records_of second) room').refusal ≡ 0
    → Pairs TurnNoLess (run_of fresh (records_of first) room).accepted (run_of fresh (records_of second) room').accepted
unfolding run_of
more_in_a_run first second room room' m none none' =
    let offers = in_turn (records_of first) room in
    let offers' = in_turn (records_of second) room' in
    let all = none_refused (turns fresh offers) none in
    let all' = none_refused (turns fresh offers') none' in
    rw (all.1, all'.1)
    (turns_no_less offers offers' fresh fresh fresh_place fresh_holds (in_turn_lem MoreWaste (records_of first) (records_of second) room room' m) all.0 all'.0)

still_accepted_in_a_run : (first second : List ℕ) (room room' : ℕ) → InFiles EqualButMasses first second → (run_of fresh (records_of first) room).refusal ≡ 0
    → Each (λ i bytes. WithinLimit bytes) 1 (records_of second) → record_bytes * length (records_of second) ≤ room' → (run_of fresh (records_of second) room').refusal ≡ 0
unfolding run_of
still_accepted_in_a_run first second room room' m none within enough =
    let offers = in_turn (records_of first) room in
    let offers' = in_turn (records_of second) room' in
    none_ending (turns fresh offers')
    (turns_accepted offers offers' 1 fresh fresh fresh_place fresh_sound (in_turn_lem EqualButMasses (records_of first) (records_of second) room room' m)
    (none_refused (turns fresh offers) none).0 (light_offers (records_of second) 1 room' within enough))

pub more_promise : MorePromise
more_promise =
    record {
      more_offered = λ first second m e e'. turns_no_less first second fresh fresh fresh_place fresh_holds m e e';
      more_in_a_run = more_in_a_run;
      still_accepted = λ first second m e fits. turns_accepted first second 1 fresh fresh fresh_place fresh_sound m e fits;
      still_accepted_in_a_run = still_accepted_in_a_run;
      more_by_year = more_by_year;
      still_accepted_by_year = still_accepted_by_year;
      more_over_years = more_over_years;
      more_food = more_food;
      more_gas = computed.0;
      either_way = computed.1;
    }
