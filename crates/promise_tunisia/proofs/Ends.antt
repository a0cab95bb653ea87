-- The accepted years end where no record is left, or before one that is refused.
use mathlib.Core.Path.{◌≡◌, refl, ap}
use mathlib.Core.List.{List, [], ◌∷◌}
use Prim.Native.Nat.{ℕ, suc, ◌<◌}
use native.Mathlib.Decide.{ℕ_discrete}
use native.Mathlib.Omega.{arith}
use lib.ListN.{length, get_or}
use Rattle.ledger.specs.Step.{fresh}
use Rattle.ledger.specs.Take.{accepted_of}
use Rattle.ledger.specs.declared.book.Ledger.{Ledger}
use Rattle.run.specs.History.{ledger_after, leading, ending, records_of}
use Rattle.tunisia.specs.Years.{refusal_by_year, turns_by_year, accepted_years, refusal_after}
use Rattle.tunisia.proofs.ByYear.{year_goes_on, year_stops}
use Rattle.promise_tunisia.specs.Reported.{YearsEnd, none_left, next_refused}

-- the same of any ledger and records
data Ends (l : Ledger) (xs : List (List ℕ)) (years refused : ℕ) : Type 0 where
  at_end : years ≡ length xs → refused ≡ 0 → Ends l xs years refused
  before : years < length xs → refused ≡ refusal_by_year l (get_or xs years []) → 0 < refused → Ends l xs years refused

abbrev EndsIn : Ledger → List (List ℕ) → Type 0
EndsIn l xs = let ts = leading (turns_by_year l xs) in Ends (ledger_after l ts) xs (length ts) (ending (turns_by_year l xs))

-- one accepted record in front
in_front_lem : (l : Ledger) (bytes : List ℕ) (xs : List (List ℕ)) (years refused : ℕ) → Ends l xs years refused → Ends l (bytes ∷ xs) (suc years) refused
in_front_lem l bytes xs years refused (at_end all z) = at_end (ap suc all) z
in_front_lem l bytes xs years refused (before some e h) = before (omega arith) e h

none_in : (l : Ledger) → EndsIn l []
unfolding turns_by_year leading ending
none_in l = at_end refl refl

ends_in : (xs : List (List ℕ)) (l : Ledger) → EndsIn l xs
unfolding ledger_after
ends_in [] l = none_in l
ends_in (bytes ∷ xs) l =
    elim (ℕ_discrete (refusal_by_year l bytes) 0) [
      | yes e ↦
          let next = (accepted_of l bytes).ledger in
          let ts = leading (turns_by_year next xs) in
          let went = year_goes_on l bytes xs e in
          rw (went.0, went.1) (in_front_lem (ledger_after next ts) bytes xs (length ts) (ending (turns_by_year next xs)) (ends_in xs next))
      | no e ↦
          let stopped = year_stops l bytes xs e in
          rw (stopped.0, stopped.1) (before (omega arith) refl (omega (arith, e)))
    ]

pub years_end : (file : List ℕ) → YearsEnd file (length (accepted_years file)) (refusal_after file)
unfolding accepted_years refusal_after
years_end file = in_words (ends_in (records_of file) fresh)
  where
    in_words : {years refused : ℕ} → Ends (ledger_after fresh (leading (turns_by_year fresh (records_of file)))) (records_of file) years refused → YearsEnd file years refused
    in_words (at_end all z) = none_left all z
    in_words (before some e h) = next_refused some e h
