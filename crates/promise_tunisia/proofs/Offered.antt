-- The accepted years of a file are records that a fresh ledger accepts one after another.
use mathlib.Core.Path.{◌≡◌, refl}
use mathlib.Core.List.{List, [], ◌∷◌, ◌++◌, append-nil, append_assoc}
use Prim.Native.Nat.{ℕ}
use native.Mathlib.Decide.{ℕ_discrete}
use Rattle.numbers.proofs.Fault.{inserted_clear}
use Rattle.waste.specs.Kind.{is_monthly}
use Rattle.record.specs.Fields.{record_bytes, kind_of}
use Rattle.refusal.specs.Refusal.{faults_of}
use Rattle.ledger.specs.Refusal.{sound, refusal_of}
use Rattle.ledger.specs.Take.{accepted_of}
use Rattle.ledger.specs.declared.book.Ledger.{Ledger}
use Rattle.run.specs.History.{Turn, ledger_after, leading, records_of}
use Rattle.run.proofs.History.{accepted_turn}
use Rattle.tunisia.specs.Years.{refusal_by_year, turns_by_year, accepted_years}
use Rattle.tunisia.proofs.ByYear.{year_goes_on, year_stops}
use Rattle.promise_three.specs.Offering.{Offering}
use Rattle.promise_three.proofs.OneByOne.{OneByOne, none_yet, one_more, with_one, fresh_offering}
use Rattle.promise_tunisia.specs.Reported.{year_ledger}

-- A record that this mode accepts is accepted in a run with room.
pub taken_in_a_run : (l : Ledger) (bytes : List ℕ) → refusal_by_year l bytes ≡ 0 → refusal_of l bytes record_bytes ≡ 0
unfolding refusal_by_year refusal_of faults_of
taken_in_a_run l bytes e =
    (inserted_clear 6 23 (is_monthly (kind_of bytes)) (faults_of (sound l) l.n l.kind l.climate l.year bytes record_bytes) refl e).0

-- no record, no year
no_years : (l : Ledger) → leading (turns_by_year l []) ≡ []
unfolding turns_by_year leading
no_years l = refl

-- some accepted records, and more
abbrev onward : Offering → List Turn → Offering
onward o more = record { ledger = ledger_after o.ledger more; accepted = o.accepted ++ more }

none_more : (o : Offering) → OneByOne o → OneByOne (onward o [])
unfolding ledger_after
none_more o r = rw append-nil r

with_one_lem : (o : Offering) (bytes : List ℕ) (more : List Turn) → OneByOne (onward (with_one o bytes) more) → OneByOne (onward o (accepted_turn o.ledger bytes ∷ more))
unfolding ledger_after accepted_of
with_one_lem o bytes more r = rw append_assoc at r

goes_by_year : (xs : List (List ℕ)) (o : Offering) → OneByOne o → OneByOne (onward o (leading (turns_by_year o.ledger xs)))
unfolding accepted_of
goes_by_year [] o r = rw (no_years o.ledger) (none_more o r)
goes_by_year (bytes ∷ rest) o r =
    elim (ℕ_discrete (refusal_by_year o.ledger bytes) 0) [
      | yes e ↦ rw (year_goes_on o.ledger bytes rest e).0
          (with_one_lem o bytes (leading (turns_by_year (with_one o bytes).ledger rest)) (goes_by_year rest (with_one o bytes) (one_more o bytes record_bytes r (taken_in_a_run o.ledger bytes e))))
      | no e ↦ rw (year_stops o.ledger bytes rest e).0 (none_more o r)
    ]

abbrev pub year_offering : (file : List ℕ) → Offering
year_offering file = record { ledger = year_ledger file; accepted = accepted_years file }

pub years_one_by_one : (file : List ℕ) → OneByOne (year_offering file)
unfolding accepted_years
years_one_by_one file = goes_by_year (records_of file) fresh_offering none_yet
