-- Document 02, request i: what is reported, and where it is refused, in the request's words.
use Rattle.std.specs.Prelude.{◌≡◌, List, [], map, ℕ, ◌+◌, ◌-◌, ◌^◌, ◌≤◌, ◌<◌, length, get_or}
use Rattle.numbers.specs.Fault.{first_of, ahead}
use Rattle.record.specs.Fields.{record_bytes}
use Rattle.refusal.specs.Refusal.{faults_of}
use Rattle.ledger.specs.Step.{fresh}
use Rattle.ledger.specs.Refusal.{sound}
use Rattle.ledger.specs.declared.book.Ledger.{Ledger}
use Rattle.run.specs.History.{ledger_after, records_of}
use Rattle.tunisia.specs.Years.{refusal_by_year, accepted_years}
use Rattle.tunisia.specs.Reduction.{reduction_of, Reduction}

-- A file, a first and a last year, and grams of electricity and fuel.
pub record StretchOfYears : Type 0 where
  pub file : List ℕ
  pub first : ℕ
  pub last : ℕ
  pub electricity : List ℕ
  pub fuel : List ℕ

-- What is answered.
abbrev pub reported : StretchOfYears → Reduction
reported s = reduction_of s.file s.first s.last s.electricity s.fuel

-- One year of a file alone.
abbrev pub alone : (file : List ℕ) → (y : ℕ) → (electricity fuel : List ℕ) → StretchOfYears
alone file y electricity fuel = record { file = file; first = y; last = y; electricity = electricity; fuel = fuel }

-- The accepted records of a file, and the ledger after them.
abbrev pub year_records : (file : List ℕ) → List (List ℕ)
year_records file = map (λ turn. turn.bytes) (accepted_years file)

abbrev pub year_ledger : (file : List ℕ) → Ledger
year_ledger file = ledger_after fresh (accepted_years file)

-- The stretch is not empty, within the accepted years, and has one entry of each kind of grams for each year.
abbrev pub Within : StretchOfYears → Type 0
Within s =
    (1 ≤ s.first)
    × (s.first ≤ s.last)
    × (s.last ≤ length (accepted_years s.file))
    × (length s.electricity ≡ s.last + 1 - s.first)
    × (length s.fuel ≡ s.last + 1 - s.first)

-- No grams of a list are over the limit of 10^15.
abbrev pub Light : List ℕ → Type 0
Light grams = (i : ℕ) → i < length grams → get_or grams i 0 ≤ 10 ^ 15

-- How the accepted years of a file end, with the refusal that is answered beside: no record is left and it is 0, or the next record is
-- refused with it in this mode.
pub data YearsEnd (file : List ℕ) (years refused : ℕ) : Type 0 where
  none_left : years ≡ length (records_of file) → refused ≡ 0 → YearsEnd file years refused
  next_refused : years < length (records_of file) → refused ≡ refusal_by_year (year_ledger file) (get_or (records_of file) years []) → 0 < refused → YearsEnd file years refused

-- None of refusals 1 to 5 is there, with room for the output.
abbrev pub NoneBefore6 : Ledger → List ℕ → Type 0
NoneBefore6 l bytes = first_of (ahead 6 (faults_of (sound l) l.n l.kind l.climate l.year bytes record_bytes)) ≡ 0
