-- Document 01, refusal 3, with what requests b, c and f of document 02 add: when a ledger is sound; and the refusal of a record.
use Rattle.std.specs.Prelude.{◌≡◌, Bool, cond, ◌&&◌, List, ℕ, eqb, leb}
use Rattle.numbers.specs.Eight.{every_of}
use Rattle.numbers.specs.Fault.{first_of, ahead}
use Rattle.waste.specs.Kind.{is_kind}
use Rattle.waste.specs.Waste.{is_climate}
use Rattle.carbon.specs.Carbon.{most_records, within_of}
use Rattle.year_factors.specs.YearFactors.{sound_year}
use Rattle.refusal.specs.Refusal.{faults_of}
use Rattle.ledger.specs.Step.{brought_at, stock_at, released_at}
use Rattle.ledger.specs.declared.book.Ledger.{Ledger}

-- A ledger with n = 0 has every other field 0.
unfoldable pub empty_at : Ledger → ℕ → Bool
empty_at l t = eqb (brought_at l t) 0 && eqb (stock_at l t) 0 && eqb (released_at l t) 0

abbrev pub blank : Ledger → Bool
blank l = eqb l.kind 0 && eqb l.climate 0

unfoldable pub all_zero : Ledger → Bool
all_zero l = blank l && every_of (empty_at l) 8

-- With n > 0, kind and climate are codes, and of each type T is at most n × 10^9 × DOC × 100, R at most T, and released plus R is T.
unfoldable pub within_at : Ledger → ℕ → Bool
within_at l t = within_of l.n (brought_at l t) (stock_at l t) (released_at l t) t

abbrev pub in_code : Ledger → Bool
in_code l = is_kind l.kind && is_climate l.climate

unfoldable pub in_order : Ledger → Bool
in_order l = in_code l && every_of (within_at l) 8

-- What is remembered is as request c has it.
unfoldable pub sound : Ledger → Bool
sound l = leb l.n most_records && cond (eqb l.n 0) (all_zero l) (in_order l) && sound_year l.n l.kind l.year

-- What refuses a record, with room for so many bytes of output: the first fault.
unfoldable pub refusal_of : Ledger → List ℕ → (room : ℕ) → ℕ
refusal_of l bytes room = first_of (faults_of (sound l) l.n l.kind l.climate l.year bytes room)

-- Nothing that is tested ahead of a number refuses a record: ahead of 17, none of 1 to 8 is there.
abbrev pub NoneAhead : (number : ℕ) → Ledger → List ℕ → (room : ℕ) → Type 0
NoneAhead number l bytes room = first_of (ahead number (faults_of (sound l) l.n l.kind l.climate l.year bytes room)) ≡ 0
