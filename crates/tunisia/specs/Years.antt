-- Document 02, request i: 'a file of records run from a fresh ledger with room for all output', in 'a yearly mode', and what each of its
-- years takes from the year before.
use Rattle.std.specs.Prelude.{cond, List, [], ◌∷◌, ℕ, ◌+◌, eqb}
use Rattle.numbers.specs.Fault.{◌when◌, first_of, inserted}
use Rattle.waste.specs.Kind.{is_monthly}
use Rattle.record.specs.Fields.{record_bytes, kind_of, factors_of}
use Rattle.figure.specs.Figure.{b_of}
use Rattle.refusal.specs.Refusal.{faults_of}
use Rattle.ledger.specs.Step.{fresh, brought_at}
use Rattle.ledger.specs.Refusal.{sound}
use Rattle.ledger.specs.Take.{accepted_of, refused_of}
use Rattle.ledger.specs.declared.book.Ledger.{Ledger}
use Rattle.run.specs.History.{Turn, leading, ending, records_of}
use Rattle.reductions.specs.Year.{Year}

-- 'Refusals: 23 a monthly record in this mode, after 5 and before 6'; there is room for the output record.
unfoldable pub refusal_by_year : Ledger → List ℕ → ℕ
refusal_by_year l bytes =
    first_of (inserted 6 (23 when is_monthly (kind_of bytes)) (faults_of (sound l) l.n l.kind l.climate l.year bytes record_bytes))

-- The step in this mode, and taken on one record after another.
unfoldable pub turn_by_year : Ledger → List ℕ → Turn
turn_by_year l bytes =
    record {
      before = l;
      bytes = bytes;
      answer = cond (eqb (refusal_by_year l bytes) 0) (accepted_of l bytes) (refused_of l (refusal_by_year l bytes));
    }

unfoldable pub turns_by_year : Ledger → List (List ℕ) → List Turn
turns_by_year l [] = []
turns_by_year l (bytes ∷ rest) = turn_by_year l bytes ∷ turns_by_year (turn_by_year l bytes).answer.ledger rest

-- 'The accepted years end before the first refused record'; its refusal, 0 if none.
unfoldable pub accepted_years : (file : List ℕ) → List Turn
accepted_years file = leading (turns_by_year fresh (records_of file))

unfoldable pub refusal_after : (file : List ℕ) → ℕ
refusal_after file = ending (turns_by_year fresh (records_of file))

-- 'the figure of year y uses the release of year y − 1, which is 0 in year 1, with record y's factors'; n and T before record y are those of
-- period y − 1, and 0 in year 1, where B is then 0 too.
unfoldable pub counted_year : (release : ℕ) → Turn → Year
counted_year release turn =
    record {
      number = turn.before.n + 1;
      factors = factors_of turn.bytes;
      release = release;
      B = b_of turn.before.n (brought_at turn.before);
    }

unfoldable pub years_from : (release : ℕ) → List Turn → List Year
years_from release [] = []
years_from release (turn ∷ rest) = counted_year release turn ∷ years_from turn.answer.x0 rest

unfoldable pub years_of : List Turn → List Year
years_of turns = years_from 0 turns
