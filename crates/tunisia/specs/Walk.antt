-- What the functions that walk over the records of a stretch of a file do; no public contract says it.
use Rattle.std.specs.Prelude.{◌≡◌, Bool, true, cond, ◌&&◌, ◌||◌, List, ℕ, zero, suc, ◌+◌, ◌*◌, ◌^◌, ◌≤◌, ◌<◌, eqb, ltb, length, get_or, take, drop}
use Rattle.numbers.specs.Bytes.{number_at}
use Rattle.numbers.specs.Eight.{eight}
use Rattle.numbers.specs.Fault.{between}
use Rattle.record.specs.Fields.{record_bytes, factors_of, deposit_of}
use Rattle.record.specs.Ranges.{in_range}
use Rattle.carbon.specs.Carbon.{most_records, most_brought}
use Rattle.figure.specs.Figure.{b_of}
use Rattle.run.specs.History.{Turn}
use Rattle.reductions.specs.Year.{Year, stretch_of, sums_of, with_year}
use Rattle.reductions.specs.declared.year.Sums.{Sums}
use Rattle.tunisia.specs.Years.{years_of}
use Rattle.tunisia.specs.declared.year.Walked.{Walked}

-- The year of the record that comes after so many.
unfoldable pub next_year : Walked → List ℕ → Year
next_year w bytes =
    record { number = w.n + 1; factors = factors_of bytes; release = w.x0; B = b_of w.n (λ t. get_or w.brought t 0) }

-- One record more, whose x0 is known.
unfoldable pub walked_on : (first last : ℕ) → Walked → List ℕ → (x0 : ℕ) → Walked
walked_on first last w bytes x0 =
    record {
      n = w.n + 1;
      x0 = x0;
      brought = eight (λ t. get_or w.brought t 0 + deposit_of bytes t);
      sums = cond (between first (w.n + 1) last) (with_year w.sums (next_year w bytes)) w.sums;
    }

-- Some records more of a file, each with its x0 as its output record says.
unfoldable pub walked_over : (first last k : ℕ) → Walked → (file out : List ℕ) → Walked
walked_over first last zero w file out = w
walked_over first last (suc k) w file out =
    walked_over first last k (walked_on first last w (take record_bytes file) (number_at 8 out 8)) (drop record_bytes file) (drop record_bytes out)

-- What a record asks for: then no sum is wider than 64 bits.
pub record Ready (w : Walked) (bytes : List ℕ) : Type 0 where
  pub few : w.n < most_records
  pub ranges : in_range (factors_of bytes) ≡ true
  pub brings : (t : ℕ) → t < 8 → get_or w.brought t 0 + deposit_of bytes t ≤ most_brought
  pub reference : w.sums.reference + w.sums.reference + w.x0 ≤ 8 * most_brought
  pub project : w.sums.project + w.sums.project + w.x0 ≤ 8 * most_brought
  pub bound : w.sums.bound ≤ w.n * 2 ^ 44

unfoldable pub AllReady : (first last k : ℕ) → Walked → (file out : List ℕ) → Type 0
AllReady first last zero w file out = Unit
AllReady first last (suc k) w file out =
    Ready w (take record_bytes file)
    × AllReady first last k (walked_on first last w (take record_bytes file) (number_at 8 out 8)) (drop record_bytes file) (drop record_bytes out)

-- The refusal of a record in this mode, from that of the run: the tests before 6 have numbers up to 5.
unfoldable pub as_yearly : (refusal : ℕ) → (is_monthly : Bool) → ℕ
as_yearly refusal is_monthly = cond (is_monthly && (eqb refusal 0 || ltb 5 refusal)) 23 refusal

-- No year yet.
unfoldable pub none_walked : Walked
none_walked = record { n = 0; x0 = 0; brought = eight (λ t. 0); sums = record { reference = 0; project = 0; bound = 0 } }

-- What the years of a stretch add up to, how many years were accepted, and the refusal of the record after them, 0 if none.
pub record YearsTaken : Type 0 where
  pub sums : Sums
  pub years : ℕ
  pub refused : ℕ

-- What some accepted years are to their caller, with the refusal of the record after them.
unfoldable pub taken_over : (first last : ℕ) → List Turn → (refused : ℕ) → YearsTaken
taken_over first last turns refused = record { sums = sums_of (stretch_of first last (years_of turns)); years = length turns; refused = refused }

-- How large the sums of a stretch can be: each is at most half of all the carbon that a ledger can hold, and the reference is above the
-- project by at most 8.02 × 10^16.
abbrev pub SumsFit : Sums → Type 0
SumsFit sums =
    (sums.reference + sums.reference ≤ 8 * most_brought)
    × (sums.project + sums.project ≤ 8 * most_brought)
    × (sums.reference ≤ sums.project + 802 * 10 ^ 14)
