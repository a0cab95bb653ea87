-- Document 02, request g, 'Put the shuffled files right', told again, byte by byte. Places, records and bytes count from 0 on.
use Rattle.std.specs.Prelude.{◌≡◌, ◌↔◌, List, ◌++◌, ℕ, ◌+◌, ◌-◌, ◌*◌, ◌/◌, ◌%◌, ◌^◌, ◌≤◌, ◌<◌, eqb, length, get_or, take, drop, replicate}
use Rattle.numbers.specs.Bytes.{number_at}
use Rattle.numbers.specs.Eight.{one, sum_of}
use Rattle.record.specs.Fields.{record_bytes}
use Rattle.order.specs.Repair.{repaired_of, out_left, report_left}

-- What a call is handed: the order, the file, and the two buffers as they are.
pub record Shuffled : Type 0 where
  pub order : List ℕ
  pub file : List ℕ
  pub out : List ℕ
  pub report : List ℕ

-- What comes of it: the answer, and the two buffers as it leaves them.
pub record Righted : Type 0 where
  pub refusal : ℕ
  pub changed : ℕ
  pub out : List ℕ
  pub report : List ℕ

abbrev pub righted : Shuffled → Righted
righted s =
    record {
      refusal = (repaired_of s.order s.file s.out s.report).refusal;
      changed = (repaired_of s.order s.file s.out s.report).changed;
      out = out_left s.order s.file s.out s.report;
      report = report_left s.order s.file s.out s.report;
    }

-- 'Each of the types 1 to 8 must be named once': at one place, and at no other.
pub record NamedOnce (order : List ℕ) (waste : ℕ) : Type 0 where
  pub place : ℕ
  pub within : place < 8
  pub named : get_or order place 0 ≡ waste
  pub nowhere_else : (p : ℕ) → p < 8 → get_or order p 0 ≡ waste → p ≡ place

pub record NamesEach (order : List ℕ) : Type 0 where
  pub eight_bytes : length order ≡ 8
  pub each : (waste : ℕ) → 1 ≤ waste → waste ≤ 8 → NamedOnce order waste

-- The number of records, and that there is nothing behind them; room for the file and for a byte of the report for each record.
abbrev pub number : Shuffled → ℕ
number s = length s.file / record_bytes

abbrev pub WholeRecords : Shuffled → Type 0
WholeRecords s = length s.file ≡ record_bytes * number s

abbrev pub Room : Shuffled → Type 0
Room s = (length s.file ≤ length s.out) × (number s ≤ length s.report)

-- The mass at place t of record q, as a number; at how many places of that record so many kilograms stand; and bit t of a byte.
abbrev pub mass_at : (file : List ℕ) (q t : ℕ) → ℕ
mass_at file q t = number_at 4 file (record_bytes * q + 16 + 4 * t)

abbrev pub times_at : (file : List ℕ) (q kg : ℕ) → ℕ
times_at file q kg = sum_of (λ t. one (eqb (mass_at file q t) kg)) 8

abbrev pub bit_of : (byte t : ℕ) → ℕ
bit_of byte t = byte / 2 ^ t % 2

pub record PutRight (s : Shuffled) (r : Righted) : Type 0 where
  -- 'with every mass at its type's place': the mass of place p stands, byte for byte, where the type is that the order names at p;
  pub masses : (q p b : ℕ) → q < number s → p < 8 → b < 4
      → get_or r.out (record_bytes * q + 16 + 4 * (get_or s.order p 0 - 1) + b) 0 ≡ get_or s.file (record_bytes * q + 16 + 4 * p + b) 0
  -- so a record's eight masses are the old ones in another order.
  pub as_often : (q kg : ℕ) → q < number s → times_at r.out q kg ≡ times_at s.file q kg
  -- 'Other bytes are copied
  pub others : (q i : ℕ) → q < number s → i < 16 → get_or r.out (record_bytes * q + i) 0 ≡ get_or s.file (record_bytes * q + i) 0
  -- and bytes of either buffer past the file's need stay.'
  pub out_stays : drop (length s.file) r.out ≡ drop (length s.file) s.out
  pub report_stays : drop (number s) r.report ≡ drop (number s) s.report
  pub out_long : length r.out ≡ length s.out
  pub report_long : length r.report ≡ length s.report
  -- 'one byte for each record, whose bit t − 1 is set exactly when the mass at place t is not the mass that stood there before';
  pub a_byte : (q : ℕ) → q < number s → get_or r.report q 0 < 256
  pub set_where : (q t : ℕ) → q < number s → t < 8 → (bit_of (get_or r.report q 0) t ≡ 1) ↔ (mass_at r.out q t ≡ mass_at s.file q t → ⊥)
  -- 'the answer is the number of bits set in the file'.
  pub counted : r.changed ≡ sum_of (λ q. sum_of (bit_of (get_or r.report q 0)) 8) (number s)

-- 'with nothing written and answer 0'
abbrev pub nothing_written : (refusal : ℕ) → Shuffled → Righted
nothing_written refusal s = record { refusal = refusal; changed = 0; out = s.out; report = s.report }

-- The file copied, and nothing reported.
abbrev pub file_copied : Shuffled → Righted
file_copied s =
    record {
      refusal = 0;
      changed = 0;
      out = s.file ++ drop (length s.file) s.out;
      report = replicate (number s) 0 ++ drop (number s) s.report;
    }

-- 'the inverse order': at the place to which what stood at place p went, it names the type of place p.
pub record Inverse (order back : List ℕ) : Type 0 where
  pub eight_bytes : length back ≡ 8
  pub names_back : (p : ℕ) → p < 8 → get_or back (get_or order p 0 - 1) 0 ≡ p + 1

-- The new file handed over with another order and any two buffers.
abbrev pub again : Shuffled → (back out report : List ℕ) → Shuffled
again s back out report = record { order = back; file = take (length s.file) (righted s).out; out = out; report = report }

-- 'brings back the old file exactly', with the same report and the same answer.
pub record BroughtBack (s : Shuffled) (r : Righted) : Type 0 where
  pub not_refused : r.refusal ≡ 0
  pub old_file : take (length s.file) r.out ≡ s.file
  pub same_report : take (number s) r.report ≡ take (number s) (righted s).report
  pub same_answer : r.changed ≡ (righted s).changed
