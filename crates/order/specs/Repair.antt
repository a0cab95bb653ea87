-- Document 02, request g, 'Put the shuffled files right': a file of records rewritten, and the report of what is not as it was. Place t,
-- from 0 on, has type t + 1.
use Rattle.std.specs.Prelude.{Bool, cond, not, ◌||◌, List, [], ◌∷◌, ◌++◌, ℕ, ◌+◌, ◌*◌, ◌/◌, ◌%◌, eqb, ltb, length, take, drop, Result, Ok, Err}
use Rattle.numbers.specs.Eight.{one, sum_of}
use Rattle.numbers.specs.Fault.{Fault, ◌when◌, first_of}
use Rattle.numbers.specs.Lists.{joined}
use Rattle.record.specs.Fields.{record_bytes, mass_of}
use Rattle.order.specs.Order.{eight_bits, is_order, place_of}
use Rattle.order.specs.declared.RepairRefusal.{RepairRefusal}
use Rattle.order.specs.declared.RepairRefusal.TheVariants.{NotAnOrder, PartOfARecord, NoRoom}

-- What a record has ahead of its masses, and the 4 bytes of the mass at a place.
abbrev pub record_head : List ℕ → List ℕ
record_head bytes = take 16 bytes

abbrev pub mass_bytes : (bytes : List ℕ) (place : ℕ) → List ℕ
mass_bytes bytes place = take 4 (drop (16 + 4 * place) bytes)

-- 'with every mass at its type's place [..]. Other bytes are copied': the mass of place t comes from another place of the old record.
unfoldable pub rewritten : (from : ℕ → ℕ) → List ℕ → List ℕ
rewritten from bytes = record_head bytes ++ joined (λ t. mass_bytes bytes (from t)) 8

-- 'the mass at place t is not the mass that stood there before'
abbrev pub is_other : (from : ℕ → ℕ) (bytes : List ℕ) (t : ℕ) → Bool
is_other from bytes t = not (eqb (mass_of (rewritten from bytes) t) (mass_of bytes t))

-- The records of a file, from 0 on.
abbrev pub record_from : (file : List ℕ) (at : ℕ) → List ℕ
record_from file at = take record_bytes (drop at file)

abbrev pub record_in : (file : List ℕ) (q : ℕ) → List ℕ
record_in file q = record_from file (record_bytes * q)

abbrev pub number_of_records : List ℕ → ℕ
number_of_records file = length file / record_bytes

-- The mass of place t comes from the place where the order names its type.
abbrev pub stood_at : (order : List ℕ) → ℕ → ℕ
stood_at order t = place_of order (t + 1)

-- An answer in numbers: the refusal's, 0 if none, and how many bits of the file's report are set, 0 if refused.
pub record Repaired : Type 0 where
  pub refusal : ℕ
  pub changed : ℕ

-- The number of each refusal, and the numbers of each case of the answer.
abbrev pub refusal_number : RepairRefusal → ℕ
refusal_number NotAnOrder = 20
refusal_number PartOfARecord = 21
refusal_number NoRoom = 22

abbrev pub numbers_of : Result ℕ RepairRefusal → Repaired
numbers_of (Ok changed) = record { refusal = 0; changed = changed }
numbers_of (Err why) = record { refusal = refusal_number why; changed = 0 }

module _ (order file : List ℕ) where
  -- 'rewrite a file of records'
  unfoldable pub new_file : List ℕ
  new_file = joined (λ q. rewritten (stood_at order) (record_in file q)) (number_of_records file)

  -- 'one byte for each record, whose bit t − 1 is set exactly when' that;
  unfoldable pub report_of : List ℕ
  report_of = joined (λ q. eight_bits (is_other (stood_at order) (record_in file q)) ∷ []) (number_of_records file)

  -- 'the answer is the number of bits set in the file'.
  unfoldable pub bits_set : ℕ
  bits_set = sum_of (λ q. sum_of (λ t. one (is_other (stood_at order) (record_in file q) t)) 8) (number_of_records file)

  -- 'Refusals: 20 not an order of eight types, 21 length not a multiple of 48, 22 output shorter than input or report shorter than the
  -- number of records, in that order'; the room is the length of a buffer.
  unfoldable pub repair_faults : (outRoom reportRoom : ℕ) → List Fault
  repair_faults outRoom reportRoom =
      20 when not (is_order order)
      ∷ 21 when not (eqb (length file % record_bytes) 0)
      ∷ 22 when (ltb outRoom (length file) || ltb reportRoom (number_of_records file))
      ∷ []

  module _ (out report : List ℕ) where
    abbrev pub repair_refusal : ℕ
    repair_refusal = first_of (repair_faults (length out) (length report))

    -- 'with nothing written and answer 0'
    abbrev pub unless_refused : {A : Type 0} → (accepted refused : A) → A
    unless_refused accepted refused = cond (eqb repair_refusal 0) accepted refused

    unfoldable pub repaired_of : Repaired
    repaired_of = record { refusal = repair_refusal; changed = unless_refused bits_set 0 }

    -- 'bytes of either buffer past the file's need stay'
    unfoldable pub out_left : List ℕ
    out_left = unless_refused (new_file ++ drop (length file) out) out

    unfoldable pub report_left : List ℕ
    report_left = unless_refused (report_of ++ drop (number_of_records file) report) report
