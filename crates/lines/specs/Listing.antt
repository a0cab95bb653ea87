-- Document 01, 'Worked figures', last part: the listing of a file, read off its run from a fresh ledger with room for every output
-- record.
use Rattle.std.specs.Prelude.{◌≡◌, cond, List, [], ◌∷◌, ◌++◌, ℕ, ◌+◌, ◌*◌, ◌≤◌, eqb, leb, length, take, drop, Result, Ok, Err}
use Rattle.record.specs.Fields.{record_bytes}
use Rattle.carbon.specs.Carbon.{most_records}
use Rattle.ledger.specs.Take.{total_stock}
use Rattle.run.specs.History.{Turn, records_of, Run, whole_run}
use Rattle.ledger.specs.Answer.{Answer}
use Rattle.line.specs.Line.{line_bytes, accepted_text, refused_text}
use Rattle.lines.specs.declared.room.NoRoom.{NoRoom}
use Rattle.lines.specs.Listed.{Listed}

-- The line of an accepted record: period, x0, figure, bound, total R. The period is the n of the ledger after it.
unfoldable pub answer_text : Answer → List ℕ
answer_text a = accepted_text a.ledger.n a.x0 a.figure a.bound (total_stock a.ledger)

-- For each accepted record its line;
unfoldable pub lines_of : List Turn → List ℕ
lines_of [] = []
lines_of (turn ∷ rest) = answer_text turn.answer ++ lines_of rest

-- at a refusal its line, with the record's place, and no more.
unfoldable pub end_text : (refusal place : ℕ) → List ℕ
end_text refusal place = cond (eqb refusal 0) [] (refused_text refusal place)

-- The listing of a run whose first record has a place.
unfoldable pub run_text : (place : ℕ) → Run → List ℕ
run_text place r = lines_of r.accepted ++ end_text r.refusal (place + length r.accepted)

-- The listing of a file; places count from 1.
unfoldable pub listing_of : (file : List ℕ) → List ℕ
listing_of file = run_text 1 (whole_run file)

-- A ledger takes 1200 records, so record 1201 is refused at the latest: there are no more lines than that, nor than records.
unfoldable pub most_lines : (records : ℕ) → ℕ
most_lines records = cond (leb records (most_records + 1)) records (most_records + 1)

-- The bytes of the records that can matter, and the most that their text can have.
abbrev pub most_file : ℕ
most_file = record_bytes * (most_records + 1)

abbrev pub most_text : ℕ
most_text = line_bytes * (most_records + 1)

-- A text has room that has the bytes of a line for every line.
unfoldable pub room_for : (file : List ℕ) → ℕ
room_for file = line_bytes * most_lines (length (records_of file))

-- The number of the refusal, and the numbers of each answer.
abbrev pub number_of : NoRoom → ℕ
number_of why = 2

abbrev pub numbers_of : Result ℕ NoRoom → Listed
numbers_of (Ok length) = record { length = length; refusal = 0 }
numbers_of (Err why) = record { length = 0; refusal = number_of why }

-- With room, the length of the listing; without, the refusal 2.
unfoldable pub listed_of : (file : List ℕ) (room : ℕ) → Listed
listed_of file room =
    cond (leb (room_for file) room)
    (record { length = length (listing_of file); refusal = 0 })
    (record { length = 0; refusal = 2 })

-- With room, the listing stands at the start of the text and whatever is past it keeps its value; without, every byte does.
unfoldable pub text_of : (file text : List ℕ) → List ℕ
text_of file text = cond (leb (room_for file) (length text)) (listing_of file ++ drop (length (listing_of file)) text) text

-- What a caller needs to lend the listing, `&text[..length]`; it follows from `listed_of` and `text_of`.
abbrev pub LendableText : (len : ℕ) (text : List ℕ) → Type 0
LendableText len text = (len ≤ length text) × (len ≡ length (take len text))
