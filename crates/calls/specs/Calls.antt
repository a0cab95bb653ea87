-- What a call makes of the image, the output and the answer that are lent to it, and which records it offers.
use Rattle.std.specs.Prelude.{cond, List, ◌++◌, ℕ, suc, eqb, ltb, length, get_or, take, drop}
use Rattle.numbers.specs.Bytes.{bytes_of, row_of}
use Rattle.record.specs.Fields.{record_bytes}
use Rattle.ledger.specs.Take.{take_of, output_record}
use Rattle.run.specs.History.{Offer, Run, records_of, in_turn, run_of}
use Rattle.ledger.specs.Answer.{Answer}
use Rattle.run.specs.Outcome.{Outcome}
use Rattle.image.specs.Image.{image_of, ledger_of, imaged}

-- The eight releases, x0, figure and bound of an answer, in 8 bytes each.
abbrev pub answer_bytes : ℕ
answer_bytes = 88

unfoldable pub answer_row : Answer → List ℕ
answer_row a = row_of (λ t. get_or a.releases t 0) 8 ++ bytes_of 8 a.x0 ++ bytes_of 8 a.figure ++ bytes_of 8 a.bound

-- They are written at the start of a buffer that has room for them; any other buffer keeps its bytes.
unfoldable pub answered : Answer → List ℕ → List ℕ
answered a buffer = cond (ltb (length buffer) answer_bytes) buffer (answer_row a ++ drop answer_bytes buffer)

-- The room of an output, from the lengths of both: an answer that is too short is an output that is too short.
unfoldable pub room_of : (out answer : ℕ) → ℕ
room_of out answer = cond (ltb answer answer_bytes) 0 out

-- What an answer leaves of an image and of an output: an accepted record's, or both as they are.
unfoldable pub image_then : Answer → List ℕ → List ℕ
image_then a image = cond (eqb a.refusal 0) (image_of a.ledger) image

unfoldable pub out_then : Answer → List ℕ → List ℕ
out_then a out = cond (eqb a.refusal 0) (output_record a ++ drop record_bytes out) out

-- What is left of bytes that need be no image, by an answer and by the end of a run: the ledger is written over bytes of that length alone.
unfoldable pub image_over : Answer → List ℕ → List ℕ
image_over a image = cond (eqb a.refusal 0) (imaged a.ledger image) image

unfoldable pub ended_over : Outcome → List ℕ → List ℕ
ended_over o image = cond (eqb o.accepted 0) image (imaged o.ledger image)

-- One record, offered with that room.
module _ (image bytes out answer : List ℕ) where
  unfoldable pub take_here : Answer
  take_here = take_of (ledger_of image) bytes (room_of (length out) (length answer))

  unfoldable pub take_image : List ℕ
  take_image = image_then take_here image

  unfoldable pub take_out : List ℕ
  take_out = out_then take_here out

  unfoldable pub take_answer : List ℕ
  take_answer = answered take_here answer

-- A run leaves the image of its end ledger; where no record is accepted the image stays as it is.
unfoldable pub run_here : (image file : List ℕ) (room : ℕ) → Run
run_here image file room = run_of (ledger_of image) (records_of file) room

unfoldable pub run_image : List ℕ → Run → List ℕ
run_image image r = cond (eqb (length r.accepted) 0) image (image_of r.ledger)

-- The offers that a call makes: its one record, or the records of a file up to and with the first that is refused.
abbrev pub offer_of : (bytes out answer : List ℕ) → Offer
offer_of bytes out answer = record { bytes = bytes; room = room_of (length out) (length answer) }

unfoldable pub offers_of : (file : List ℕ) (room : ℕ) → Run → List Offer
offers_of file room r = take (suc (length r.accepted)) (in_turn (records_of file) room)
