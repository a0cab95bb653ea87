-- Both answers of the test.
use borrow.Author.Tests.{lt-ltb, le-ltb}
use Rattle.calls.specs.Calls.{room_of}
use Rattle.calls.proofs.room.Goals as goal

pub returns-then-answer-lt-ANSWER_BYTES : goal.returns-then-answer-lt-ANSWER_BYTES
unfolding room_of
returns-then-answer-lt-ANSWER_BYTES c = simp (lt-ltb _ _ c.if-answer-lt-ANSWER_BYTES.true)

pub returns-else-answer-lt-ANSWER_BYTES : goal.returns-else-answer-lt-ANSWER_BYTES
unfolding room_of
returns-else-answer-lt-ANSWER_BYTES c = simp (le-ltb _ _ c.if-answer-lt-ANSWER_BYTES.false)
