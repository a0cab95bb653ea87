-- A row of eight and three numbers more, from the start on.
use mathlib.Core.Path.{◌≡◌, refl, ◌∙◌}
use mathlib.Core.List.{List, ◌++◌}
use Prim.Native.Nat.{ℕ, ◌≤◌}
use borrow.Author.Tests.{lt-ltb, le-ltb}
use lib.ListN.{length, get_or}
use lib.Seq.{sets}
use Rattle.numbers.specs.Bytes.{bytes_of, row_of}
use Rattle.numbers.proofs.Bytes.{front_written}
use Rattle.ledger.specs.Answer.{Answer}
use Rattle.std.proofs.Common.{Ok}
use Rattle.ledger.specs.Take.{refused_of}
use Rattle.ledger.specs.Numbers.{answer_numbers}
use Rattle.calls.specs.Calls.{answer_bytes, answer_row, answered}
use Rattle.calls.proofs.write_answer.Goals as goal

all-written : (a : Answer) (out : List ℕ) {j k m r : List ℕ} → j ≡ sets out 0 (row_of (λ t. get_or a.releases t 0) 8)
    → k ≡ sets j 64 (bytes_of 8 a.x0) → m ≡ sets k 72 (bytes_of 8 a.figure) → r ≡ sets m 80 (bytes_of 8 a.bound)
    → answer_bytes ≤ length out → r ≡ answered a out
unfolding answer_row answered
all-written a out first p q s room =
    simp (le-ltb (length out) answer_bytes room)
    (front_written (row_of (λ t. get_or a.releases t 0) 8) (bytes_of 8 a.x0 ++ bytes_of 8 a.figure ++ bytes_of 8 a.bound) out first (s ∙ rw (q, p)) room)

pub returns-in-Ok : goal.returns-in-Ok
returns-in-Ok c = λ l.
    rw c.in-Ok.is
    (all-written (answer_numbers l (Ok c.in-Ok.taken)) c.args.out.now c.write_eight.ensures c.write.ensures c.write-in-Ok.ensures c.write-in-Ok-2.ensures
    c.if-out-lt-ANSWER_BYTES.false)

pub returns-in-Err : goal.returns-in-Err
unfolding answered answer_row refused_of
returns-in-Err c = λ l.
    rw c.in-Err.is (simp (le-ltb (length c.args.out.now) answer_bytes c.if-out-lt-ANSWER_BYTES.false) (rw c.copy_from_slice.ensures.after refl))

pub returns-then-out-lt-ANSWER_BYTES : goal.returns-then-out-lt-ANSWER_BYTES
unfolding answered
returns-then-out-lt-ANSWER_BYTES c = λ l. simp (lt-ltb _ _ c.if-out-lt-ANSWER_BYTES.true)
