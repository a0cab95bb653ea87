-- An image is 200 bytes: a front and three rows, written one after the other.
use mathlib.Core.Path.{◌≡◌, ◌∙◌}
use mathlib.Core.List.{List, [], ◌++◌, append-nil}
use Prim.Native.Nat.{ℕ, ◌+◌}
use native.Mathlib.Omega.{arith}
use borrow.Author.Tests.{eq-eqb}
use lib.ListN.{length, drop, length-append, drop_of_length-le}
use lib.Seq.{sets}
use Rattle.numbers.proofs.Bytes.{sets_join, front_written}
use Rattle.ledger.specs.declared.book.Ledger.{Ledger}
use Rattle.image.specs.Image.{image_bytes, image_of, imaged}

-- It fills a buffer of 200 bytes.
pub image_fills : (l : Ledger) (out : List ℕ) → length out ≡ image_bytes → imaged l out ≡ image_of l
unfolding imaged
image_fills l out e = simp (eq-eqb (length out) image_bytes e)

pub image_written : (front first second third out : List ℕ) {h f g r : List ℕ}
    → length front ≡ 8 → length first ≡ 64 → length second ≡ 64 → length third ≡ 64 → length out ≡ image_bytes
    → h ≡ sets out 0 front → f ≡ sets h 8 first → g ≡ sets f 72 second → r ≡ sets g 136 third → r ≡ front ++ first ++ second ++ third
image_written front first second third out {f = f} a b c d o p q s u =
    let at_8 : 0 + length front ≡ 8 = omega arith in
    let at_72 : 0 + length (front ++ first) ≡ 72 = simp length-append (omega arith) in
    let three : length (front ++ first ++ second) ≡ 136 = simp length-append (omega arith) in
    let whole : length (front ++ first ++ second ++ third) ≡ 200 = simp length-append (omega arith) in
    let none : drop (length (front ++ first ++ second ++ third)) out ≡ [] = drop_of_length-le out {i = length (front ++ first ++ second ++ third)} (omega arith) in
    let two : f ≡ sets out 0 (front ++ first) = q ∙ rw (p, ← at_8) (sets_join front first out 0) in
    front_written (front ++ first ++ second) third out (s ∙ rw (two, ← at_72) (sets_join (front ++ first) second out 0)) (rw three u) (omega arith)
    ∙ rw (none, append-nil)
