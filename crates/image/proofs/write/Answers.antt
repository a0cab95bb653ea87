-- The front and the three rows are the whole image.
use mathlib.Core.Path.{◌≡◌, refl}
use native.Mathlib.Omega.{arith}
use borrow.Author.Tests.{eq-eqb, ne_eqb}
use lib.ListN.{length, get_or}
use Rattle.numbers.specs.Bytes.{row_of}
use Rattle.image.specs.Image.{front_of, image_of, imaged}
use Rattle.image.proofs.Laws.{image_written}
use Rattle.image.proofs.write.Goals as goal

pub returns : goal.returns
unfolding imaged image_of
returns c =
    let l = c.args.ledger in
    let out = c.args.out.now in
    let size : length out ≡ 200 = omega (arith, c.if-out-ne-BYTES.false) in
    simp (eq-eqb (length out) 200 size)
    (image_written (front_of l) (row_of (λ t. get_or l.brought t 0) 8) (row_of (λ t. get_or l.stock t 0) 8) (row_of (λ t. get_or l.released t 0) 8) out
    refl refl refl refl size c.write_front.ensures c.write_eight.ensures c.write_eight-2.ensures c.write_eight-3.ensures)

pub returns-then-out-ne-BYTES : goal.returns-then-out-ne-BYTES
unfolding imaged
returns-then-out-ne-BYTES c = simp (ne_eqb _ _ c.if-out-ne-BYTES.true)
