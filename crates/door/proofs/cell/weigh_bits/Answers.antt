-- `weigh_bits` is right: each test says of the exponent what the law of its answer asks (Bits.antt).
use borrow.Author.Tests.{leb-true, leb-false}
use native.Mathlib.Omega.{arith}
use lib.Ieee.{binary64, of_bits}
use Rattle.door.proofs.Bits.{with_point, zero_is_0, below_one_11, not_finite_11, large_12}
use Rattle.door.proofs.cell.weigh_bits.Goals as goal

pub returns-then-size-eq0 : goal.returns-then-size-eq0
returns-then-size-eq0 c = zero_is_0 _ (omega arith)

pub returns-then-exponent-lt-ONE : goal.returns-then-exponent-lt-ONE
returns-then-exponent-lt-ONE c = below_one_11 _ (omega arith) (omega arith)

pub returns-then-exponent-eq-NOT_FINITE : goal.returns-then-exponent-eq-NOT_FINITE
returns-then-exponent-eq-NOT_FINITE c = not_finite_11 _ (omega arith)

pub returns-then-exponent-ge-ALL_WHOLE : goal.returns-then-exponent-ge-ALL_WHOLE
returns-then-exponent-ge-ALL_WHOLE c = large_12 _ (omega arith) (omega arith)

pub returns : goal.returns
returns c = let b = c.args.bits in
    c.weigh_digits.ensures (of_bits binary64 b)
    (with_point b _ _ _ (λ t. omega (arith, leb-true)) (λ t. omega (arith, leb-false)) (omega arith) (omega arith) (omega arith))
