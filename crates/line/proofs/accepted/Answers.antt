-- Each number is written where the one before it ends, and the five fit: 5 digits and 4 times 20, with a byte after each.
use mathlib.Core.List.{[], ◌∷◌, ◌++◌, append_assoc}
use Prim.Native.Nat.{ℕ, ◌^◌, ◌≤◌, ◌<◌}
use native.Mathlib.Omega.{arith}
use lib.ListN.{length, length-append}
use Rattle.line.specs.Line.{decimal_of, line_text, accepted_text}
use Rattle.line.proofs.Decimal.{few_digits}
use Rattle.line.proofs.Writing.{write_on, written_line}
use Rattle.line.proofs.accepted.Goals as goal

-- a period of 16 bits is below 10 ^ 5
short : (p : ℕ) → p < 2 ^ 16 → length (decimal_of p ++ (32 ∷ [])) ≤ 6
short p fits = omega (arith, few_digits p 4 (omega arith), length-append (decimal_of p) (32 ∷ []))

pub returns : goal.returns
unfolding accepted_text line_text
returns c =
    let three = write_on (write_on c.number-x0_at.ensures.writes c.number-figure_at.ensures.writes) c.number-bound_at.ensures.writes in
    let five = write_on (write_on three c.number-stock_at.ensures.writes) c.number-len.ensures.writes in
    let line = written_line (simp append_assoc at five) (omega (arith, short c.args.period (omega arith))) in
    record { value = line.0; lendable = line.1 }

pub number-len-requires : goal.number-len-requires
number-len-requires c = omega (arith, short c.args.period (omega arith))
