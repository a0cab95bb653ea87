-- The loop has written the lines of the first i output records, none longer than 90 bytes.
use mathlib.Core.Path.{◌≡◌, refl}
use Prim.Native.Nat.{◌*◌}
use native.Mathlib.Numerals.{add-one}
use native.Mathlib.Omega.{arith}
use Rattle.line.specs.Writing.{Writes}
use Rattle.line.proofs.LineLaws.{line_is}
use Rattle.line.proofs.Writing.{write_on}
use Rattle.lines.specs.Outputs.{output_text, output_lines}
use Rattle.lines.proofs.writing.put_lines.Goals as goal

pub put-end-requires : goal.put-end-requires
put-end-requires c =
    let h = c.loop-i in
    let lent = c.line_at.ensures.lendable in
    record { lendable = lent; len_in_bounds = omega (arith, lent.within, h.invariant.1, h.invariant.0.as_many, c.loop-i-test.true, c.requires.1) }

pub loop-i-preserved : goal.loop-i-preserved
unfolding output_lines
loop-i-preserved c =
    let h = c.loop-i in
    let out = c.args.out.now in
    let put = c.put-end.ensures in
    let lent = c.line_at.ensures.lendable in
    let said : Writes h.text h.end (output_text out (48 * h.i)) c.put-end.new.text c.put-end.result
    = rw (line_is c.line_at.ensures.value) at put in (
      rw (add-one h.i) (write_on h.invariant.0 said),
      omega (arith, put.ends, lent.whole, lent.within, h.invariant.1),
    )

pub returns : goal.returns
returns c =
    let h = c.loop-i in
    let all : h.i ≡ c.args.count = omega (arith, c.loop-i-test.false) in
    record { writes = rw all at h.invariant.0; upper_bound = rw all at h.invariant.1 }

pub loop-i-init : goal.loop-i-init
unfolding output_lines
loop-i-init c = (record { stands = refl; as_many = refl; ends = omega arith }, omega arith)

pub shape_of-text : goal.shape_of-text
unfolding output_lines
shape_of-text c = c.loop-i.invariant.0.as_many
