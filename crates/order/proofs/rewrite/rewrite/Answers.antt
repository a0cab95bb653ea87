-- One record more, with its byte of the report and the bits of that byte; a byte has eight, so the count fits.
use mathlib.Core.Path.{◌≡◌, refl, sym, ap, ◌∙◌}
use mathlib.Core.List.{List}
use Prim.Native.Nat.{ℕ, ◌+◌, ◌*◌, ◌≤◌, ◌<◌}
use native.Mathlib.Omega.{arith}
use lib.Count.{ones}
use lib.ListN.{length, get_or, set}
use lib.Seq.{sets, length-sets}
use Rattle.std.specs.Iterator.Adapters.{enumerate_count}
use Rattle.numbers.specs.Eight.{sum_of}
use Rattle.numbers.proofs.Eight.{sum_more, sum_most}
use Rattle.numbers.proofs.Joined.{joined_more}
use Rattle.order.specs.Order.{eight_bits}
use Rattle.order.specs.Repair.{rewritten, is_other, record_in, number_of_records}
use Rattle.order.proofs.Bits.{eight_most, ones_bits}
use Rattle.order.proofs.Records.{whole_record, rewritten_length, next_record, next_within, next_rest}
use Rattle.order.proofs.rewrite.rewrite.Invariants.{other, anew, byte, bits}
use Rattle.order.proofs.rewrite.rewrite.Goals as goal

module _ (file places : List ℕ) where
  each-whole : ((t : ℕ) → t < 8 → get_or places t 0 < 8) → (q : ℕ) → q < number_of_records file → length (anew file places q) ≡ 48
  each-whole near q l = rewritten_length (record_in file q) (whole_record file q l) (λ u. get_or places u 0) near

  -- how many bits the record's byte of the report has
  counted : (q : ℕ) → ones (eight_bits (other file places q)) ≡ bits file places q
  unfolding eight_bits
  counted q = ones_bits (other file places q) 8

  few : (q : ℕ) → sum_of (bits file places) q ≤ q * 8
  few q = sum_most (bits file places) 8 q (λ p l. eight_most (other file places p))

pub overflow_add-changed : goal.overflow_add-changed
overflow_add-changed c =
    let file = c.args.file.now in
    let loop = c.loop-q in
    let q = enumerate_count loop.q-iterator in
    let steps = c.in-Some.ensures.steps in
    let more = next_within file q _ _ (sym loop.invariant.1 ∙ steps.0.1.0) (steps.0.1.1 ∙ loop.invariant.0) in
    omega (arith, loop.invariant.5, few file c.args.places q, c.ones_in-changed.ensures.1, more)

pub loop-q-preserved : goal.loop-q-preserved
loop-q-preserved c =
    let file = c.args.file.now in
    let places = c.args.places in
    let loop = c.loop-q in
    let q = enumerate_count loop.q-iterator in
    let steps = c.in-Some.ensures.steps in
    let here = sym loop.invariant.1 ∙ steps.0.1.0 in
    let whole = steps.0.1.1 ∙ loop.invariant.0 in
    let wrote = c.write_record-bits in
    let from : ℕ → ℕ = λ u. get_or places u 0 in
    let is : c.in-Some.«record».now ≡ record_in file q = next_record file q _ _ here whole in
    let within : q ≤ number_of_records file = omega (arith, loop.invariant.2) in
    let start-at : 48 * q ≡ 0 + 48 * q = omega arith in
    let place : 0 + 1 * q ≡ q = omega arith in
    let value : wrote.result ≡ eight_bits (other file places q)
    = wrote.ensures.value ∙ ap (λ (bytes : List ℕ). eight_bits (is_other from bytes)) is in
    let anew-at : wrote.new.out ≡ sets loop.out (0 + 48 * q) (anew file places q)
    = wrote.ensures.out_after ∙ ap (λ (k : ℕ). sets loop.out (48 * k) (rewritten from c.in-Some.«record».now)) steps.1
    ∙ ap (λ (bytes : List ℕ). sets loop.out (48 * q) (rewritten from bytes)) is
    ∙ ap (λ (at : ℕ). sets loop.out at (anew file places q)) start-at in
    let noted : set loop.report q wrote.result ≡ sets loop.report (0 + 1 * q) (byte file places q) = rw place (ap (set loop.report q) value) in
    let out = joined_more (anew file places) 48 (number_of_records file) (each-whole file places c.requires.2) q within c.args.out.now 0 loop.invariant.3 anew-at in
    let report = joined_more (byte file places) 1 (number_of_records file) (λ t l. refl) q within c.args.report.now 0 loop.invariant.4 noted in
    rw (steps.2, steps.1) (
      steps.0.0 ∙ loop.invariant.0,
      next_rest file q _ _ here whole,
      next_within file q _ _ here whole,
      out,
      report,
      sum_more (bits file places) q loop.invariant.5 (c.ones_in-changed.ensures.0 ∙ ap ones value ∙ counted file places q),
      rw (out, length-sets),
      rw (report, length-sets),
    )
