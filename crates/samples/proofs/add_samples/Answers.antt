-- Each sample is the next of them all (Chunks.antt): it is added where those before it add up, and the loop ends where they do not.
use mathlib.Core.Path.{◌≡◌, refl, sym, ap, ◌∙◌}
use mathlib.Core.Bool.{true, false}
use Prim.Native.Nat.{ℕ, ◌+◌, ◌<◌}
use native.Mathlib.Numerals.{add-one}
use native.Mathlib.Omega.{arith}
use lib.Dec.{eqb}
use lib.ListN.{length, get_or}
use Rattle.std.proofs.lemmas.List.{length_push}
use Rattle.numbers.specs.Eight.{every_of}
use Rattle.numbers.proofs.Eight.{eight_at, eight_same, sum_more, every_fewer}
use Rattle.samples.specs.Samples.{whole_sample, fraction_at, adds_up, number_of}
use Rattle.samples.proofs.Laws.{of_place, one_type}
use Rattle.samples.proofs.Chunks.{fraction_same, adds_up_same, room, rest_is}
use Rattle.samples.proofs.add_samples.Goals as goal

pub returns-then-not-is_whole : goal.returns-then-not-is_whole
returns-then-not-is_whole c =
    let samples = c.args.samples.now in
    let n = length c.loop-sample.yielded in
    let bad : every_of (adds_up samples) n ≡ false = sym c.loop-sample.invariant.4 ∙ sym c.is_whole.ensures ∙ c.if-not-is_whole.true in
    rw (every_fewer (adds_up samples) n (number_of samples) (omega (arith, c.loop-sample.invariant.2)) bad) refl

pub add_sample-requires-clause-before_small : goal.add_sample-requires-clause-before_small
add_sample-requires-clause-before_small c =
    let samples = c.args.samples.now in
    let n = length c.loop-sample.yielded in
    let up : every_of (adds_up samples) n ≡ true = sym c.loop-sample.invariant.4 ∙ sym c.is_whole.ensures ∙ c.if-not-is_whole.false in
    λ t h. rw (c.loop-sample.invariant.3, eight_at (of_place samples n) t h) (omega (arith, one_type samples n up t h, c.loop-sample.invariant.2))

pub loop-sample-preserved : goal.loop-sample-preserved
unfolding adds_up
loop-sample-preserved c =
    let samples = c.args.samples.now in
    let n = length c.loop-sample.yielded in
    let here = sym c.loop-sample.invariant.1 ∙ c.in-Some.ensures.steps.1.0 in
    let long = c.in-Some.ensures.steps.1.1 ∙ c.loop-sample.invariant.0 in
    let before : (t : ℕ) → t < 8 → get_or c.loop-sample.added t 0 ≡ of_place samples n t
    = λ t h. rw c.loop-sample.invariant.3 (eight_at (of_place samples n) t h) in
    let up : every_of (adds_up samples) n ≡ true = sym c.loop-sample.invariant.4 ∙ sym c.is_whole.ensures ∙ c.if-not-is_whole.false in
    let whole : every_of (adds_up samples) (n + 1) ≡ adds_up samples n = rw (add-one n, up) refl in
    rw (length_push c.loop-sample.yielded c.in-Some.sample) (
      c.in-Some.ensures.steps.0 ∙ c.loop-sample.invariant.0,
      rest_is samples n _ _ here long,
      room samples n _ _ here long,
      c.add_sample.ensures.added
          ∙ eight_same _ (of_place samples (n + 1))
          (λ t h. sum_more (λ m. fraction_at samples m t) n (before t h) (fraction_same samples n _ _ here long t h)),
      ap (λ (sum : ℕ). eqb sum whole_sample) c.add_sample.ensures.sum ∙ adds_up_same samples n _ _ here long ∙ sym whole,
    )
