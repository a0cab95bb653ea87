-- Each test says what the law of its answer asks (Answer.antt); where all pass, the fractions make up the whole (Laws.antt).
use mathlib.Core.Path.{◌≡◌, sym, ◌∙◌}
use mathlib.Core.Bool.{true}
use mathlib.Core.List.{List}
use Prim.Native.Nat.{ℕ}
use native.Mathlib.Nat.{le_of_eq}
use native.Mathlib.Omega.{arith}
use lib.Dec.{lit≤}
use Rattle.std.proofs.Common.{Option, Some, None, Result, Err}
use Rattle.std.specs.Option.{ok_or}
use Rattle.std.proofs.lemmas.Result.{err_from_is_err_and}
use Rattle.samples.specs.declared.SamplesRefusal.{SamplesRefusal}
use Rattle.samples.specs.declared.SamplesRefusal.TheVariants.{NotWhole}
use Rattle.samples.specs.Samples.{number_of}
use Rattle.samples.proofs.Answer.{Right, number_within, too_large, wrong_number, sample_not_whole, taken, parted}
use Rattle.samples.proofs.Laws.{by_type, all_types}
use Rattle.samples.proofs.Chunks.{none_when, some_when}
use Rattle.samples.proofs.masses.Goals as goal

pub returns-then-total-gt-MASS_LIMIT : goal.returns-then-total-gt-MASS_LIMIT
returns-then-total-gt-MASS_LIMIT c = too_large _ _ _ c.if-total-gt-MASS_LIMIT.true

pub returns-then-not-is_right_number : goal.returns-then-not-is_right_number
returns-then-not-is_right_number c = wrong_number _ _ _ c.if-total-gt-MASS_LIMIT.false (sym c.is_right_number.ensures ∙ c.if-not-is_right_number.true)

-- the one refusal that is left there
only_why : (added : Option (List ℕ)) (why : SamplesRefusal) → added ≡ None → ◌≡◌ {A = Result (List ℕ) SamplesRefusal} (Err why) (ok_or added NotWhole)
    → why ≡ NotWhole
only_why None why none e = cc
only_why (Some added) why none e = cc

pub returns-in_err-fractions : goal.returns-in_err-fractions
returns-in_err-fractions c =
    let right : Right c.args.kind c.args.samples.now true = sym c.is_right_number.ensures ∙ c.if-not-is_right_number.false in
    let none : c.add_samples.result ≡ None = c.in_err-fractions.ensures.ok_part in
    let p = err_from_is_err_and c.from_residual.result c.from_residual.ensures.1 in
    rw (p.1, p.2, only_why _ _ none c.in_err-fractions.ensures.value) (sample_not_whole _ _ _ c.if-total-gt-MASS_LIMIT.false right (none_when _ _ (sym none ∙ c.add_samples.ensures)))

-- where all samples add up, the fractions of all types make up the whole
pub part-requires : goal.part-requires
part-requires c =
    let samples = c.args.samples.now in
    let right : Right c.args.kind samples true = sym c.is_right_number.ensures ∙ c.if-not-is_right_number.false in
    let some = number_within c.args.kind samples right in
    let made = some_when _ _ _ (sym c.in_ok-fractions.ensures.ok_part ∙ c.add_samples.ensures) in (
      c.if-total-gt-MASS_LIMIT.false,
      omega (arith, some.0),
      omega (arith, some.1),
      le_of_eq (by_type samples (number_of samples) c.in_ok-fractions.fractions made.1 8 (lit≤ tt) ∙ all_types samples (number_of samples) made.0),
    )

pub returns : goal.returns
returns c =
    let samples = c.args.samples.now in
    let right : Right c.args.kind samples true = sym c.is_right_number.ensures ∙ c.if-not-is_right_number.false in
    let made = some_when _ _ _ (sym c.in_ok-fractions.ensures.ok_part ∙ c.add_samples.ensures) in
    taken c.args.kind c.args.total samples c.if-total-gt-MASS_LIMIT.false right made.0 c.part.result
    (parted c.args.total samples c.in_ok-fractions.fractions made.1 c.part.result c.part.ensures)
