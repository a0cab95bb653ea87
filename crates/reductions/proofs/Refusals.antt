-- A refused stretch has a number, and each reason one of its own.
use mathlib.Core.Path.{◌≡◌, refl, sym, ap, ◌∙◌}
use mathlib.Core.Bool.{cond}
use Prim.Native.Nat.{ℕ}
use native.Mathlib.Omega.{arith}
use lib.Dec.{eqb}
use Rattle.std.specs.Prelude.{Result, Ok, Err}
use Rattle.reductions.specs.Refusal.{number_of, refusal_number}
use Rattle.reductions.specs.declared.grams.StretchRefusal.{StretchRefusal}
use Rattle.reductions.specs.declared.grams.StretchRefusal.TheVariants.{NotWithin, OverLimit}

pub number_some : (why : StretchRefusal) → number_of why ≡ 0 → ⊥
number_some NotWithin e = omega arith
number_some OverLimit e = omega arith

-- the answer that has a number
answer_of : ℕ → Result Unit StretchRefusal
answer_of n = cond (eqb n 0) (Ok tt) (cond (eqb n 24) (Err NotWithin) (Err OverLimit))

same_answer : (answer : Result Unit StretchRefusal) → answer_of (refusal_number answer) ≡ answer
unfolding answer_of
same_answer (Ok tt) = refl
same_answer (Err NotWithin) = refl
same_answer (Err OverLimit) = refl

-- So the number leaves one answer.
pub one_refusal : (a b : Result Unit StretchRefusal) → refusal_number a ≡ refusal_number b → a ≡ b
one_refusal a b e = sym (same_answer a) ∙ ap answer_of e ∙ same_answer b
