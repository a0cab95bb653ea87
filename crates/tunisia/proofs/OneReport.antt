-- The numbers of an answer leave one answer.
use mathlib.Core.Path.{◌≡◌, refl, sym, ap, ◌∙◌}
use mathlib.Core.Bool.{cond}
use Prim.Native.Nat.{ℕ}
use lib.Dec.{eqb}
use Rattle.std.specs.Prelude.{Result, Ok, Err}
use Rattle.refusal.specs.Numbers.{numbered}
use Rattle.refusal.proofs.Numbers.{one_refusal}
use Rattle.reductions.specs.declared.grams.StretchRefusal.{StretchRefusal}
use Rattle.reductions.specs.declared.grams.StretchRefusal.TheVariants.{NotWithin, OverLimit}
use Rattle.tunisia.specs.Reduction.{Reduction}
use Rattle.tunisia.specs.Numbers.{with_amounts, numbers_of}
use Rattle.tunisia.specs.declared.Amounts.{Amounts}
use Rattle.tunisia.specs.declared.YearsReport.{YearsReport}

years_in : (amounts : Result Amounts StretchRefusal) (years refused : ℕ) → (with_amounts amounts years refused).years ≡ years
years_in (Ok all) years refused = refl
years_in (Err why) years refused = refl

refused_in : (amounts : Result Amounts StretchRefusal) (years refused : ℕ) → (with_amounts amounts years refused).refused ≡ refused
refused_in (Ok all) years refused = refl
refused_in (Err why) years refused = refl

-- the amounts that have these numbers
amounts_of : Reduction → Result Amounts StretchRefusal
amounts_of n =
    cond (eqb n.refusal 0)
    (Ok (record { reference = n.reference; project = n.project; reduction = n.reduction; bound = n.bound }))
    (cond (eqb n.refusal 24) (Err NotWithin) (Err OverLimit))

same_amounts : (amounts : Result Amounts StretchRefusal) (years refused : ℕ) → amounts_of (with_amounts amounts years refused) ≡ amounts
unfolding amounts_of
same_amounts (Ok all) years refused = refl
same_amounts (Err NotWithin) years refused = refl
same_amounts (Err OverLimit) years refused = refl

pub one_report : (a b : YearsReport) → numbers_of a ≡ numbers_of b → a ≡ b
one_report a b e =
    let p = numbered a.refused in
    let q = numbered b.refused in
    let amounts : a.amounts ≡ b.amounts
    = sym (same_amounts a.amounts a.years p) ∙ ap amounts_of e ∙ same_amounts b.amounts b.years q in
    let years : a.years ≡ b.years
    = sym (years_in a.amounts a.years p) ∙ ap (λ (n : Reduction). n.years) e ∙ years_in b.amounts b.years q in
    let refused : a.refused ≡ b.refused
    = one_refusal a.refused b.refused (sym (refused_in a.amounts a.years p) ∙ ap (λ (n : Reduction). n.refused) e ∙ refused_in b.amounts b.years q) in
    λ i. record { amounts = amounts i; years = years i; refused = refused i }
