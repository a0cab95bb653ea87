-- The public functions of `waste`.
use mathlib.Core.Path.{◌≡◌, refl, sym, ap, ◌∙◌}
use mathlib.Core.Bool.{true, false}
use native.Mathlib.Omega.{arith}
use Rattle.std.specs.Prelude.{ℕ, Option, Some, None, MatchOption}
use Rattle.waste.specs.Kind.{is_kind, code_of}
use Rattle.waste.specs.declared.Kind.{Kind}
use Rattle.waste.specs.declared.Kind.TheVariants.{Yearly, Monthly}
use Rattle.waste.proofs.carbon.Reads as carbon
use Rattle.waste.proofs.Kind.of.Reads as kind-of
use Rattle.waste.proofs.is_kind.Reads as is-kind
use Rattle.waste.proofs.is_climate.Reads as is-climate
use Rattle.waste.proofs.rate.Reads as rate
use Rattle.waste.proofs.rates.Reads as rates
use Rattle.waste.proofs.is_class.Reads as is-class
use Rattle.waste.proofs.correction.Reads as correction
use Rattle.promise_answers.proofs.OneAnswer.{OneAnswer, by_equation}

pub carbon_one : OneAnswer carbon.Learnt
carbon_one = by_equation (λ κs a r s p. p)

-- A kind has a kind's code, and two kinds have two.
kind_coded : (kind : Kind) → is_kind (code_of kind) ≡ true
kind_coded Yearly = refl
kind_coded Monthly = refl

one_kind : (a b : Kind) → code_of a ≡ code_of b → a ≡ b
one_kind Yearly Yearly e = refl
one_kind Yearly Monthly e = absurd (omega (arith, e))
one_kind Monthly Yearly e = absurd (omega (arith, e))
one_kind Monthly Monthly e = refl

no_kind : (code : ℕ) (kind : Kind) → is_kind code ≡ false → code_of kind ≡ code → ⊥
no_kind code kind none e = let h : true ≡ false = sym (kind_coded kind) ∙ ap is_kind e ∙ none in cc

one_kind_of : (code : ℕ) (a b : Option Kind) → MatchOption a (is_kind code ≡ false) (λ kind. code_of kind ≡ code) → MatchOption b (is_kind code ≡ false) (λ kind. code_of kind ≡ code) → a ≡ b
one_kind_of code None None p q = refl
one_kind_of code None (Some kind) p q = absurd (no_kind code kind p q)
one_kind_of code (Some kind) None p q = absurd (no_kind code kind q p)
one_kind_of code (Some kind) (Some other) p q = ap Some (one_kind kind other (p ∙ sym q))

pub kind_of_one : OneAnswer kind-of.Learnt
kind_of_one κs a r r' s s' p q = one_kind_of a.0 r r' p q

pub is_kind_one : OneAnswer is-kind.Learnt
is_kind_one = by_equation (λ κs a r s p. p)

pub is_climate_one : OneAnswer is-climate.Learnt
is_climate_one = by_equation (λ κs a r s p. p)

pub rate_one : OneAnswer rate.Learnt
rate_one = by_equation (λ κs a r s p. p)

pub rates_one : OneAnswer rates.Learnt
rates_one = by_equation (λ κs a r s p. p)

pub is_class_one : OneAnswer is-class.Learnt
is_class_one = by_equation (λ κs a r s p. p)

pub correction_one : OneAnswer correction.Learnt
correction_one = by_equation (λ κs a r s p. p)
