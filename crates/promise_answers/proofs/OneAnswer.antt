-- Any two answers that meet a public function's contract are equal, and so are the contents that it allows each lent buffer. Below
-- this file stands one for each crate; `F.Learnt` is what the contract of F says of a result and of what each reference has at exit.
use mathlib.Core.Path.{◌≡◌, sym, ◌∙◌}
pub mod Numbers
pub mod Decay
pub mod Waste
pub mod Record
pub mod Output
pub mod Carbon
pub mod Figure
pub mod YearFactors
pub mod Refusal
pub mod Ledger
pub mod Run
pub mod Image
pub mod Door
pub mod Samples
pub mod Uncertainty
pub mod Order
pub mod Reductions
pub mod Tunisia
pub mod Releases
pub mod Columns
pub mod YearlyTotals
pub mod Line
pub mod Lines
pub mod Calls
pub mod Landfill

infixr 4 ◌&◌
-- A result r and the buffers s at exit, with what they say of the answer: the same for any two answers that a contract allows.
module _ {K : Type 0} {A R S : K → Type 0} (Learnt : (κs : K) → A κs → R κs → S κs → Type 0) where
  abbrev pub Settled : {C : K → Type 0} → ((κs : K) → R κs → S κs → C κs) → Type 0
  Settled says = (κs : K) (a : A κs) (r r' : R κs) (s s' : S κs) → Learnt κs a r s → Learnt κs a r' s' → says κs r s ≡ says κs r' s'

  -- The result alone.
  abbrev pub OneAnswer : Type 0
  OneAnswer = Settled (λ κs r s. r)

-- A contract that is an equation settles what it says.
pub by_equation : {K : Type 0} {A R S C : K → Type 0} {Learnt : (κs : K) → A κs → R κs → S κs → Type 0}
    {says : (κs : K) → R κs → S κs → C κs} {is : (κs : K) → A κs → C κs}
    → ((κs : K) (a : A κs) (r : R κs) (s : S κs) → Learnt κs a r s → says κs r s ≡ is κs a) → Settled Learnt says
by_equation e κs a r r' s s' p q = e κs a r s p ∙ sym (e κs a r' s' q)

-- a result and a buffer, or two buffers
abbrev pub ◌&◌ : {A B : Type 0} → A → B → A × B
a & b = (a, b)

pub both : {A B : Type 0} {a a' : A} {b b' : B} → a ≡ a' → b ≡ b' → (a & b) ≡ (a' & b')
both p q = λ i. (p i, q i)
