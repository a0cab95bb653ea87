-- n is small, so the ceiling fits; and a sum of R and what was released that 64 bits do not hold comes out below R.
use Rattle.std.proofs.Common.{◌≡◌, ℕ, ◌+◌, ◌*◌, ◌%◌, ◌^◌, ◌<◌, ◌≤◌, true, refl, eqb, leb, mod-eq_of_lt, arith, rules, ne_eqb, le-leb}
use mathlib.Core.Bool.{and-false}
use native.Mathlib.Decide.{ℕ_discrete}
use borrow.Author.Tests.{lt-leb}
use Rattle.waste.specs.Waste.{mass_limit, most_carbon_of}
use Rattle.carbon.specs.Carbon.{ceiling_of, within_of}
use Rattle.carbon.proofs.is_within.Goals as goal

-- where R is at most T, the sum in 64 bits tells what the true sum tells
true_sum : (T R released : ℕ) → R ≤ T → T < 2 ^ 64 → released < 2 ^ 64 → eqb ((released + R) % 2 ^ 64) T ≡ eqb (released + R) T
true_sum T R released kept small wide =
    elim (ℕ_discrete (released + R) T) [
      | yes q ↦ simp (q, mod-eq_of_lt small)
      | no q ↦ simp (ne_eqb (released + R) T q, ne_eqb ((released + R) % 2 ^ 64) T (λ z. omega (arith, q, wide)))
    ]

-- the ceiling, as it is worked out
ceiling_is : (n t carbon : ℕ) → carbon ≡ most_carbon_of (t + 1) → n * mass_limit * carbon * 100 ≡ ceiling_of n t
unfolding ceiling_of
ceiling_is n t carbon e = rw e refl

pub returns-then-brought-ceiling : goal.returns-then-brought-ceiling
unfolding within_of
returns-then-brought-ceiling c =
    let a = c.args in
    let above : ceiling_of a.n a.t < a.brought = rw (ceiling_is a.n a.t c.carbon.result c.carbon.ensures) at c.if-brought-ceiling.true in
    simp (lt-leb a.brought (ceiling_of a.n a.t) above)

pub returns-then-left-brought : goal.returns-then-left-brought
unfolding within_of
returns-then-left-brought c =
    let a = c.args in
    simp (lt-leb a.left a.brought c.if-left-brought.true, and-false (leb a.brought (ceiling_of a.n a.t)))

pub returns : goal.returns
unfolding within_of
returns c =
    let a = c.args in
    let within : a.brought ≤ ceiling_of a.n a.t = rw (ceiling_is a.n a.t c.carbon.result c.carbon.ensures) at c.if-brought-ceiling.false in
    let high : leb a.brought (ceiling_of a.n a.t) ≡ true = le-leb a.brought (ceiling_of a.n a.t) within in
    simp (high, le-leb a.left a.brought c.if-left-brought.false)
    (true_sum a.brought a.left a.released c.if-left-brought.false (search rules) (search rules))
