-- Before a place the loop has counted the types that brought something in, and added the shares, of the types before it.
use Rattle.std.proofs.Common.{◌≡◌, ℕ, ◌+◌, ◌*◌, ◌/◌, ◌^◌, cond, eqb, get_or, add-one, ne_eqb, eq-eqb, arith}
use native.Mathlib.Decide.{ℕ_discrete}
use Rattle.figure.specs.Figure.{margin_of, b_of}
use Rattle.figure.proofs.margins.Goals as goal

-- what one type counts, in both parts
margin_is : (n T : ℕ) {one share : ℕ} → one ≡ cond (eqb T 0) 0 1 → share ≡ n * T / 10 ^ 9 → one * (n + 1) + share ≡ margin_of n T
unfolding margin_of
margin_is n T e s =
    elim (ℕ_discrete T 0) [
      | yes z ↦ rw (e, s) (simp (eq-eqb T 0 z) (rw z (omega arith)))
      | no z ↦ rw (e, s) (simp (ne_eqb T 0 z) (omega arith))
    ]

-- one type more
goes_on : (types one n shares share : ℕ) {sum margin : ℕ} → types * (n + 1) + shares ≡ sum → one * (n + 1) + share ≡ margin
    → (types + one) * (n + 1) + (shares + share) ≡ sum + margin
goes_on types one n shares share e m = omega (arith, e, m)

pub loop-of_type-preserved : goal.loop-of_type-preserved
loop-of_type-preserved c =
    let a = c.args in
    let at = c.loop-of_type in
    let T = get_or a.brought at.of_type-index 0 in (
      rw (add-one at.of_type-index) (goes_on at.types c.counted-types.result a.n at.shares c.share-shares.result at.invariant.0
          (margin_is a.n T c.counted-types.ensures.0 c.share-shares.ensures.0)),
      omega (arith, at.invariant.1, c.counted-types.ensures.1),
      omega (arith, at.invariant.2, c.share-shares.ensures.1),
    )

pub returns : goal.returns
unfolding b_of
returns c =
    let all : c.loop-of_type.of_type-index ≡ 8 = omega arith in
    rw all at c.loop-of_type.invariant.0
