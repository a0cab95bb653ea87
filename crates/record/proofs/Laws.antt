-- Laws of a record: what its ranges say of its factors, how much a deposit can be, and that it grows with the mass.
use mathlib.Core.Path.{◌≡◌}
use mathlib.Core.Bool.{true}
use mathlib.Core.List.{List}
use Prim.Native.Nat.{ℕ, ◌+◌, ◌*◌, ◌≤◌, zero-le}
use native.Mathlib.Nat.{mul-le-mul, mul-le-mul_right}
use native.Mathlib.Omega.{arith}
use borrow.Author.Tests.{leb-true}
use lib.Dec.{eqb, leb}
use Rattle.numbers.proofs.Eight.{both_true, all_true, cond_most}
use Rattle.numbers.proofs.Fault.{between_high}
use Rattle.waste.specs.Waste.{mass_limit, carbon_of, most_dry, most_carbon_of, inert}
use Rattle.waste.proofs.Laws.{carbon_most, highest_most, inert_no_carbon}
use Rattle.record.specs.Fields.{dry_of, mass_of, deposit_of, most_deposit}
use Rattle.record.specs.Ranges.{ranges, in_range, dry_in_range, light}
use Rattle.record.specs.declared.factors.Factors.{Factors}

pub record Ranged (v : Factors) : Type 0 where
  pub factor : v.factor ≤ 100
  pub oxidation : v.oxidation ≤ 100
  pub methane : v.methane ≤ 100
  pub docf : v.docf ≤ 100
  pub potential : v.potential ≤ 100
  pub captured : v.captured ≤ 10000

pub ranged : (v : Factors) → in_range v ≡ true → Ranged v
unfolding in_range
ranged v e =
    let p = all_true (ranges v) e in
    record {
      factor = between_high 1 v.factor 100 p.0;
      oxidation = leb-true v.oxidation 100 p.1.0;
      methane = leb-true v.methane 100 p.1.1.0;
      docf = leb-true v.docf 100 p.1.1.1.0;
      potential = between_high 1 v.potential 100 p.1.1.1.1.0;
      captured = leb-true v.captured 10000 p.1.1.1.1.1.0;
    }

pub mass_light : (bytes : List ℕ) (t : ℕ) → light bytes t ≡ true → mass_of bytes t ≤ mass_limit
unfolding light
mass_light bytes t e = leb-true (mass_of bytes t) mass_limit e

pub dry_most : (bytes : List ℕ) (waste : ℕ) → dry_in_range bytes ≡ true → dry_of bytes waste ≤ most_dry
unfolding dry_in_range dry_of
dry_most bytes waste e =
    let p = both_true (leb (dry_of bytes 7) most_dry) (leb (dry_of bytes 8) most_dry) e in
    cond_most (eqb waste 7) (leb-true (dry_of bytes 7) most_dry p.0) (cond_most (eqb waste 8) (leb-true (dry_of bytes 8) most_dry p.1) zero-le)

-- A record brings no more than its type's share of the ceiling, and no type more than any can.
pub deposit_within : (bytes : List ℕ) (t : ℕ) → light bytes t ≡ true → dry_in_range bytes ≡ true → deposit_of bytes t ≤ mass_limit * most_carbon_of (t + 1) * 100
unfolding deposit_of
deposit_within bytes t e f =
    let m : mass_of bytes t * carbon_of (t + 1) (dry_of bytes (t + 1)) ≤ mass_limit * most_carbon_of (t + 1)
    = mul-le-mul (mass_light bytes t e) (carbon_most (t + 1) (dry_of bytes (t + 1)) (dry_most bytes (t + 1) f)) in
    omega arith

pub deposit_most : (bytes : List ℕ) (t : ℕ) → light bytes t ≡ true → dry_in_range bytes ≡ true → deposit_of bytes t ≤ most_deposit
deposit_most bytes t e f = omega (arith, deposit_within bytes t e f, highest_most (t + 1))

-- With the same dry matter, more mass brings no less.
pub deposit_grows : (one other : List ℕ) (t : ℕ) → dry_of one (t + 1) ≡ dry_of other (t + 1) → mass_of one t ≤ mass_of other t → deposit_of one t ≤ deposit_of other t
unfolding deposit_of
deposit_grows one other t dry h = rw dry (omega (arith, mul-le-mul_right (carbon_of (t + 1) (dry_of other (t + 1))) h))

-- Inert waste brings no carbon, and so has none to release or to keep.
pub inert_brings_none : (bytes : List ℕ) (t : ℕ) → inert t ≡ true → deposit_of bytes t ≡ 0
unfolding deposit_of
inert_brings_none bytes t e = rw (inert_no_carbon t (dry_of bytes (t + 1)) e) (omega arith)
