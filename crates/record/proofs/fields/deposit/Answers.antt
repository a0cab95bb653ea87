-- A mass of 32 bits and a carbon content of 16 have a product that fits; there is no ninth type.
use mathlib.Core.Path.{◌≡◌}
use mathlib.Core.List.{◌∷◌}
use Prim.Native.Nat.{◌+◌, ◌*◌, ◌^◌, ◌≤◌, ◌<◌}
use native.Mathlib.Nat.{mul-le-mul}
use native.Mathlib.Omega.{arith}
use borrow.Author.Rules.{rules}
use lib.ListN.{get_or-eq_default}
use Rattle.waste.specs.Waste.{carbons, carbon_of}
use Rattle.record.specs.Fields.{dry_of, deposit_of}
use Rattle.record.proofs.fields.deposit.Goals as goal

no_type : (bytes t : _) → 7 < t → 0 ≡ deposit_of bytes t
unfolding deposit_of carbon_of
no_type bytes t h =
    let m = dry_of bytes (t + 1) in
    let none : carbon_of (t + 1) m ≡ 0 = get_or-eq_default (0 ∷ carbons m) 0 {n = t + 1} (omega arith) in
    rw none (omega arith)

fits : (c : goal.After-carbon) → c.mass.result * c.carbon.result ≤ 2 ^ 32 * 2 ^ 16
fits c = mul-le-mul {n₂ = 2 ^ 32} {m₂ = 2 ^ 16} (search rules) (search rules)

pub returns : goal.returns
unfolding deposit_of
returns c = rw (c.carbon.ensures, c.dry.ensures, c.mass.ensures)

pub returns-then-t-gt7 : goal.returns-then-t-gt7
returns-then-t-gt7 c = no_type _ _ c.if-t-gt7.true

pub overflow_mul-result : goal.overflow_mul-result
overflow_mul-result c = omega (arith, fits c)

pub overflow_mul-result-2 : goal.overflow_mul-result-2
overflow_mul-result-2 c = omega (arith, fits c)
