-- Past both tests the shifted 1 is the bit of the type; else the byte has no bit.
use mathlib.Core.Path.{◌≡◌, sym, ap, ◌∙◌}
use Prim.Native.Nat.{ℕ, ◌+◌, ◌<◌}
use native.Mathlib.Omega.{arith}
use lib.Bits.{bit_or, or_zero_r}
use lib.Dec.{eqb}
use Rattle.order.specs.Order.{eight_bits}
use Rattle.order.proofs.Bits.{bit_of_lem, bit_of_none}
use Rattle.order.proofs.types.seen_with.Goals as goal

adds-nothing : (seen byte : ℕ) → ((k : ℕ) → k < 8 → byte ≡ k + 1 → ⊥) → seen ≡ bit_or seen (eight_bits (λ k. eqb byte (k + 1)))
adds-nothing seen byte h = sym (ap (bit_or seen) (bit_of_none byte h) ∙ or_zero_r seen)

pub returns-then-byte-eq0 : goal.returns-then-byte-eq0
returns-then-byte-eq0 c = adds-nothing _ _ (λ k l e. omega arith)

pub returns-then-byte-gt-TYPES : goal.returns-then-byte-gt-TYPES
returns-then-byte-gt-TYPES c = adds-nothing _ _ (λ k l e. omega arith)

pub returns : goal.returns
returns c = let a = c.args in ap (bit_or a.seen) (bit_of_lem a.byte (omega arith) (omega arith))
