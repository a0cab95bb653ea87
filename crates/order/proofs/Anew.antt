-- A record that is written anew: its first 16 bytes as two numbers, then one mass after another, each with its bit of the report.
use mathlib.Core.Path.{◌≡◌, sym, ap, ◌∙◌}
use mathlib.Core.Bool.{Bool, not}
use mathlib.Core.List.{List, ◌++◌}
use Prim.Native.Nat.{ℕ, ◌+◌, ◌*◌, ◌%◌, ◌^◌, ◌≤◌, ◌<◌}
use native.Mathlib.Omega.{arith}
use borrow.Author.Tests.{eq-eqb, ne_eqb}
use lib.Bits.{bit_or}
use lib.ListN.{length, get_or}
use lib.Seq.{sets, length-sets}
use Rattle.numbers.specs.Bytes.{bytes_of}
use Rattle.numbers.specs.Lists.{joined}
use Rattle.numbers.proofs.Bytes.{sets_join}
use Rattle.numbers.proofs.Joined.{joined_more}
use Rattle.record.specs.Fields.{mass_of}
use Rattle.order.specs.Repair.{mass_bytes, rewritten, is_other}
use Rattle.order.proofs.Bits.{bits_below, set_next, pass_next}
use Rattle.order.proofs.Records.{bytes_of_mass, mass_length, mass_from}

module _ (bytes : List ℕ) (at : ℕ) (places : List ℕ) where
  abbrev pub moved : ℕ → List ℕ
  moved t = mass_bytes bytes (get_or places t 0)

  abbrev pub others : ℕ → Bool
  others = is_other (λ t. get_or places t 0) bytes

  abbrev pub Done : (out₀ out : List ℕ) (bits t : ℕ) → Type 0
  Done out₀ out bits t = (t ≤ 8) × (out ≡ sets out₀ (at + 16) (joined moved t)) × (bits ≡ bits_below others t) × (length out ≡ length out₀)

  -- one mass more, which is another than the one there, or the same
  module _ (whole : length bytes ≡ 48) (small : (i : ℕ) → get_or bytes i 0 < 256) (near : (t : ℕ) → t < 8 → get_or places t 0 < 8)
      (out₀ : List ℕ) {out out' : List ℕ} {bits t mass there : ℕ} (l : t < 8) (done : Done out₀ out bits t) (comes : mass ≡ mass_of bytes (get_or places t 0))
      (was : there ≡ mass_of bytes t) (wrote : out' ≡ sets out (at + 16 + 4 * t) (bytes_of 4 mass)) where
    written : out' ≡ sets out₀ (at + 16) (joined moved (t + 1))
    written =
        joined_more moved 4 8 (λ t l. mass_length bytes whole (get_or places t 0) (near t l)) t done.0 out₀ (at + 16) done.1
        (wrote ∙ ap (sets out (at + 16 + 4 * t)) (ap (bytes_of 4) comes ∙ bytes_of_mass bytes whole small (get_or places t 0) (near t l)))

    new : mass ≡ mass_of (rewritten (λ t. get_or places t 0) bytes) t
    new = comes ∙ sym (mass_from bytes whole (λ t. get_or places t 0) near t l)

    pub other_done : {bits' : ℕ} → (mass ≡ there → ⊥) → bits' ≡ bit_or bits (1 * 2 ^ t % 2 ^ 8) → Done out₀ out' bits' (t + 1)
    other_done differ set =
        (omega arith, written, set ∙ set_next others t l (ap not (ne_eqb _ _ (λ e. differ (new ∙ e ∙ sym was)))) done.2, ap length written ∙ length-sets out₀ (at + 16) (joined moved (t + 1)))

    pub same_done : {bits' : ℕ} → mass ≡ there → bits' ≡ bits → Done out₀ out' bits' (t + 1)
    same_done same kept =
        (omega arith, written, kept ∙ pass_next others t (ap not (eq-eqb _ _ (sym new ∙ same ∙ was))) done.2, ap length written ∙ length-sets out₀ (at + 16) (joined moved (t + 1)))

-- bytes that are written one after another
pub two_written : (xs ys out : List ℕ) (at n : ℕ) {a b m r : List ℕ} → length xs ≡ n → a ≡ xs → b ≡ ys → m ≡ sets out at a → r ≡ sets m (at + n) b
    → r ≡ sets out at (xs ++ ys)
two_written xs ys out at n size p q wrote wrote_on = wrote_on ∙ rw (wrote, p, q, ← size) (sets_join xs ys out at)
