-- Laws of the lines: how long their texts are, and that a line holds its text.
use mathlib.Core.Path.{◌≡◌, sym, ap, ◌∙◌}
use mathlib.Core.List.{List}
use Prim.Native.Nat.{ℕ, ◌^◌, ◌≤◌, ◌<◌}
use native.Mathlib.Omega.{arith}
use lib.ListN.{length, take, length-append, length-replicate}
use lib.Seq.{take-append_seam}
use Rattle.line.specs.declared.form.Line.{Line}
use Rattle.line.specs.Line.{line_text, accepted_text, refused_text, line_bytes, padded, Lendable}
use Rattle.line.proofs.Decimal.{few_digits}

-- 5 digits, 4 times 20, and a byte after each number.
module _ {period x0 figure bound R : ℕ} (p : period < 2 ^ 16) (x : x0 < 2 ^ 64) (f : figure < 2 ^ 64) (b : bound < 2 ^ 64) (r : R < 2 ^ 64) where
  pub accepted_length : let n = length (accepted_text period x0 figure bound R) in (1 ≤ n) × (n ≤ line_bytes)
  unfolding accepted_text line_text
  accepted_length =
      simp length-append (
        omega arith,
        omega (arith, few_digits period 4 (omega arith), few_digits x0 19 (omega arith), few_digits figure 19 (omega arith), few_digits bound 19 (omega arith), few_digits R 19 (omega arith)),
      )

-- 18 bytes of words and spaces, 3 digits and 20, and a byte after each number.
pub refused_length : {refusal place : ℕ} → refusal < 2 ^ 8 → place < 2 ^ 64 → let n = length (refused_text refusal place) in (1 ≤ n) × (n ≤ line_bytes)
unfolding refused_text line_text
refused_length {refusal} {place} h k =
    simp length-append (omega arith, omega (arith, few_digits refusal 2 (omega arith), few_digits place 19 (omega arith)))

module _ (text : List ℕ) where
  pub line_text_lem : take (padded text).len (padded text).bytes ≡ text
  unfolding padded
  line_text_lem = take-append_seam text _

  pub line_lendable : length text ≤ line_bytes → Lendable (padded text)
  unfolding padded
  line_lendable fits =
      record {
        ninety = simp (length-append, length-replicate) (omega arith);
        within = fits;
        whole = sym (ap length line_text_lem);
      }

-- So it does where it comes from a formatter.
pub line_is : {line : Line} {text : List ℕ} → line ≡ padded text → take line.len line.bytes ≡ text
line_is {text = text} e = ap (λ (l : Line). take l.len l.bytes) e ∙ line_text_lem text
