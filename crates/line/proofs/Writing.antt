-- Texts that are written one after another are one text, and a text that is written into zeros makes a line.
use mathlib.Core.Path.{◌≡◌, refl, sym, ap, ◌∙◌}
use mathlib.Core.List.{List, [], ◌∷◌, ◌++◌}
use Prim.Native.Nat.{ℕ, ◌+◌, ◌-◌, ◌≤◌}
use native.Mathlib.Nat.{zero-add}
use native.Mathlib.Omega.{arith}
use lib.ListN.{length, drop, set, replicate, length-set, length-append, length-replicate, replicate-append-replicate}
use lib.Seq.{sets, length-sets, sets-eq, drop_at}
use Rattle.numbers.proofs.Bytes.{sets_join}
use Rattle.line.specs.declared.form.Line.{Line}
use Rattle.line.specs.Line.{line_bytes, padded, Lendable}
use Rattle.line.specs.Writing.{Writes}
use Rattle.line.proofs.LineLaws.{line_lendable}

-- What is copied is written.
pub copied : (l : List ℕ) (at : ℕ) (xs : List ℕ) {r : List ℕ} → r ≡ sets l at xs → Writes l at xs r (at + length xs)
copied l at xs e = record { stands = e; as_many = ap length e ∙ length-sets l at xs; ends = refl }

pub one_byte : {l : List ℕ} {at : ℕ} (b : ℕ) → Writes l at (b ∷ []) (set l at b) (at + 1)
one_byte {l} {at} b = record { stands = refl; as_many = length-set l at b; ends = refl }

module _ {l m xs : List ℕ} {at mid : ℕ} (first : Writes l at xs m mid) where
  pub write_on : {r ys : List ℕ} {end : ℕ} → Writes m mid ys r end → Writes l at (xs ++ ys) r end
  write_on {ys = ys} next =
      record {
        stands = next.stands ∙ rw (first.stands, first.ends) (sets_join xs ys l at);
        as_many = next.as_many ∙ first.as_many;
        ends = simp length-append (omega arith);
      }

  pub write_byte : (b : ℕ) → Writes l at (xs ++ (b ∷ [])) (set m mid b) (mid + 1)
  write_byte b = write_on (one_byte b)

-- A text that is written into zeros takes the place of as many.
in_zeros : (text : List ℕ) (k : ℕ) → sets (replicate (length text + k) 0) 0 text ≡ text ++ replicate k 0
in_zeros text k =
    let n = length text in
    let zeros : List ℕ = replicate n 0 ++ replicate k 0 in
    let room : 0 + n ≤ length zeros = simp (length-append, length-replicate) (omega arith) in
    let rest : drop (0 + n) zeros ≡ replicate k 0 = rw zero-add (drop_at (replicate n 0) (replicate k 0) n (length-replicate n 0)) in
    rw (← replicate-append-replicate {A = ℕ} n k 0, sets-eq text zeros 0 room, rest)

pub written_line : {bytes text : List ℕ} {len : ℕ} → Writes (replicate line_bytes 0) 0 text bytes len → len ≤ line_bytes
    → let line : Line = record { bytes = bytes; len = len } in (line ≡ padded text) × Lendable line
unfolding padded
written_line {bytes} {text} {len} w fits =
    let size : len ≡ length text = omega arith in
    let k = line_bytes - length text in
    let ninety : length text + k ≡ line_bytes = omega arith in
    let all : bytes ≡ text ++ replicate k 0 = w.stands ∙ ap (λ (n : ℕ). sets (replicate n 0) 0 text) (sym ninety) ∙ in_zeros text k in
    let same : ◌≡◌ {A = Line} (record { bytes = bytes; len = len }) (padded text) = λ i. record { bytes = all i; len = size i } in
    (same, rw same (line_lendable text (omega arith)))
