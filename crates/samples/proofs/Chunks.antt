-- A sample as the next 16 bytes of those that are left: it is sample n of them all.
use mathlib.Core.Path.{◌≡◌, refl, sym, ap, ◌∙◌}
use mathlib.Core.Bool.{Bool, true, false, cond}
use mathlib.Core.List.{List, ◌++◌}
use Prim.Native.Nat.{ℕ, ◌+◌, ◌*◌, ◌≤◌, ◌<◌}
use native.Mathlib.Omega.{arith}
use lib.Dec.{eqb}
use lib.ListN.{length, drop}
use Rattle.std.proofs.Common.{Some, None}
use Rattle.std.proofs.lemmas.List.{length-drop, length-append, get_or_append_left, drop-drop}
use Rattle.std.proofs.Math.Seq.{drop-append_seam}
use Rattle.numbers.specs.Bytes.{number_at}
use Rattle.numbers.proofs.Bytes.{number_drop, number_same}
use Rattle.numbers.proofs.Eight.{sum_same}
use Rattle.samples.specs.Samples.{sample_bytes, whole_sample, fraction_at, adds_up}

-- what an optional value says of the test that it was made by
pub none_when : {A : Type 0} (b : Bool) (x : A) → None ≡ cond b (Some x) None → b ≡ false
none_when true x e = cc
none_when false x e = refl

pub some_when : {A : Type 0} (b : Bool) (x y : A) → Some y ≡ cond b (Some x) None → (b ≡ true) × (y ≡ x)
some_when true x y e = (refl, cc)
some_when false x y e = cc

module _ (samples : List ℕ) (n : ℕ) (sample rest : List ℕ) (is : drop (sample_bytes * n) samples ≡ sample ++ rest) (long : length sample ≡ sample_bytes) where
  pub fraction_same : (t : ℕ) → t < 8 → fraction_at sample 0 t ≡ fraction_at samples n t
  unfolding fraction_at
  fraction_same t h =
      number_same 2 sample (sample ++ rest) (sample_bytes * 0 + 2 * t) (2 * t)
      (λ i l. let same : sample_bytes * 0 + 2 * t + i ≡ 2 * t + i = omega arith in rw same (sym (get_or_append_left sample rest 0 (2 * t + i) (omega arith))))
      ∙ ap (λ (bytes : List ℕ). number_at 2 bytes (2 * t)) (sym is)
      ∙ sym (number_drop 2 (sample_bytes * n) (2 * t) samples)

  pub adds_up_same : adds_up sample 0 ≡ adds_up samples n
  unfolding adds_up
  adds_up_same = ap (λ (sum : ℕ). eqb sum whole_sample) (sum_same (fraction_at sample 0) (fraction_at samples n) 8 fraction_same)

  pub room : sample_bytes * (n + 1) ≤ length samples
  room = omega (arith, length-drop (sample_bytes * n) samples, ap length is, length-append sample rest)

  pub rest_is : rest ≡ drop (sample_bytes * (n + 1)) samples
  rest_is =
      let more : sample_bytes * n + length sample ≡ sample_bytes * (n + 1) = omega (arith, long) in
      sym (drop-append_seam sample rest) ∙ ap (drop (length sample)) (sym is) ∙ drop-drop (length sample) (sample_bytes * n) samples
      ∙ ap (λ (k : ℕ). drop k samples) more
