-- What is read into the rest of a file comes after what was read before.
use Rattle.std.proofs.Common.{◌≡◌, ℕ, ◌+◌, ◌≤◌, List, ◌++◌, length, take, sym, ap, subst, ◌∙◌, length-take-le}
use Rattle.std.proofs.Math.Seq.{take-append_seam, take-append-add}
use Rattle.std.proofs.lemmas.List.{take-append-le}
use Rattle.std.specs.declared.option.Option.{Option}
use Rattle.std.specs.Io.KnownBytes.{Consumes, Keeps}
use Rattle.std.proofs.KnownBytes.{Consumes-trans, Consumes-kept}

module _ (a b c : Option (List ℕ)) (file part rest : List ℕ) (at : ℕ) (within : at ≤ length file) (before : Consumes a b (take at file)) where
  pub read_more : (n : ℕ) → n ≤ length part → Consumes b c (take n part) → Consumes a c (take (at + n) (take at file ++ (part ++ rest)))
  read_more n h next =
      let size : length (take at file) ≡ at = length-take-le at file within in
      let joined : take (at + n) (take at file ++ (part ++ rest)) ≡ take at file ++ take n part
      = ap (λ k. take (k + n) (take at file ++ (part ++ rest))) (sym size) ∙ take-append-add (take at file) (part ++ rest) n
      ∙ ap (λ l. take at file ++ l) (take-append-le n part rest h) in
      subst (Consumes a c) (sym joined) (Consumes-trans a b c _ _ before next)

  pub read_none : Keeps b c → Consumes a c (take at (take at file ++ (part ++ rest)))
  read_none kept =
      let size : length (take at file) ≡ at = length-take-le at file within in
      let same : take at (take at file ++ (part ++ rest)) ≡ take at file
      = ap (λ k. take k (take at file ++ (part ++ rest))) (sym size) ∙ take-append_seam (take at file) (part ++ rest) in
      subst (Consumes a c) (sym same) (Consumes-kept a b c _ before kept)
