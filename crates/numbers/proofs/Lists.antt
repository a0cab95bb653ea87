-- One thing more at the end of a list: its length, what is added over it, and what is said of each of it; and each thing by its place.
use mathlib.Core.Path.{◌≡◌, sym, ◌∙◌, subst}
use mathlib.Core.List.{List, [], ◌∷◌, ◌++◌, map}
use Prim.Native.Nat.{ℕ, zero, suc, ◌+◌, ◌≤◌, ◌<◌}
use native.Mathlib.Nat.{add-zero}
use native.Mathlib.Numerals.{add-one}
use native.Mathlib.Omega.{arith}
use lib.ListN.{length, get_or, drop, set, length-append}
use lib.Seq.{append_snoc, drop-cons, set_at, get_or_at}
use Rattle.numbers.specs.Lists.{added, Each}

module _ {A : Type 0} where
  pub length_more : (xs : List A) (x : A) → length (xs ++ (x ∷ [])) ≡ suc (length xs)
  length_more xs x = length-append xs (x ∷ []) ∙ add-one (length xs)

  pub added_more : (f : A → ℕ) (xs : List A) (x : A) → added f (xs ++ (x ∷ [])) ≡ added f xs + f x
  added_more f [] x = omega arith
  added_more f (y ∷ xs) x = omega (arith, added_more f xs x)

  -- and that it is written where a list goes on.
  pub write_more : (done : List A) (x d : A) (xs : List A) (i : ℕ) {now : List A} → length done ≡ i → i < length xs → now ≡ done ++ drop i xs
      → set now i x ≡ (done ++ (x ∷ [])) ++ drop (i + 1) xs
  write_more done x d xs i long room e =
      let next : suc i ≡ i + 1 = omega arith in
      rw (e, drop-cons xs i d room, next) (set_at done (get_or xs i d) (drop (i + 1) xs) x i long ∙ sym (append_snoc done x (drop (i + 1) xs)))

module _ {A : Type 0} (P : ℕ → A → Type 0) where
  pub each_more : (i : ℕ) (xs : List A) (x : A) → Each P i xs → P (i + length xs) x → Each P i (xs ++ (x ∷ []))
  each_more i [] x e p = (rw add-zero at p, tt)
  each_more i (y ∷ xs) x e p =
      let on : i + suc (length xs) ≡ i + 1 + length xs = omega arith in
      (e.0, each_more (i + 1) xs x e.1 (rw on at p))

  pub each_at : (i : ℕ) (xs : List A) (d : A) → Each P i xs → (k : ℕ) → k < length xs → P (i + k) (get_or xs k d)
  each_at i [] d e k h = absurd (omega arith)
  each_at i (x ∷ xs) d e zero h = rw add-zero e.0
  each_at i (x ∷ xs) d e (suc k) h =
      let on : i + suc k ≡ i + 1 + k = omega arith in
      rw on (each_at (i + 1) xs d e.1 k (omega arith))

  pub each_map : (Q : ℕ → A → Type 0) (i : ℕ) (xs : List A) → ((j : ℕ) (x : A) → i ≤ j → j < i + length xs → P j x → Q j x)
      → Each P i xs → Each Q i xs
  each_map Q i [] f e = tt
  each_map Q i (x ∷ xs) f e =
      (f i x (omega arith) (omega arith) e.0, each_map Q (i + 1) xs (λ j y low high p. f j y (omega arith) (omega arith) p) e.1)

  -- What is said twice of each thing gives a third.
  pub each_both : (Q R : ℕ → A → Type 0) → ((j : ℕ) (x : A) → P j x → Q j x → R j x) → (i : ℕ) (xs : List A) → Each P i xs → Each Q i xs → Each R i xs
  each_both Q R f i [] p q = tt
  each_both Q R f i (x ∷ xs) p q = (f i x p.0 q.0, each_both Q R f (i + 1) xs p.1 q.1)

-- A number of each thing, one place after another.
pub each_of_map : {A : Type 0} (f : A → ℕ) (done : List ℕ) (xs : List A) (rest : List ℕ) (i : ℕ) → length done ≡ i
    → Each (λ j x. get_or (done ++ (map f xs ++ rest)) j 0 ≡ f x) i xs
each_of_map f done [] rest i e = tt
each_of_map f done (x ∷ xs) rest i e = (
  get_or_at done (f x) (map f xs ++ rest) 0 i e,
  subst (λ (l : List ℕ). Each (λ j y. get_or l j 0 ≡ f y) (i + 1) xs) (append_snoc done (f x) (map f xs ++ rest))
      (each_of_map f (done ++ (f x ∷ [])) xs rest (i + 1) (omega (arith, length_more done (f x), e))),
)
