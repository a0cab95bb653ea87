-- Laws of lists that stand one after another, all of one length: how long they are together, one more behind them, and each of them.
use mathlib.Core.Path.{◌≡◌, refl, sym, ap, ◌∙◌}
use mathlib.Core.Bool.{cond}
use mathlib.Core.List.{List, [], ◌++◌, append_assoc, append-nil}
use mathlib.Core.Logic.{⊎_elim}
use Prim.Native.Nat.{ℕ, zero, suc, ◌+◌, ◌*◌, ◌≤◌, ◌<◌}
use native.Mathlib.Nat.{mul-zero, eq-or-lt_of_le, le_of_suc-le-suc, mul-le-mul_left}
use native.Mathlib.Numerals.{add-one}
use native.Mathlib.Omega.{arith}
use borrow.Author.Tests.{eq-eqb, ne_eqb}
use lib.Dec.{eqb}
use lib.ListN.{length, take, drop, length-append, length-drop, drop_of_length-le}
use lib.Seq.{sets, sets-eq, take-add, take_at, drop_at, take-append-le, drop-append-le, take-length}
use Rattle.numbers.specs.Lists.{joined}
use Rattle.numbers.proofs.Bytes.{sets_join}

pub joined_same : {A : Type 0} (f g : ℕ → List A) (k : ℕ) → ((t : ℕ) → t < k → f t ≡ g t) → joined f k ≡ joined g k
joined_same f g zero h = refl
joined_same f g (suc k) h = rw (joined_same f g k (λ t l. h t (omega arith)), h k (omega arith))

-- The parts of a list, one after another, are what they were cut from.
pub joined_parts : {A : Type 0} (w : ℕ) (xs : List A) (k : ℕ) → joined (λ i. take w (drop (w * i) xs)) k ≡ take (w * k) xs
joined_parts w xs zero = rw mul-zero
joined_parts w xs (suc k) =
    let more : w * suc k ≡ w * k + w = omega arith in
    rw (joined_parts w xs k, more) (sym (take-add (w * k) w xs))

-- Lists of w things each, the first n of them at least.
module _ {A : Type 0} (f : ℕ → List A) (w n : ℕ) (each : (t : ℕ) → t < n → length (f t) ≡ w) where
  pub joined_length : (k : ℕ) → k ≤ n → length (joined f k) ≡ w * k
  joined_length zero h = omega arith
  joined_length (suc k) h = length-append (joined f k) (f k) ∙ omega (arith, joined_length k (omega arith), each k (omega arith))

  pub joined_part : (k t : ℕ) → k ≤ n → t < k → take w (drop (w * t) (joined f k)) ≡ f t
  joined_part zero t h l = absurd (omega arith)
  joined_part (suc k) t h l =
      let long = joined_length k (omega arith) in
      ⊎_elim
      (λ e. rw e (ap (take w) (drop_at (joined f k) (f k) (w * k) long) ∙ rw (← each k (omega arith)) (take-length (f k))))
      (λ lt. let room : w * t + w ≤ w * k = omega (arith, mul-le-mul_left w lt) in
      ap (take w) (drop-append-le (w * t) (joined f k) (f k) (omega (arith, long)))
      ∙ take-append-le w (drop (w * t) (joined f k)) (f k) (omega (arith, long, length-drop (w * t) (joined f k))) ∙ joined_part k t (omega arith) lt)
      (eq-or-lt_of_le (le_of_suc-le-suc l))

-- One more is written behind those that are there.
pub joined_more : (f : ℕ → List ℕ) (w n : ℕ) → ((t : ℕ) → t < n → length (f t) ≡ w) → (k : ℕ) → k ≤ n → (out : List ℕ) (at : ℕ) {m r : List ℕ}
    → m ≡ sets out at (joined f k) → r ≡ sets m (at + w * k) (f k) → r ≡ sets out at (joined f (k + 1))
joined_more f w n each k h out at p q =
    let place : at + w * k ≡ at + length (joined f k) = omega (arith, joined_length f w n each k h) in
    q ∙ rw (p, place, add-one k) (sets_join (joined f k) (f k) out at)

-- What is written within the first of two lists leaves the second.
sets_front : (A B xs : List ℕ) (at : ℕ) → at + length xs ≤ length A → sets (A ++ B) at xs ≡ sets A at xs ++ B
sets_front A B xs at h =
    sets-eq xs (A ++ B) at (simp length-append (omega arith))
    ∙ rw (take-append-le at A B (omega arith), drop-append-le (at + length xs) A B (omega arith), ← append_assoc (take at A ++ xs) (drop (at + length xs) A) B, ← sets-eq xs A at h)

-- One of them is written anew.
pub joined_set : (f : ℕ → List ℕ) (w n : ℕ) → ((t : ℕ) → t < n → length (f t) ≡ w) → (m : ℕ) → m ≤ n → (k : ℕ) → k < m → (xs : List ℕ) → length xs ≡ w
    → sets (joined f m) (w * k) xs ≡ joined (λ t. cond (eqb t k) xs (f t)) m
joined_set f w n each zero h k l xs size = absurd (omega arith)
joined_set f w n each (suc m) h k l xs size =
    let few : m ≤ n = omega arith in
    let long = joined_length f w n each m few in
    let all : length (joined f m ++ f m) ≡ w * m + length xs = omega (arith, length-append (joined f m) (f m), long, each m (omega arith), size) in
    let room : w * m + length xs ≤ length (joined f m ++ f m) = omega (arith, all) in
    let past : drop (w * m + length xs) (joined f m ++ f m) ≡ [] = drop_of_length-le (joined f m ++ f m) {i = w * m + length xs} (omega (arith, all)) in
    ⊎_elim
    (λ e.
    let others : joined (λ t. cond (eqb t k) xs (f t)) m ≡ joined f m
    = joined_same (λ t. cond (eqb t k) xs (f t)) f m (λ t b. simp (ne_eqb t k (λ z. omega arith))) in
    rw (others, eq-eqb m k (sym e), e) (sets-eq xs (joined f m ++ f m) (w * m) room ∙ rw (past, take_at (joined f m) (f m) (w * m) long, append-nil)))
    (λ lt.
    let within : w * k + length xs ≤ length (joined f m) = omega (arith, mul-le-mul_left w lt, long, size) in
    let on : sets (joined f m) (w * k) xs ≡ joined (λ t. cond (eqb t k) xs (f t)) m = joined_set f w n each m few k lt xs size in
    sets_front (joined f m) (f m) xs (w * k) within ∙ rw on (simp (ne_eqb m k (λ z. omega arith))))
    (eq-or-lt_of_le (le_of_suc-le-suc l))
