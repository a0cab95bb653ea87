-- Laws of the eight numbers, and of sums and tests over places: one more place, and each place.
use mathlib.Core.Path.{◌≡◌, refl, ap, ◌∙◌}
use mathlib.Core.Bool.{Bool, true, false, cond, ◌&&◌, ◌||◌, and-false}
use mathlib.Core.List.{List, [], ◌∷◌}
use mathlib.Core.Logic.{◌⊎◌, inl, inr, ⊎_elim}
use Prim.Native.Nat.{ℕ, zero, suc, ◌+◌, ◌-◌, ◌*◌, ◌≤◌, ◌<◌}
use native.Mathlib.Nat.{add-zero, add-suc, suc-add, zero-add, eq-or-lt_of_le, le_of_suc-le-suc}
use native.Mathlib.Numerals.{add-one}
use native.Mathlib.Omega.{arith}
use lib.ListN.{get_or, set, replicate}
use Rattle.numbers.specs.Eight.{eight, sum_of, every_of, all_of}

-- what a loop over the eight places has filled in before place t
abbrev pub filled : (ℕ → ℕ) → ℕ → List ℕ
filled f zero = replicate 8 0
filled f (suc t) = set (filled f t) t (f t)

module _ (f : ℕ → ℕ) (t : ℕ) where
  pub filled_more : {xs : List ℕ} {x : ℕ} → xs ≡ filled f t → x ≡ f t → set xs t x ≡ filled f (t + 1)
  filled_more p q = rw (add-one, p, q)

  pub sum_more : {n x : ℕ} → n ≡ sum_of f t → x ≡ f t → n + x ≡ sum_of f (t + 1)
  sum_more p q = rw (add-one, p, q)

-- A sum of the same numbers, one of equal numbers, one of smaller numbers, one of small numbers, and a part of a sum.
pub sum_same : (f g : ℕ → ℕ) (k : ℕ) → ((t : ℕ) → t < k → f t ≡ g t) → sum_of f k ≡ sum_of g k
sum_same f g zero h = refl
sum_same f g (suc k) h = rw (sum_same f g k (λ t l. h t (omega arith)), h k (omega arith))

pub sum_each : (f : ℕ → ℕ) (b k : ℕ) → ((t : ℕ) → t < k → f t ≡ b) → sum_of f k ≡ k * b
sum_each f b zero h = omega arith
sum_each f b (suc k) h = omega (arith, sum_each f b k (λ t l. h t (omega arith)), h k (omega arith))

pub sum_at_most : (f g : ℕ → ℕ) (k : ℕ) → ((t : ℕ) → t < k → f t ≤ g t) → sum_of f k ≤ sum_of g k
sum_at_most f g zero h = omega arith
sum_at_most f g (suc k) h = omega (arith, sum_at_most f g k (λ t l. h t (omega arith)), h k (omega arith))

pub sum_most : (f : ℕ → ℕ) (b k : ℕ) → ((t : ℕ) → t < k → f t ≤ b) → sum_of f k ≤ k * b
sum_most f b k h = omega (arith, sum_at_most f (λ t. b) k h, sum_each (λ t. b) b k (λ t l. refl))

pub sum_part : (f : ℕ → ℕ) (j k : ℕ) → j ≤ k → sum_of f j ≤ sum_of f k
sum_part f j zero h = let e : j ≡ 0 = omega arith in rw e (omega arith)
sum_part f j (suc k) h =
    ⊎_elim (λ e. rw e (omega arith)) (λ lt. omega (arith, sum_part f j k (le_of_suc-le-suc lt))) (eq-or-lt_of_le h)

pub sum_none : (f : ℕ → ℕ) (k : ℕ) → sum_of f k ≡ 0 → (t : ℕ) → t < k → f t ≡ 0
sum_none f k e t l = omega (arith, sum_part f (suc t) k l)

-- The first number of a sum beside the others.
pub sum_first : (f : ℕ → ℕ) (k : ℕ) → sum_of f (suc k) ≡ f 0 + sum_of (λ t. f (suc t)) k
sum_first f zero = omega arith
sum_first f (suc k) = omega (arith, sum_first f k)

-- A sum of sums, and a sum of steps from each number to the next.
pub sum_plus : (f g : ℕ → ℕ) (k : ℕ) → sum_of (λ t. f t + g t) k ≡ sum_of f k + sum_of g k
sum_plus f g zero = refl
sum_plus f g (suc k) = omega (arith, sum_plus f g k)

pub sum_steps : (f : ℕ → ℕ) (k : ℕ) → ((t : ℕ) → f t ≤ f (t + 1)) → f 0 + sum_of (λ t. f (t + 1) - f t) k ≡ f k
sum_steps f zero h = omega arith
sum_steps f (suc k) h = let next = ap f (add-one k) in omega (arith, sum_steps f k h, h k, next)

-- A sum of multiples, one of a single number, and a sum of sums either way round.
pub sum_times : (f : ℕ → ℕ) (c k : ℕ) → sum_of (λ t. f t * c) k ≡ sum_of f k * c
sum_times f c zero = omega arith
sum_times f c (suc k) = omega (arith, sum_times f c k)

pub sum_single : (f : ℕ → ℕ) (k j : ℕ) → j < k → ((t : ℕ) → t < k → (t ≡ j → ⊥) → f t ≡ 0) → sum_of f k ≡ f j
sum_single f zero j l h = absurd (omega arith)
sum_single f (suc k) j l h =
    ⊎_elim
    (λ e. rw e (omega (arith, sum_each f 0 k (λ t m. h t (omega arith) (λ same. omega arith)))))
    (λ lt. omega (arith, sum_single f k j lt (λ t m. h t (omega arith)), h k (omega arith) (λ same. omega arith)))
    (eq-or-lt_of_le (le_of_suc-le-suc l))

pub sum_swap : (f : ℕ → ℕ → ℕ) (k n : ℕ) → sum_of (λ t. sum_of (f t) n) k ≡ sum_of (λ p. sum_of (λ t. f t p) k) n
sum_swap f zero n = omega (arith, sum_each (λ p. 0) 0 n (λ p l. refl))
sum_swap f (suc k) n = omega (arith, sum_swap f k n, sum_plus (λ p. sum_of (λ t. f t p) k) (f k) n)

-- f s, f (s + 1), .., k of them
abbrev run : (ℕ → ℕ) → ℕ → ℕ → List ℕ
run f s zero = []
run f s (suc k) = f s ∷ run f (suc s) k

run_at : (f : ℕ → ℕ) (s k i : ℕ) → i < k → get_or (run f s k) i 0 ≡ f (s + i)
run_at f s zero i h = absurd (omega arith)
run_at f s (suc k) zero h = rw (add-zero s)
run_at f s (suc k) (suc i) h = rw (add-suc s i, ← suc-add s i) (run_at f (suc s) k i (omega arith))

pub eight_at : (f : ℕ → ℕ) (t : ℕ) → t < 8 → get_or (eight f) t 0 ≡ f t
eight_at f t h = rw (zero-add t) at (run_at f 0 8 t h)

pub eight_same : {A : Type 0} (f g : ℕ → A) → ((t : ℕ) → t < 8 → f t ≡ g t) → eight f ≡ eight g
eight_same f g h =
    rw (h 0 (omega arith), h 1 (omega arith), h 2 (omega arith), h 3 (omega arith), h 4 (omega arith), h 5 (omega arith), h 6 (omega arith), h 7 (omega arith))

pub both_true : (a b : Bool) → (a && b) ≡ true → (a ≡ true) × (b ≡ true)
both_true true b e = (refl, e)
both_true false b e = (e, cc)

pub three_true : (a b c : Bool) → (a && b && c) ≡ true → (a ≡ true) × ((b ≡ true) × (c ≡ true))
three_true a b c e = let p = both_true (a && b) c e in let q = both_true a b p.0 in (q.0, (q.1, p.1))

pub cond_most : (b : Bool) {x y most : ℕ} → x ≤ most → y ≤ most → cond b x y ≤ most
cond_most true h k = h
cond_most false h k = k

pub either_true : (a b : Bool) → (a || b) ≡ true → (a ≡ true) ⊎ (b ≡ true)
either_true true b e = inl refl
either_true false b e = inr e

pub either_false : (a b : Bool) → (a || b) ≡ false → (a ≡ false) × (b ≡ false)
either_false false b e = (refl, e)
either_false true b e = (e, cc)

-- Where all of some tests hold, each does.
abbrev pub AllTrue : List Bool → Type 0
AllTrue [] = Unit
AllTrue (test ∷ rest) = (test ≡ true) × AllTrue rest

pub all_true : (tests : List Bool) → all_of tests ≡ true → AllTrue tests
all_true [] e = tt
all_true (test ∷ rest) e = let p = both_true test (all_of rest) e in (p.0, all_true rest p.1)

module _ (test : ℕ → Bool) where
  pub every_at : (k t : ℕ) → t < k → every_of test k ≡ true → test t ≡ true
  every_at zero t l h = absurd (omega arith)
  every_at (suc k) t l h =
      let p = both_true (every_of test k) (test k) h in
      ⊎_elim (λ e. rw e p.1) (λ lt. every_at k t lt p.0) (eq-or-lt_of_le (le_of_suc-le-suc l))

  pub every_not : (k t : ℕ) → t < k → test t ≡ false → every_of test k ≡ false
  every_not zero t l h = absurd (omega arith)
  every_not (suc k) t l h =
      ⊎_elim
      (λ e. ap (λ (b : Bool). every_of test k && b) (rw e at h) ∙ and-false (every_of test k))
      (λ lt. ap (λ (b : Bool). b && test k) (every_not k t lt h))
      (eq-or-lt_of_le (le_of_suc-le-suc l))

  pub every_more : (k : ℕ) → every_of test k ≡ true → test k ≡ true → every_of test (k + 1) ≡ true
  every_more k h e = cc (add-one k)

  pub every_fewer : (n k : ℕ) → n ≤ k → every_of test n ≡ false → every_of test k ≡ false
  every_fewer n zero l h = let e : n ≡ 0 = omega arith in rw e at h
  every_fewer n (suc k) l h =
      ⊎_elim
      (λ e. rw e at h)
      (λ lt. ap (λ (b : Bool). b && test k) (every_fewer n k (le_of_suc-le-suc lt) h))
      (eq-or-lt_of_le l)

  pub every_each : (k : ℕ) → ((t : ℕ) → t < k → test t ≡ true) → every_of test k ≡ true
  every_each zero h = refl
  every_each (suc k) h = simp (every_each k (λ t l. h t (omega arith)), h k (omega arith))

pub every_same : (f g : ℕ → Bool) (k : ℕ) → ((t : ℕ) → t < k → f t ≡ g t) → every_of f k ≡ every_of g k
every_same f g zero h = refl
every_same f g (suc k) h = simp (every_same f g k (λ t l. h t (omega arith)), h k (omega arith))
