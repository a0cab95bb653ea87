-- Laws of plain decimal, for every number: its digits, how many there are, and that they say that number and no other.
use mathlib.Core.Path.{◌≡◌, refl, sym, ap, ◌∙◌}
use mathlib.Core.List.{List, [], ◌∷◌, ◌++◌}
use Prim.Native.Nat.{ℕ, zero, suc, ◌+◌, ◌-◌, ◌*◌, ◌/◌, ◌%◌, ◌^◌, ◌≤◌, ◌<◌}
use native.Mathlib.Nat.{pow-suc}
use native.Mathlib.Decide.{dec_le}
use native.Mathlib.Omega.{arith}
use lib.ListN.{length, get_or, length-append, get_or-append}
use borrow.Author.Tests.{lt-ltb, le-ltb}
use Rattle.std.specs.Fmt.{decimal}
use Rattle.std.proofs.lemmas.Fmt.{decimal_by_steps}
use Rattle.line.specs.Line.{digits_of, decimal_of, read_on}

-- Wherever there is room for the digits of n they are the same.
same : (k j n : ℕ) → n < k → n < j → digits_of k n ≡ digits_of j n
unfolding digits_of
same zero j n a b = absurd (omega arith)
same (suc k) zero n a b = absurd (omega arith)
same (suc k) (suc j) n a b = go (dec_le 10 n) (λ l. same k j (n / 10) (omega arith) (omega arith))
  where
    go : Dec (10 ≤ n) → (10 ≤ n → digits_of k (n / 10) ≡ digits_of j (n / 10)) → digits_of (suc k) n ≡ digits_of (suc j) n
    go (yes l) rest = rw (rest l)
    go (no l) rest = simp (lt-ltb n 10 (omega arith))

-- What holds below 10, and of n where it holds of n / 10, holds of every number.
module _ (P : ℕ → Type 0) (one : (n : ℕ) → n < 10 → P n) (more : (n : ℕ) → 10 ≤ n → P (n / 10) → P n) where
  below : (k n : ℕ) → n < k → P n
  below zero n h = absurd (omega arith)
  below (suc k) n h = go (dec_le 10 n) (λ l. below k (n / 10) (omega arith))
    where
      go : Dec (10 ≤ n) → (10 ≤ n → P (n / 10)) → P n
      go (yes l) rest = more n l (rest l)
      go (no l) rest = one n (omega arith)

  by_digits : (n : ℕ) → P n
  by_digits n = below (suc n) n (omega arith)

pub one_digit : (n : ℕ) → n < 10 → decimal_of n ≡ (48 + n) ∷ []
unfolding decimal_of digits_of
one_digit n h = simp (lt-ltb n 10 h)

pub more_digits : (n : ℕ) → 10 ≤ n → decimal_of n ≡ decimal_of (n / 10) ++ ((48 + n % 10) ∷ [])
unfolding decimal_of digits_of
more_digits n h = simp (le-ltb n 10 h) (rw (same n (suc (n / 10)) (n / 10) (omega arith) (omega arith)))

-- A number as std prints it is its plain decimal.
pub plain_decimal : (n : ℕ) → n < 2 ^ 64 → decimal n ≡ decimal_of n
plain_decimal =
    decimal_by_steps (λ n digits. digits ≡ decimal_of n) (λ n h. sym (one_digit n h))
    λ n front h e. ap (λ (digits : List ℕ). digits ++ ((48 + n % 10) ∷ [])) e ∙ sym (more_digits n h)

pub one_more : (n : ℕ) → 10 ≤ n → length (decimal_of n) ≡ length (decimal_of (n / 10)) + 1
one_more n h = ap length (more_digits n h) ∙ length-append (decimal_of (n / 10)) ((48 + n % 10) ∷ [])

-- A number below 10 ^ (k + 1) has at most k + 1 digits.
abbrev Few : ℕ → Type 0
Few n = (k : ℕ) → n < 10 ^ suc k → length (decimal_of n) ≤ suc k

pub few_digits : (n : ℕ) → Few n
few_digits = by_digits Few (λ n h k b. rw (one_digit n h) (omega arith)) more
  where
    more : (n : ℕ) → 10 ≤ n → Few (n / 10) → Few n
    more n h rest zero b = absurd (omega arith)
    more n h rest (suc k) b = let small : n < 10 ^ suc k * 10 = rw pow-suc at b in omega (arith, one_more n h, rest k (omega arith))

-- There is a first digit, and it is 0 for the number 0 alone.
pub first_digit : (n : ℕ) → (0 < length (decimal_of n)) × (0 < n → 48 < get_or (decimal_of n) 0 0)
first_digit =
    by_digits (λ n. (0 < length (decimal_of n)) × (0 < n → 48 < get_or (decimal_of n) 0 0))
    (λ n h. rw (one_digit n h) (omega arith, λ p. omega arith))
    λ n h rest. (
      omega (arith, one_more n h),
      λ p. rw (more_digits n h, get_or-append (decimal_of (n / 10)) ((48 + n % 10) ∷ []) 0 0 rest.0) (rest.1 (omega arith)),
    )

read_on_lem : (xs ys : List ℕ) (n : ℕ) → read_on n (xs ++ ys) ≡ read_on (read_on n xs) ys
read_on_lem [] ys n = refl
read_on_lem (x ∷ xs) ys n = read_on_lem xs ys (10 * n + (x - 48))

-- The digits say the number.
pub digits_read_back : (n : ℕ) → read_on 0 (decimal_of n) ≡ n
digits_read_back =
    by_digits (λ n. read_on 0 (decimal_of n) ≡ n) (λ n h. rw (one_digit n h) (omega arith)) λ n h read.
    rw (more_digits n h, read_on_lem (decimal_of (n / 10)) ((48 + n % 10) ∷ []) 0, read) (omega arith)

-- Two different numbers have different texts.
pub same_number : (m n : ℕ) → decimal_of m ≡ decimal_of n → m ≡ n
same_number m n e = sym (digits_read_back m) ∙ ap (read_on 0) e ∙ digits_read_back n
