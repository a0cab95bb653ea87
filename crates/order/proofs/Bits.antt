-- Laws of a number by its bits: `|` is the union, a shifted 1 is one bit, the number of bits set, and all of them set.
use mathlib.Core.Path.{◌≡◌, refl, sym, ap, ap₂, ◌∙◌}
use mathlib.Core.Bool.{Bool, true, false, ◌||◌}
use mathlib.Core.Logic.{⊎_elim}
use Prim.Native.Nat.{ℕ, zero, suc, ◌+◌, ◌-◌, ◌*◌, ◌/◌, ◌%◌, ◌^◌, ◌≤◌, ◌<◌}
use native.Mathlib.Nat.{add_comm, one-mul, pow-suc, mul-le-mul_right, eq-or-lt_of_le, le_of_suc-le-suc, mul-add-div_right}
use native.Mathlib.Numerals.{add-one}
use native.Mathlib.Omega.{arith}
use borrow.Author.Tests.{eq-eqb, ne_eqb}
use lib.Bits.{bit_or, or_block, or_shifted_r}
use lib.Count.{ones, ones_cat}
use lib.Dec.{eqb}
use lib.Pow.{pow_pos, pow-add, shl_exact, high}
use Rattle.numbers.specs.Eight.{one, sum_of, every_of}
use Rattle.numbers.proofs.Eight.{sum_same, sum_each, sum_most, both_true}
use Rattle.order.specs.Order.{eight_bits}

-- The number whose bits below n are set where the test holds; eight of them are `eight_bits`.
abbrev pub bits_below : (ℕ → Bool) → ℕ → ℕ
bits_below test n = sum_of (λ k. one (test k) * 2 ^ k) n

pub one_most : (b : Bool) → one b ≤ 1
one_most true = omega arith
one_most false = omega arith

pub eight_most : (test : ℕ → Bool) → sum_of (λ k. one (test k)) 8 ≤ 8
eight_most test = sum_most (λ k. one (test k)) 1 8 (λ k l. one_most (test k))

one_or : (a b : Bool) → bit_or (one a) (one b) ≡ one (a || b)
one_or false b = refl
one_or true false = refl
one_or true true = refl

ones_one : (b : Bool) → ones (one b) ≡ one b
unfolding ones
ones_one true = refl
ones_one false = refl

pub bits_lt : (test : ℕ → Bool) (n : ℕ) → bits_below test n < 2 ^ n
bits_lt test zero = omega arith
bits_lt test (suc n) = omega (arith, pow-suc 2 n, bits_lt test n, mul-le-mul_right (2 ^ n) (one_most (test n)))

-- the highest bit first
high_first : (test : ℕ → Bool) (n : ℕ) → bits_below test (suc n) ≡ one (test n) * 2 ^ n + bits_below test n
high_first test n = add_comm (bits_below test n) (one (test n) * 2 ^ n)

pub or_bits : (f g : ℕ → Bool) (n : ℕ) → bit_or (bits_below f n) (bits_below g n) ≡ bits_below (λ k. f k || g k) n
or_bits f g zero = refl
or_bits f g (suc n) =
    ap₂ bit_or (high_first f n) (high_first g n)
    ∙ or_block n (one (f n)) (one (g n)) (bits_below f n) (bits_below g n) (bits_lt f n) (bits_lt g n)
    ∙ ap₂ (λ (x y : ℕ). x * 2 ^ n + y) (one_or (f n) (g n)) (or_bits f g n)
    ∙ sym (high_first (λ k. f k || g k) n)

pub ones_bits : (f : ℕ → Bool) (n : ℕ) → ones (bits_below f n) ≡ sum_of (λ k. one (f k)) n
unfolding ones
ones_bits f zero = refl
ones_bits f (suc n) =
    ap ones (high_first f n) ∙ ones_cat n (one (f n)) (bits_below f n) (bits_lt f n) ∙ omega (arith, ones_one (f n), ones_bits f n)

pub bits_same : (f g : ℕ → Bool) → ((k : ℕ) → k < 8 → f k ≡ g k) → eight_bits f ≡ eight_bits g
unfolding eight_bits
bits_same f g h = sum_same _ _ 8 (λ k l. ap (λ (b : Bool). one b * 2 ^ k) (h k l))

-- No bit, and one bit.
no_bits : (test : ℕ → Bool) (n : ℕ) → ((k : ℕ) → k < n → test k ≡ false) → bits_below test n ≡ 0
no_bits test n h = omega (arith, sum_each (λ k. one (test k) * 2 ^ k) 0 n (λ k l. ap (λ (b : Bool). one b * 2 ^ k) (h k l) ∙ omega arith))

pub no_bits_set : (test : ℕ → Bool) → ((k : ℕ) → k < 8 → test k ≡ false) → eight_bits test ≡ 0
unfolding eight_bits
no_bits_set test h = no_bits test 8 h

one_bit : (j n : ℕ) → j < n → bits_below (λ k. eqb (j + 1) (k + 1)) n ≡ 2 ^ j
one_bit j zero l = absurd (omega arith)
one_bit j (suc n) l =
    ⊎_elim
    (λ e. omega (arith, no_bits (λ k. eqb (j + 1) (k + 1)) n (λ k m. ne_eqb (j + 1) (k + 1) (λ e'. omega arith)), ap (λ (b : Bool). one b * 2 ^ n) (eq-eqb (j + 1) (n + 1) (omega arith)), ap (λ (k : ℕ). 2 ^ k) e))
    (λ lt. omega (arith, one_bit j n lt, ap (λ (b : Bool). one b * 2 ^ n) (ne_eqb (j + 1) (n + 1) (λ e. omega arith))))
    (eq-or-lt_of_le (le_of_suc-le-suc l))

-- The bit of a type, as the machine shifts it; and none for a byte that is no type.
pub bit_of_lem : (waste : ℕ) → 0 < waste → waste ≤ 8 → 1 * 2 ^ (waste - 1) % 2 ^ 8 ≡ eight_bits (λ k. eqb waste (k + 1))
unfolding eight_bits
bit_of_lem waste low high =
    let same : waste - 1 + 1 ≡ waste = omega arith in
    shl_exact {a = 1} 1 (waste - 1) 8 (omega arith) (omega arith) ∙ one-mul (2 ^ (waste - 1))
    ∙ sym (one_bit (waste - 1) 8 (omega arith)) ∙ ap (λ (w : ℕ). bits_below (λ k. eqb w (k + 1)) 8) same

pub bit_of_none : (byte : ℕ) → ((k : ℕ) → k < 8 → byte ≡ k + 1 → ⊥) → eight_bits (λ k. eqb byte (k + 1)) ≡ 0
bit_of_none byte h = no_bits_set (λ k. eqb byte (k + 1)) (λ k l. ne_eqb byte (k + 1) (h k l))

-- A loop that sets the bits one after another, each or not.
pub set_next : (test : ℕ → Bool) (t : ℕ) → t < 8 → test t ≡ true → {bits : ℕ} → bits ≡ bits_below test t → bit_or bits (1 * 2 ^ t % 2 ^ 8) ≡ bits_below test (t + 1)
set_next test t l e p =
    ap₂ bit_or p (shl_exact {a = 1} 1 t 8 (omega arith) (omega arith)) ∙ or_shifted_r 1 t (bits_below test t) (bits_lt test t)
    ∙ rw (add-one t) (omega (arith, ap (λ (b : Bool). one b * 2 ^ t) e))

pub pass_next : (test : ℕ → Bool) (t : ℕ) → test t ≡ false → {bits : ℕ} → bits ≡ bits_below test t → bits ≡ bits_below test (t + 1)
pass_next test t e p = p ∙ rw (add-one t) (omega (arith, ap (λ (b : Bool). one b * 2 ^ t) e))

-- All bits are set exactly where the test holds of each.
pub all_bits : (test : ℕ → Bool) (n : ℕ) → every_of test n ≡ true → bits_below test n + 1 ≡ 2 ^ n
all_bits test zero h = refl
all_bits test (suc n) h =
    let p = both_true (every_of test n) (test n) h in
    omega (arith, pow-suc 2 n, all_bits test n p.0, ap (λ (b : Bool). one b * 2 ^ n) p.1)

pub each_bit : (test : ℕ → Bool) (n : ℕ) → bits_below test n + 1 ≡ 2 ^ n → every_of test n ≡ true
each_bit test zero h = refl
each_bit test (suc n) h = by (test n) refl (each_bit test n)
  where
    rest : (b : Bool) → test n ≡ b → bits_below test n + one b * 2 ^ n + 1 ≡ 2 ^ n * 2
    rest b e = rw (← e, ← pow-suc 2 n) h

    by : (b : Bool) → test n ≡ b → (bits_below test n + 1 ≡ 2 ^ n → every_of test n ≡ true) → every_of test (suc n) ≡ true
    by true e below = rw (e, below (omega (arith, rest true e)))
    by false e below = absurd (omega (arith, rest false e, bits_lt test n, pow_pos n))

-- A bit by itself is 1 exactly where the test holds.
pub bit_is : (test : ℕ → Bool) (n t : ℕ) → t < n → bits_below test n / 2 ^ t % 2 ≡ one (test t)
bit_is test zero t l = absurd (omega arith)
bit_is test (suc n) t l =
    ⊎_elim
    (λ e. rw e (ap (λ (x : ℕ). x / 2 ^ n % 2) (high_first test n) ∙ ap (λ (x : ℕ). x % 2) (high (one (test n)) n (bits_lt test n)) ∙ omega (arith, one_most (test n))))
    (λ lt. below lt (bit_is test n t lt))
    (eq-or-lt_of_le (le_of_suc-le-suc l))
  where
    -- the highest bit is so many times twice the power of a lower one
    below : t < n → bits_below test n / 2 ^ t % 2 ≡ one (test t) → bits_below test (suc n) / 2 ^ t % 2 ≡ one (test t)
    below lt rest =
        let up : n ≡ n - t - 1 + 1 + t = omega arith in
        let twice : 2 ^ (n - t - 1 + 1) ≡ 2 ^ (n - t - 1) * 2 = rw (add-one (n - t - 1)) (pow-suc 2 (n - t - 1)) in
        let split : one (test n) * 2 ^ n ≡ one (test n) * 2 ^ (n - t - 1) * 2 * 2 ^ t =
        ap (λ (k : ℕ). one (test n) * 2 ^ k) up ∙ ap (λ (x : ℕ). one (test n) * x) (pow-add 2 (n - t - 1 + 1) t ∙ ap (λ (x : ℕ). x * 2 ^ t) twice) ∙ omega arith in
        ap (λ (x : ℕ). x / 2 ^ t % 2) (high_first test n ∙ ap (λ (x : ℕ). x + bits_below test n) split)
        ∙ ap (λ (x : ℕ). x % 2) (mul-add-div_right (pow_pos t) (one (test n) * 2 ^ (n - t - 1) * 2) (bits_below test n)) ∙ omega (arith, rest)
