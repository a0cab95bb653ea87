-- Laws of an order: among eight bytes all types are named exactly where each is named once; then each type has one place and each place
-- one type.
use mathlib.Core.Path.{◌≡◌, refl, sym, ap, ap₂, ◌∙◌}
use mathlib.Core.Bool.{Bool, true, false, true≢false, cond, ◌&&◌, ◌||◌}
use mathlib.Core.List.{List, [], ◌∷◌, ◌++◌}
use mathlib.Core.Logic.{⊎_elim}
use Prim.Native.Nat.{ℕ, zero, suc, ◌+◌, ◌-◌, ◌*◌, ◌≤◌, ◌<◌}
use native.Mathlib.Nat.{eq-or-lt_of_le, le_of_suc-le-suc, eq-zero-or-pos, zero-mul, one-mul}
use native.Mathlib.Decide.{ℕ_discrete}
use native.Mathlib.Numerals.{add-one}
use native.Mathlib.Omega.{arith}
use borrow.Author.Tests.{eq-eqb, ne_eqb, eqb-true, lt-ltb, ltb-true}
use lib.Bits.{bit_or}
use lib.Dec.{eqb, ltb}
use lib.ListN.{length, get_or, take}
use lib.Seq.{take-suc, ext_get_or}
use Rattle.numbers.specs.Eight.{one, eight, sum_of, every_of}
use Rattle.numbers.specs.Lists.{added}
use Rattle.numbers.proofs.Eight.{eight_at, sum_same, sum_each, sum_at_most, sum_plus, sum_times, sum_single, sum_swap, both_true, every_at, every_each}
use Rattle.numbers.proofs.Lists.{added_more}
use Rattle.order.specs.Order.{eight_bits, times_named, is_order, types_seen, place_of}
use Rattle.order.proofs.Bits.{one_most, or_bits, bits_same, all_bits, each_bit}

-- How many of the types 1 to n a byte is: one at most.
abbrev hits : (n byte : ℕ) → ℕ
hits n byte = sum_of (λ k. one (eqb byte (k + 1))) n

no_hit : (n byte : ℕ) → ((k : ℕ) → k < n → byte ≡ k + 1 → ⊥) → hits n byte ≡ 0
no_hit n byte h = omega (arith, sum_each (λ k. one (eqb byte (k + 1))) 0 n (λ k l. ap one (ne_eqb byte (k + 1) (h k l))))

hits_most : (n byte : ℕ) → hits n byte ≤ 1
hits_most zero byte = omega arith
hits_most (suc n) byte =
    elim (ℕ_discrete byte (n + 1)) [
      | yes e ↦ omega (arith, no_hit n byte (λ k l e'. omega arith), one_most (eqb byte (n + 1)))
      | no e ↦ omega (arith, hits_most n byte, ap one (ne_eqb byte (n + 1) e))
    ]

-- The types' times added are the bytes' hits added, which are no more than the bytes.
by_byte : (n : ℕ) (order : List ℕ) → sum_of (λ k. times_named order (k + 1)) n ≡ added (hits n) order
unfolding times_named
by_byte n [] = omega (arith, sum_each (λ k. 0) 0 n (λ k l. refl))
by_byte n (byte ∷ rest) =
    omega (arith, sum_plus (λ k. one (eqb byte (k + 1))) (λ k. times_named rest (k + 1)) n, by_byte n rest)

added_most : (f : ℕ → ℕ) → ((x : ℕ) → f x ≤ 1) → (xs : List ℕ) → added f xs ≤ length xs
added_most f h [] = omega arith
added_most f h (x ∷ xs) = omega (arith, h x, added_most f h xs)

-- Numbers of at least 1 that add up to no more than how many they are, are 1; and so are numbers of at most 1 that add up to no less.
all_one : (f : ℕ → ℕ) (n : ℕ) → ((k : ℕ) → k < n → 1 ≤ f k) → sum_of f n ≤ n → (k : ℕ) → k < n → f k ≡ 1
all_one f zero h s k l = absurd (omega arith)
all_one f (suc n) h s k l =
    let below : n ≤ sum_of f n = omega (arith, sum_at_most (λ t. 1) f n (λ t m. h t (omega arith)), sum_each (λ t. 1) 1 n (λ t m. refl)) in
    ⊎_elim (λ e. rw e (omega (arith, h n (omega arith)))) (λ lt. all_one f n (λ t m. h t (omega arith)) (omega (arith, h n (omega arith))) k lt)
    (eq-or-lt_of_le (le_of_suc-le-suc l))

each_one : (f : ℕ → ℕ) → ((x : ℕ) → f x ≤ 1) → (xs : List ℕ) → length xs ≤ added f xs → (p : ℕ) → p < length xs → f (get_or xs p 0) ≡ 1
each_one f h [] s p l = absurd (omega arith)
each_one f h (x ∷ xs) s zero l = omega (arith, h x, added_most f h xs)
each_one f h (x ∷ xs) s (suc p) l = each_one f h xs (omega (arith, h x)) p (omega arith)

-- One byte more at the end of what was seen.
more_named : (n : ℕ) (b : Bool) → ltb 0 (n + one b) ≡ (ltb 0 n || b)
more_named zero true = refl
more_named zero false = refl
more_named (suc n) true = lt-ltb 0 (suc n + 1) (omega arith) ∙ sym (ap (λ (c : Bool). c || true) (lt-ltb 0 (suc n) (omega arith)))
more_named (suc n) false = lt-ltb 0 (suc n + 0) (omega arith) ∙ sym (ap (λ (c : Bool). c || false) (lt-ltb 0 (suc n) (omega arith)))

pub seen_more : (order : List ℕ) (p : ℕ) → p < length order → {seen next : ℕ} → seen ≡ types_seen (take p order)
    → next ≡ bit_or seen (eight_bits (λ k. eqb (get_or order p 0) (k + 1))) → next ≡ types_seen (take (p + 1) order)
unfolding types_seen times_named eight_bits
seen_more order p l e step =
    let byte = get_or order p 0 in
    let more : take (p + 1) order ≡ take p order ++ (byte ∷ []) = rw (add-one p) (take-suc order p 0 l) in
    let named : (k : ℕ) → (ltb 0 (times_named (take p order) (k + 1)) || eqb byte (k + 1)) ≡ ltb 0 (times_named (take (p + 1) order) (k + 1)) =
    λ k. sym (ap (λ (xs : List ℕ). ltb 0 (times_named xs (k + 1))) more ∙ ap (ltb 0) (added_more (λ b. one (eqb b (k + 1))) (take p order) byte)
    ∙ more_named (times_named (take p order) (k + 1)) (eqb byte (k + 1)))
    in
    step ∙ ap (λ (s : ℕ). bit_or s (eight_bits (λ k. eqb byte (k + 1)))) e
    ∙ or_bits (λ k. ltb 0 (times_named (take p order) (k + 1))) (λ k. eqb byte (k + 1)) 8
    ∙ bits_same (λ k. ltb 0 (times_named (take p order) (k + 1)) || eqb byte (k + 1)) (λ k. ltb 0 (times_named (take (p + 1) order) (k + 1))) (λ k m. named k)

-- Eight bytes that name all types are an order.
pub order_when : (order : List ℕ) → length order ≡ 8 → ((k : ℕ) → k < 8 → 0 < times_named order (k + 1)) → is_order order ≡ true
unfolding is_order
order_when order size named =
    let sum : sum_of (λ k. times_named order (k + 1)) 8 ≤ 8 = omega (arith, by_byte 8 order, added_most (hits 8) (hits_most 8) order, size) in
    ap₂ (λ (a b : Bool). a && b) (eq-eqb (length order) 8 size)
    (every_each (λ k. eqb (times_named order (k + 1)) 1) 8 (λ k l. eq-eqb (times_named order (k + 1)) 1 (all_one (λ k. times_named order (k + 1)) 8 named sum k l)))

module _ (order : List ℕ) (ok : is_order order ≡ true) where
  both : (eqb (length order) 8 ≡ true) × (every_of (λ k. eqb (times_named order (k + 1)) 1) 8 ≡ true)
  unfolding is_order
  both = both_true (eqb (length order) 8) (every_of (λ k. eqb (times_named order (k + 1)) 1) 8) ok

  pub eight_bytes : length order ≡ 8
  eight_bytes = eqb-true (length order) 8 both.0

  pub named_once : (k : ℕ) → k < 8 → times_named order (k + 1) ≡ 1
  named_once k l = eqb-true (times_named order (k + 1)) 1 (every_at (λ j. eqb (times_named order (j + 1)) 1) 8 k l both.1)

-- The law of the set: it is 255 exactly where the eight bytes are an order.
pub full_set : (order : List ℕ) → length order ≡ 8 → eqb (types_seen order) 255 ≡ is_order order
unfolding types_seen eight_bits
full_set order size = by (is_order order) refl
  where
    seen : ℕ → Bool
    seen k = ltb 0 (times_named order (k + 1))

    by : (b : Bool) → is_order order ≡ b → eqb (types_seen order) 255 ≡ b
    by true e = eq-eqb (types_seen order) 255 (omega (arith, all_bits seen 8 (every_each seen 8 (λ k l. lt-ltb 0 (times_named order (k + 1)) (omega (arith, named_once order e k l))))))
    by false e =
        ne_eqb (types_seen order) 255
        (λ full. let all = each_bit seen 8 (omega (arith, full)) in
        let ok = order_when order size (λ k l. ltb-true 0 (times_named order (k + 1)) (every_at seen 8 k l all)) in
        true≢false (sym ok ∙ e))

-- Where a type that is named once is found, and that it is found wherever it stands.
found : (order : List ℕ) (waste : ℕ) → 0 < times_named order waste → (place_of order waste < length order) × (get_or order (place_of order waste) 0 ≡ waste)
unfolding times_named place_of
found [] waste h = absurd (omega arith)
found (byte ∷ rest) waste h = by (eqb byte waste) refl h (found rest waste)
  where
    by : (b : Bool) → eqb byte waste ≡ b → 0 < one b + times_named rest waste
        → (0 < times_named rest waste → (place_of rest waste < length rest) × (get_or rest (place_of rest waste) 0 ≡ waste))
        → (cond b 0 (suc (place_of rest waste)) < suc (length rest)) × (get_or (byte ∷ rest) (cond b 0 (suc (place_of rest waste))) 0 ≡ waste)
    by true e h later = (omega arith, eqb-true byte waste e)
    by false e h later = let p = later (omega arith) in (omega arith, p.1)

pub named_at : (order : List ℕ) (p : ℕ) → p < length order → 0 < times_named order (get_or order p 0)
unfolding times_named
named_at [] p l = absurd (omega arith)
named_at (byte ∷ rest) zero l = omega (arith, ap one (eq-eqb byte byte refl))
named_at (byte ∷ rest) (suc p) l = omega (arith, named_at rest p (omega arith))

found_at : (order : List ℕ) (p waste : ℕ) → p < length order → get_or order p 0 ≡ waste → times_named order waste ≡ 1 → place_of order waste ≡ p
unfolding times_named place_of
found_at [] p waste l e h = absurd (omega arith)
found_at (byte ∷ rest) zero waste l e h = rw (eq-eqb byte waste e)
found_at (byte ∷ rest) (suc p) waste l e h = by (eqb byte waste) h (found_at rest p waste (omega arith) e)
  where
    by : (b : Bool) → one b + times_named rest waste ≡ 1 → (times_named rest waste ≡ 1 → place_of rest waste ≡ p) → cond b 0 (suc (place_of rest waste)) ≡ suc p
    by true h later = let again : 0 < times_named rest waste = rw e at (named_at rest p (omega arith)) in absurd (omega arith)
    by false h later = ap suc (later (omega arith))

module _ (order : List ℕ) (ok : is_order order ≡ true) where
  pub place_lt : (t : ℕ) → t < 8 → place_of order (t + 1) < 8
  place_lt t l = omega (arith, (found order (t + 1) (omega (arith, named_once order ok t l))).0, eight_bytes order ok)

  pub at_place : (t : ℕ) → t < 8 → get_or order (place_of order (t + 1)) 0 ≡ t + 1
  at_place t l = (found order (t + 1) (omega (arith, named_once order ok t l))).1

  one_hit : (p : ℕ) → p < 8 → hits 8 (get_or order p 0) ≡ 1
  one_hit p l =
      let size = eight_bytes order ok in
      let all : 8 ≤ added (hits 8) order = omega (arith, by_byte 8 order, sum_each (λ k. times_named order (k + 1)) 1 8 (named_once order ok)) in
      each_one (hits 8) (hits_most 8) order (omega (arith, all)) p (omega arith)

  -- each place has a type, and the type is found there
  pub type_at : (p : ℕ) → p < 8 → (0 < get_or order p 0) × (get_or order p 0 ≤ 8)
  type_at p l =
      let hit = one_hit p l in
      let no : ((k : ℕ) → k < 8 → get_or order p 0 ≡ k + 1 → ⊥) → ⊥ = λ h. omega (arith, no_hit 8 (get_or order p 0) h) in (
        ⊎_elim (λ e. absurd (no (λ k m e'. omega arith))) (λ some. some) (eq-zero-or-pos (get_or order p 0)),
        ⊎_elim (λ e. omega arith) (λ over. absurd (no (λ k m e'. omega arith))) (eq-zero-or-pos (get_or order p 0 - 8)),
      )

  pub place_back : (p : ℕ) → p < 8 → place_of order (get_or order p 0) ≡ p
  place_back p l =
      let t = type_at p l in
      let same : get_or order p 0 ≡ get_or order p 0 - 1 + 1 = omega arith in
      found_at order p (get_or order p 0) (omega (arith, eight_bytes order ok)) refl (rw same (named_once order ok (get_or order p 0 - 1) (omega arith)))

  -- and no two places have one type
  pub apart : (p q : ℕ) → p < 8 → q < 8 → (p ≡ q → ⊥) → get_or order p 0 ≡ get_or order q 0 → ⊥
  apart p q l m differ e = differ (sym (place_back p l) ∙ ap (place_of order) e ∙ place_back q m)

  -- Numbers that have each place at its type are the places of the types.
  pub places_are : (places : List ℕ) → length places ≡ 8 → ((p : ℕ) → p < 8 → get_or places (get_or order p 0 - 1) 0 ≡ p)
      → places ≡ eight (λ t. place_of order (t + 1))
  places_are places size each =
      ext_get_or 0 places (eight (λ t. place_of order (t + 1))) size
      (λ t l. let m : t < 8 = omega (arith, size) in
      let back : get_or order (place_of order (t + 1)) 0 - 1 ≡ t = omega (arith, at_place t m) in
      sym (ap (λ (u : ℕ). get_or places u 0) back) ∙ each (place_of order (t + 1)) (place_lt t m) ∙ sym (eight_at (λ t. place_of order (t + 1)) t m))

  -- A sum over the places of the types is one over all places.
  pub sum_by_order : (g : ℕ → ℕ) → sum_of (λ t. g (place_of order (t + 1))) 8 ≡ sum_of g 8
  sum_by_order g =
      let term : ℕ → ℕ → ℕ = λ t p. one (eqb (get_or order p 0) (t + 1)) * g p in
      sum_same (λ t. g (place_of order (t + 1))) (λ t. sum_of (term t) 8) 8
      (λ t l. sym (sum_single (term t) 8 (place_of order (t + 1)) (place_lt t l)
      (λ p m differ. ap (λ (b : Bool). one b * g p) (ne_eqb (get_or order p 0) (t + 1) (λ e. differ (sym (place_back p m) ∙ ap (place_of order) e))) ∙ zero-mul (g p))
      ∙ ap (λ (b : Bool). one b * g (place_of order (t + 1))) (eq-eqb _ (t + 1) (at_place t l)) ∙ one-mul (g (place_of order (t + 1)))))
      ∙ sum_swap term 8 8
      ∙ sum_same (λ p. sum_of (λ t. term t p) 8) g 8
      (λ p l. sum_times (λ t. one (eqb (get_or order p 0) (t + 1))) (g p) 8 ∙ ap (λ (n : ℕ). n * g p) (one_hit p l) ∙ one-mul (g p))
