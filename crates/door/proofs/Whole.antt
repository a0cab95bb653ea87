-- What is answered to a float v with sign s and size a / c: it is the whole number n where a is n × c, and has a fraction where c
-- does not divide a.
use mathlib.Core.Path.{◌≡◌, refl, ap, ◌∙◌}
use mathlib.Core.Bool.{Bool, true, false}
use Prim.Native.Nat.{ℕ, zero, suc, ◌*◌, ◌/◌, ◌%◌, ◌^◌, ◌≤◌, ◌<◌}
use native.Mathlib.Nat.{mul-mod_left, mul-div_cancel, div-add-mod', eq_of_mul-eq-mul_right, lt_of_mul-lt-mul_right}
use native.Mathlib.Omega.{arith}
use lib.Pow.{pow_pos}
use lib.Ieee.{Float, nan, inf, fin, up, down}
use lib.Ieee.Fits.{down_pos}
use lib.Ieee.Exact.{HasValue}
use borrow.Author.Tests.{ne_eqb, le-leb, lt-leb}
use Rattle.waste.specs.Waste.{mass_limit}
use Rattle.door.specs.Cell.{whole, not_whole, signed, whole_of, refused_cell, accepted_cell, answer_to_number}

pub is_whole : (v : Float) (s : Bool) (n c : ℕ) → 0 < c → HasValue v s (n * c) c → whole_of v ≡ whole (signed s n)
is_whole nan s n c p h = absurd h
is_whole (inf t) s n c p h = absurd h
is_whole (fin t m e) s n c p h =
    let q : m * up e ≡ n * down e = eq_of_mul-eq-mul_right c p _ _ (omega (arith, h.1)) in
    let r : m * up e % down e ≡ 0 = ap (λ (k : ℕ). k % down e) q ∙ mul-mod_left n (down e) in
    let d : m * up e / down e ≡ n = ap (λ (k : ℕ). k / down e) q ∙ mul-div_cancel n (down_pos e) in
    rw (r, d, h.0)

pub has_fraction : (v : Float) (s : Bool) (a c : ℕ) → 0 < a % c → HasValue v s a c → whole_of v ≡ not_whole
has_fraction nan s a c f h = refl
has_fraction (inf t) s a c f h = refl
has_fraction (fin t m e) s a c f h = rw (ne_eqb (m * up e % down e) 0 divided)
  where
    divided : m * up e % down e ≡ 0 → ⊥
    divided z =
        let n = m * up e / down e in
        let q : n * down e * c ≡ m * up e * c = ap (λ (k : ℕ). k * c) (omega (arith, div-add-mod' (m * up e) (down e))) in
        let r : a % c ≡ 0 = ap (λ (k : ℕ). k % c) (eq_of_mul-eq-mul_right (down e) (down_pos e) a (n * c) (omega (arith, h.1))) ∙ mul-mod_left n c in
        omega arith

below_zero : (n : ℕ) → 0 < n → refused_cell 12 ≡ answer_to_number (whole (signed true n))
below_zero zero h = absurd (omega arith)
below_zero (suc n) h = refl

pub above_limit : (s : Bool) (n : ℕ) → mass_limit < n → refused_cell 12 ≡ answer_to_number (whole (signed s n))
above_limit true n h = below_zero n (omega arith)
above_limit false n h = rw (lt-leb n mass_limit h)

-- the answers where the size is q / 2^p, and where it is the whole number n

module _ (v : Float) (s : Bool) (q p : ℕ) (h : HasValue v s q (2 ^ p)) where
  pub fraction_11 : 0 < q % 2 ^ p → refused_cell 11 ≡ answer_to_number (whole_of v)
  fraction_11 f = rw (has_fraction v s q (2 ^ p) f h)

  module _ (n : ℕ) (e : n * 2 ^ p ≡ q) where
    whole_n : whole_of v ≡ whole (signed s n)
    whole_n = is_whole v s n (2 ^ p) (pow_pos p) (rw e h)

    pub minus_12 : s ≡ true → 0 < q → refused_cell 12 ≡ answer_to_number (whole_of v)
    minus_12 t l = rw (whole_n, t) (below_zero n (lt_of_mul-lt-mul_right (2 ^ p) (omega arith)))

    pub above_12 : mass_limit < n → refused_cell 12 ≡ answer_to_number (whole_of v)
    above_12 m = rw whole_n (above_limit s n m)

    pub mass_is : s ≡ false → n ≤ mass_limit → accepted_cell n ≡ answer_to_number (whole_of v)
    mass_is t m = rw (whole_n, t, le-leb n mass_limit m)
