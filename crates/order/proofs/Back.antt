-- The law of the inverse order: it names at each type's place the place where the type stood, so it brings every mass back.
use mathlib.Core.Path.{◌≡◌, refl, sym, ap, ap₂, ◌∙◌}
use mathlib.Core.Bool.{true, not}
use mathlib.Core.List.{List, [], ◌∷◌, ◌++◌}
use Prim.Native.Nat.{ℕ, ◌+◌, ◌-◌, ◌/◌, ◌%◌, ◌<◌}
use native.Mathlib.Decide.{ℕ_discrete}
use native.Mathlib.Omega.{arith}
use borrow.Author.Tests.{eq-eqb, ne_eqb}
use lib.Dec.{eqb}
use lib.ListN.{length, get_or}
use Rattle.numbers.specs.Eight.{one, eight, sum_of}
use Rattle.numbers.specs.Lists.{joined}
use Rattle.numbers.proofs.Eight.{eight_at, sum_same}
use Rattle.numbers.proofs.Joined.{joined_same}
use Rattle.record.specs.Fields.{mass_of}
use Rattle.order.specs.Order.{eight_bits, is_order, place_of}
use Rattle.order.specs.Repair.{mass_bytes, rewritten, is_other, record_in, number_of_records, stood_at, new_file, report_of, bits_set}
use Rattle.order.proofs.Bits.{bits_same}
use Rattle.order.proofs.Named.{named_at, order_when, place_lt, type_at, place_back}
use Rattle.order.proofs.Records.{head_kept, mass_moved, whole_record}
use Rattle.order.proofs.Answer.{new_length}
use Rattle.order.proofs.Files.{record_again, file_again, new_record}

-- An order undoes another where it names, at the place that the other gives to what stood at a place, that place.
abbrev pub Undoes : (back order : List ℕ) → Type 0
Undoes back order = (length back ≡ 8) × ((p : ℕ) → p < 8 → get_or back (get_or order p 0 - 1) 0 ≡ p + 1)

-- Numbers are equal either way round.
test_comm : (a b : ℕ) → eqb a b ≡ eqb b a
test_comm a b =
    elim (ℕ_discrete a b) [
      | yes e ↦ eq-eqb a b e ∙ sym (eq-eqb b a (sym e))
      | no e ↦ ne_eqb a b e ∙ sym (ne_eqb b a (λ e'. e (sym e')))
    ]

-- Each order has one that undoes it.
pub inverse : (order : List ℕ) → is_order order ≡ true → (back : List ℕ) × Undoes back order
inverse order ok = (
  eight (λ t. place_of order (t + 1) + 1),
  (
    refl,
    λ p l.
        let t = type_at order ok p l in
        let up : get_or order p 0 - 1 + 1 ≡ get_or order p 0 = omega (arith, t.0) in
        eight_at (λ t. place_of order (t + 1) + 1) (get_or order p 0 - 1) (omega (arith, t.0, t.1)) ∙ rw (up, place_back order ok p l),
  ),
)

module _ (order back : List ℕ) (ok : is_order order ≡ true) (undoes : Undoes back order) where
  pub back_order : is_order back ≡ true
  back_order =
      order_when back undoes.0
      (λ k l. let t = type_at order ok k l in
      rw (undoes.1 k l) at (named_at back (get_or order k 0 - 1) (omega (arith, undoes.0, t.0, t.1))))

  -- what stood at place t stands where the order says; from there it comes back
  stood_back : (t : ℕ) → t < 8 → stood_at back t ≡ get_or order t 0 - 1
  stood_back t l =
      let w = type_at order ok t l in
      sym (ap (place_of back) (undoes.1 t l)) ∙ place_back back back_order (get_or order t 0 - 1) (omega (arith, w.0, w.1))

  pub there_and_back : (t : ℕ) → t < 8 → stood_at order (stood_at back t) ≡ t
  there_and_back t l =
      let w = type_at order ok t l in
      let up : get_or order t 0 - 1 + 1 ≡ get_or order t 0 = omega (arith, w.0) in
      rw (stood_back t l, up) (place_back order ok t l)

  record_back : (bytes : List ℕ) → length bytes ≡ 48 → rewritten (stood_at back) (rewritten (stood_at order) bytes) ≡ bytes
  unfolding rewritten
  record_back bytes size =
      let new = rewritten (stood_at order) bytes in
      ap₂ (λ (head rest : List ℕ). head ++ rest) (head_kept bytes size (stood_at order) (place_lt order ok))
      (joined_same (λ t. mass_bytes new (stood_at back t)) (mass_bytes bytes) 8
      (λ t l. mass_moved bytes size (stood_at order) (place_lt order ok) (stood_at back t) (place_lt back back_order t l) ∙ ap (mass_bytes bytes) (there_and_back t l)))
      ∙ record_again bytes size

  module _ (file : List ℕ) (whole : length file % 48 ≡ 0) where
    pub new_size : length (new_file order file) ≡ length file
    new_size = omega (arith, new_length order file ok, whole)

    same_number : number_of_records (new_file order file) ≡ number_of_records file
    same_number = ap (λ (n : ℕ). n / 48) new_size

    back_record : (q : ℕ) → q < number_of_records file → rewritten (stood_at back) (record_in (new_file order file) q) ≡ record_in file q
    back_record q l = ap (rewritten (stood_at back)) (new_record order file ok q l) ∙ record_back (record_in file q) (whole_record file q l)

    pub file_back : new_file back (new_file order file) ≡ file
    unfolding new_file
    file_back =
        ap (joined (λ q. rewritten (stood_at back) (record_in (new_file order file) q))) same_number
        ∙ joined_same _ (record_in file) (number_of_records file) back_record ∙ file_again file whole

    -- what is another there is another here
    other_back : (q : ℕ) → q < number_of_records file → (t : ℕ) → is_other (stood_at back) (record_in (new_file order file) q) t ≡ is_other (stood_at order) (record_in file q) t
    other_back q l t =
        ap₂ (λ (here there : List ℕ). not (eqb (mass_of here t) (mass_of there t))) (back_record q l) (new_record order file ok q l)
        ∙ ap not (test_comm (mass_of (record_in file q) t) (mass_of (rewritten (stood_at order) (record_in file q)) t))

    pub report_back : report_of back (new_file order file) ≡ report_of order file
    unfolding report_of
    report_back =
        ap (joined (λ q. eight_bits (is_other (stood_at back) (record_in (new_file order file) q)) ∷ [])) same_number
        ∙ joined_same _ _ (number_of_records file) (λ q l. ap (λ (byte : ℕ). byte ∷ []) (bits_same _ _ (λ t m. other_back q l t)))

    pub bits_back : bits_set back (new_file order file) ≡ bits_set order file
    unfolding bits_set
    bits_back =
        ap (sum_of (λ q. sum_of (λ t. one (is_other (stood_at back) (record_in (new_file order file) q) t)) 8)) same_number
        ∙ sum_same _ _ (number_of_records file) (λ q l. sum_same _ _ 8 (λ t m. ap one (other_back q l t)))
