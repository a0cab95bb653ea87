-- Laws of a file: record by record it is the old one rewritten; and it is the old file exactly where no mass is another.
use mathlib.Core.Path.{◌≡◌, refl, sym, ap, ◌∙◌}
use mathlib.Core.Bool.{Bool, true, false, not}
use mathlib.Core.List.{List, [], ◌∷◌, ◌++◌}
use Prim.Native.Nat.{ℕ, zero, suc, ◌+◌, ◌-◌, ◌*◌, ◌%◌, ◌<◌}
use native.Mathlib.Omega.{arith}
use borrow.Author.Tests.{eq-eqb, eqb-true}
use lib.Dec.{eqb}
use lib.ListN.{length, get_or, take, drop, replicate, length-drop, take-append-drop}
use lib.Seq.{take_all, take-length, drop-drop, get_or-take, get_or-drop}
use Rattle.numbers.specs.Bytes.{number_at, bytes_of}
use Rattle.numbers.specs.Eight.{one, sum_of}
use Rattle.numbers.specs.Lists.{joined}
use Rattle.numbers.proofs.Eight.{sum_each, sum_none}
use Rattle.numbers.proofs.Joined.{joined_same, joined_part, joined_parts}
use Rattle.record.specs.Fields.{mass_of}
use Rattle.order.specs.Order.{eight_bits, is_order}
use Rattle.order.specs.Repair.{record_head, mass_bytes, rewritten, is_other, record_in, number_of_records, stood_at, new_file, report_of, bits_set}
use Rattle.order.proofs.Bits.{no_bits_set}
use Rattle.order.proofs.Named.{place_lt, type_at, place_back}
use Rattle.order.proofs.Records.{bytes_in, mass_own, bytes_of_mass, rewritten_length, head_kept, mass_moved, whole_record}

-- A record is its head and its eight masses.
pub record_again : (bytes : List ℕ) → length bytes ≡ 48 → record_head bytes ++ joined (mass_bytes bytes) 8 ≡ bytes
record_again bytes size =
    let masses : joined (mass_bytes bytes) 8 ≡ drop 16 bytes =
    joined_same (mass_bytes bytes) (λ t. take 4 (drop (4 * t) (drop 16 bytes))) 8 (λ t l. ap (take 4) (sym (drop-drop (4 * t) 16 bytes)))
    ∙ joined_parts 4 (drop 16 bytes) 8 ∙ take_all 32 (drop 16 bytes) (omega (arith, length-drop 16 bytes))
    in
    ap (λ (xs : List ℕ). record_head bytes ++ xs) masses ∙ take-append-drop 16 bytes

-- A record whose masses all come from their own places is the old one.
pub record_kept : (from : ℕ → ℕ) (bytes : List ℕ) → length bytes ≡ 48 → ((t : ℕ) → t < 8 → mass_bytes bytes (from t) ≡ mass_bytes bytes t) → rewritten from bytes ≡ bytes
unfolding rewritten
record_kept from bytes size h = ap (λ (xs : List ℕ). record_head bytes ++ xs) (joined_same _ _ 8 h) ∙ record_again bytes size

-- A file of whole records is its records.
pub file_again : (file : List ℕ) → length file % 48 ≡ 0 → joined (record_in file) (number_of_records file) ≡ file
file_again file whole =
    let all : 48 * number_of_records file ≡ length file = omega arith in
    joined_parts 48 file (number_of_records file) ∙ rw all (take-length file)

-- The bytes of a file by record, and of a record by mass.
pub in_record : (file : List ℕ) (q i : ℕ) → i < 48 → get_or (record_in file q) i 0 ≡ get_or file (48 * q + i) 0
in_record file q i l = get_or-take 48 (drop (48 * q) file) i 0 l ∙ get_or-drop (48 * q) file i 0

in_mass : (bytes : List ℕ) (place b : ℕ) → b < 4 → get_or (mass_bytes bytes place) b 0 ≡ get_or bytes (16 + 4 * place + b) 0
in_mass bytes place b l = get_or-take 4 (drop (16 + 4 * place) bytes) b 0 l ∙ get_or-drop (16 + 4 * place) bytes b 0

pub report_at : (order file : List ℕ) (q : ℕ) → q < number_of_records file → get_or (report_of order file) q 0 ≡ eight_bits (is_other (stood_at order) (record_in file q))
unfolding report_of
report_at order file q l =
    let byte : ℕ → List ℕ = λ q. eight_bits (is_other (stood_at order) (record_in file q)) ∷ [] in
    let all : List ℕ = joined byte (number_of_records file) in
    let place : 1 * q + 0 ≡ q = omega arith in
    sym (rw place at (get_or-drop (1 * q) all 0 0)) ∙ sym (get_or-take 1 (drop (1 * q) all) 0 0 (omega arith))
    ∙ ap (λ (xs : List ℕ). get_or xs 0 0) (joined_part byte 1 (number_of_records file) (λ q l. refl) (number_of_records file) q (omega arith) l)

module _ (order file : List ℕ) (ok : is_order order ≡ true) where
  pub new_record : (q : ℕ) → q < number_of_records file → record_in (new_file order file) q ≡ rewritten (stood_at order) (record_in file q)
  unfolding new_file
  new_record q l =
      joined_part (λ q. rewritten (stood_at order) (record_in file q)) 48 (number_of_records file)
      (λ q l. rewritten_length (record_in file q) (whole_record file q l) (stood_at order) (place_lt order ok)) (number_of_records file) q (omega arith) l

  pub head_byte : (q i : ℕ) → q < number_of_records file → i < 16 → get_or (new_file order file) (48 * q + i) 0 ≡ get_or file (48 * q + i) 0
  head_byte q i l m =
      let bytes : List ℕ = record_in file q in
      let new : List ℕ = rewritten (stood_at order) bytes in
      sym (in_record (new_file order file) q i (omega arith)) ∙ ap (λ (xs : List ℕ). get_or xs i 0) (new_record q l)
      ∙ sym (get_or-take 16 new i 0 m) ∙ ap (λ (xs : List ℕ). get_or xs i 0) (head_kept bytes (whole_record file q l) (stood_at order) (place_lt order ok))
      ∙ get_or-take 16 bytes i 0 m ∙ in_record file q i (omega arith)

  pub mass_byte : (q p b : ℕ) → q < number_of_records file → p < 8 → b < 4
      → get_or (new_file order file) (48 * q + (16 + 4 * (get_or order p 0 - 1) + b)) 0 ≡ get_or file (48 * q + (16 + 4 * p + b)) 0
  mass_byte q p b l m k =
      let bytes : List ℕ = record_in file q in
      let new : List ℕ = rewritten (stood_at order) bytes in
      let type = type_at order ok p m in
      let t : ℕ = get_or order p 0 - 1 in
      let up : get_or order p 0 - 1 + 1 ≡ get_or order p 0 = omega (arith, type.0) in
      let stood : stood_at order (get_or order p 0 - 1) ≡ p = rw up (place_back order ok p m) in
      sym (in_record (new_file order file) q (16 + 4 * t + b) (omega (arith, type.1))) ∙ ap (λ (xs : List ℕ). get_or xs (16 + 4 * t + b) 0) (new_record q l)
      ∙ sym (in_mass new t b k)
      ∙ ap (λ (xs : List ℕ). get_or xs b 0) (mass_moved bytes (whole_record file q l) (stood_at order) (place_lt order ok) t (omega (arith, type.0, type.1)) ∙ ap (mass_bytes bytes) stood)
      ∙ in_mass bytes p b k ∙ in_record file q (16 + 4 * p + b) (omega arith)

  module _ (whole : length file % 48 ≡ 0) where
    -- Where each record is the old one, so is the file; nothing is then reported.
    pub file_kept : ((q : ℕ) → q < number_of_records file → rewritten (stood_at order) (record_in file q) ≡ record_in file q) → new_file order file ≡ file
    unfolding new_file
    file_kept h = joined_same _ _ (number_of_records file) h ∙ file_again file whole

    module _ (same : new_file order file ≡ file) where
      same_record : (q : ℕ) → q < number_of_records file → rewritten (stood_at order) (record_in file q) ≡ record_in file q
      same_record q l = sym (new_record q l) ∙ ap (λ (xs : List ℕ). record_in xs q) same

      no_other : (q : ℕ) → q < number_of_records file → (t : ℕ) → is_other (stood_at order) (record_in file q) t ≡ false
      no_other q l t = ap not (eq-eqb _ _ (ap (λ (bytes : List ℕ). mass_of bytes t) (same_record q l)))

      pub nothing_counted : bits_set order file ≡ 0
      unfolding bits_set
      nothing_counted =
          omega (
            arith,
            sum_each (λ q. sum_of (λ t. one (is_other (stood_at order) (record_in file q) t)) 8) 0 (number_of_records file)
                (λ q l. sum_each (λ t. one (is_other (stood_at order) (record_in file q) t)) 0 8 (λ t m. ap one (no_other q l t))),
          )

      pub nothing_reported : report_of order file ≡ replicate (number_of_records file) 0
      unfolding report_of
      nothing_reported =
          joined_same _ (λ q. 0 ∷ []) (number_of_records file) (λ q l. ap (λ (byte : ℕ). byte ∷ []) (no_bits_set _ (λ t m. no_other q l t)))
          ∙ zeros (number_of_records file)
        where
          one_more : (n : ℕ) → replicate {A = ℕ} n 0 ++ (0 ∷ []) ≡ 0 ∷ replicate n 0
          one_more zero = refl
          one_more (suc n) = ap (λ (xs : List ℕ). 0 ∷ xs) (one_more n)

          zeros : (n : ℕ) → joined {A = ℕ} (λ q. 0 ∷ []) n ≡ replicate n 0
          zeros zero = refl
          zeros (suc n) = ap (λ (xs : List ℕ). xs ++ (0 ∷ [])) (zeros n) ∙ one_more n

    -- Where nothing is counted in a file of bytes, each mass is the old one, and so is the file.
    module _ (bytes : (i : ℕ) → get_or file i 0 < 256) (none : bits_set order file ≡ 0) where
      equal : (q : ℕ) → q < number_of_records file → (t : ℕ) → t < 8 → mass_of (rewritten (stood_at order) (record_in file q)) t ≡ mass_of (record_in file q) t
      unfolding bits_set
      equal q l t m = by (eqb (mass_of (rewritten (stood_at order) (record_in file q)) t) (mass_of (record_in file q) t)) refl
          (sum_none (λ t. one (is_other (stood_at order) (record_in file q) t)) 8
          (sum_none (λ q. sum_of (λ t. one (is_other (stood_at order) (record_in file q) t)) 8) (number_of_records file) none q l) t m)
        where
          by : (b : Bool) → eqb (mass_of (rewritten (stood_at order) (record_in file q)) t) (mass_of (record_in file q) t) ≡ b → one (not b) ≡ 0
              → mass_of (rewritten (stood_at order) (record_in file q)) t ≡ mass_of (record_in file q) t
          by true e z = eqb-true _ _ e
          by false e z = absurd (omega arith)

      -- a mass of as many kilograms has the same bytes
      same_bytes : (q : ℕ) → q < number_of_records file → (t : ℕ) → t < 8 → mass_bytes (record_in file q) (stood_at order t) ≡ mass_bytes (record_in file q) t
      same_bytes q l t m =
          let record48 = whole_record file q l in
          let number = bytes_of_mass (record_in file q) record48 (bytes_in file (48 * q) bytes) in
          let from = mass_own (rewritten (stood_at order) (record_in file q)) t ∙ ap (λ (own : List ℕ). number_at 4 own 0) (mass_moved (record_in file q) record48 (stood_at order) (place_lt order ok) t m)
          ∙ sym (mass_own (record_in file q) (stood_at order t)) in
          sym (number (stood_at order t) (place_lt order ok t m)) ∙ ap (bytes_of 4) (sym from ∙ equal q l t m) ∙ number t m

      pub file_same : new_file order file ≡ file
      file_same = file_kept (λ q l. record_kept (stood_at order) (record_in file q) (whole_record file q l) (same_bytes q l))
