-- The answer by what was tested: each refusal where those ahead of it are not there, and the file rewritten where none is.
use mathlib.Core.Path.{◌≡◌, refl, sym, ap, ◌∙◌}
use mathlib.Core.Bool.{Bool, true, false, cond, true≢false, not, ◌||◌}
use mathlib.Core.List.{List, [], ◌∷◌, ◌++◌}
use Prim.Native.Nat.{ℕ, suc, ◌*◌, ◌%◌, ◌≤◌, ◌<◌}
use native.Mathlib.Nat.{zero-add}
use native.Mathlib.Omega.{arith}
use borrow.Author.Tests.{eq-eqb, ne_eqb, ltb-false}
use lib.Dec.{eqb, ltb}
use lib.ListN.{length, get_or, drop}
use lib.Seq.{sets, sets-eq}
use Rattle.std.proofs.Common.{Result, Ok, Err}
use Rattle.numbers.specs.Eight.{one, eight, sum_of}
use Rattle.numbers.specs.Lists.{joined}
use Rattle.numbers.proofs.Eight.{eight_at, sum_same}
use Rattle.numbers.proofs.Joined.{joined_same, joined_length}
use Rattle.record.specs.Fields.{mass_of}
use Rattle.order.specs.Order.{eight_bits, is_order}
use Rattle.order.specs.Repair.{rewritten, is_other, record_in, number_of_records, stood_at, new_file, report_of, bits_set, repair_faults, repair_refusal, Repaired, numbers_of, repaired_of, out_left, report_left}
use Rattle.order.specs.declared.RepairRefusal.{RepairRefusal}
use Rattle.order.specs.declared.RepairRefusal.TheVariants.{NotAnOrder, PartOfARecord, NoRoom}
use Rattle.order.proofs.Bits.{bits_same}
use Rattle.order.proofs.Named.{place_lt}
use Rattle.order.proofs.Records.{rewritten_same, rewritten_length, whole_record}

either_false : (a b : Bool) → (a || b) ≡ false → (a ≡ false) × (b ≡ false)
either_false false b e = (refl, e)
either_false true b e = absurd (true≢false e)

-- Where neither buffer is too short, both have room.
pub rooms : (file out report : List ℕ) → (ltb (length out) (length file) || ltb (length report) (number_of_records file)) ≡ false
    → (length file ≤ length out) × (number_of_records file ≤ length report)
rooms file out report e =
    let both = either_false (ltb (length out) (length file)) (ltb (length report) (number_of_records file)) e in
    (ltb-false (length out) (length file) both.0, ltb-false (length report) (number_of_records file) both.1)

-- What is written from the start on stands there, and what is past it stays.
front : (xs out : List ℕ) (n : ℕ) → length xs ≡ n → n ≤ length out → sets out 0 xs ≡ xs ++ drop n out
front xs out n size room = sets-eq xs out 0 (rw (zero-add, size) room) ∙ rw (zero-add, size)

module _ (order file : List ℕ) where
  -- What `rewrite` makes of places.
  abbrev file_by : List ℕ → List ℕ
  file_by places = joined (λ q. rewritten (λ u. get_or places u 0) (record_in file q)) (number_of_records file)

  abbrev report_by : List ℕ → List ℕ
  report_by places = joined (λ q. eight_bits (is_other (λ u. get_or places u 0) (record_in file q)) ∷ []) (number_of_records file)

  abbrev bits_by : List ℕ → ℕ
  bits_by places = sum_of (λ q. sum_of (λ t. one (is_other (λ u. get_or places u 0) (record_in file q) t)) 8) (number_of_records file)

  -- Places as `places_of` has them.
  module _ (places : List ℕ) (e : places ≡ eight (stood_at order)) where
    same_place : (t : ℕ) → t < 8 → get_or places t 0 ≡ stood_at order t
    same_place t l = rw e (eight_at (stood_at order) t l)

    pub places_near : is_order order ≡ true → (t : ℕ) → t < 8 → get_or places t 0 < 8
    places_near ok t l = rw (same_place t l) (place_lt order ok t l)

    same_record : (q : ℕ) → rewritten (λ u. get_or places u 0) (record_in file q) ≡ rewritten (stood_at order) (record_in file q)
    same_record q = rewritten_same (λ u. get_or places u 0) (stood_at order) (record_in file q) same_place

    same_other : (q t : ℕ) → is_other (λ u. get_or places u 0) (record_in file q) t ≡ is_other (stood_at order) (record_in file q) t
    same_other q t = ap (λ (bytes : List ℕ). not (eqb (mass_of bytes t) (mass_of (record_in file q) t))) (same_record q)

    new_file_lem : file_by places ≡ new_file order file
    unfolding new_file
    new_file_lem = joined_same _ _ (number_of_records file) (λ q l. same_record q)

    new_report : report_by places ≡ report_of order file
    unfolding report_of
    new_report = joined_same _ _ (number_of_records file) (λ q l. ap (λ (byte : ℕ). byte ∷ []) (bits_same _ _ (λ t m. same_other q t)))

    all_bits_set : bits_by places ≡ bits_set order file
    unfolding bits_set
    all_bits_set = sum_same _ _ (number_of_records file) (λ q l. sum_same _ _ 8 (λ t m. ap one (same_other q t)))

  pub new_length : is_order order ≡ true → length (new_file order file) ≡ 48 * number_of_records file
  unfolding new_file
  new_length ok =
      joined_length (λ q. rewritten (stood_at order) (record_in file q)) 48 (number_of_records file)
      (λ q l. rewritten_length (record_in file q) (whole_record file q l) (stood_at order) (place_lt order ok)) (number_of_records file) (omega arith)

  pub report_length : length (report_of order file) ≡ number_of_records file
  unfolding report_of
  report_length = omega (arith, joined_length (λ q. eight_bits (is_other (stood_at order) (record_in file q)) ∷ []) 1 (number_of_records file) (λ q l. refl) (number_of_records file) (omega arith))

  module _ (out report : List ℕ) where
    -- what comes back, and what the buffers then hold
    abbrev pub Leaves : Repaired → (out' report' : List ℕ) → Type 0
    Leaves r out' report' = (r ≡ repaired_of order file out report) × ((out' ≡ out_left order file out report) × (report' ≡ report_left order file out report))

    refused : (number : ℕ) → repair_refusal order file out report ≡ suc number → {r : Repaired} → r ≡ record { refusal = suc number; changed = 0 }
        → Leaves r out report
    unfolding repaired_of out_left report_left
    refused number e p = let no = ne_eqb (suc number) 0 (λ z. omega arith) in (p ∙ simp (e, no), (simp (e, no), simp (e, no)))

    pub no_order : is_order order ≡ false → {r : Repaired} → r ≡ record { refusal = 20; changed = 0 } → Leaves r out report
    unfolding repair_faults
    no_order e = refused 19 (simp e)

    module _ (ok : is_order order ≡ true) where
      pub not_whole : (length file % 48 ≡ 0 → ⊥) → {r : Repaired} → r ≡ record { refusal = 21; changed = 0 } → Leaves r out report
      unfolding repair_faults
      not_whole e = refused 20 (simp (ok, ne_eqb (length file % 48) 0 e))

      module _ (whole : length file % 48 ≡ 0) where
        pub no_room : (ltb (length out) (length file) || ltb (length report) (number_of_records file)) ≡ true
            → {r : Repaired} → r ≡ record { refusal = 22; changed = 0 } → Leaves r out report
        unfolding repair_faults
        no_room e = refused 21 (simp (ok, eq-eqb (length file % 48) 0 whole, e))

        module _ (room : (ltb (length out) (length file) || ltb (length report) (number_of_records file)) ≡ false) where
          none_refused : repair_refusal order file out report ≡ 0
          unfolding repair_faults
          none_refused = simp (ok, eq-eqb (length file % 48) 0 whole, room)

          pub repair_accepted : (repaired_of order file out report).refusal ≡ 0
          unfolding repaired_of
          repair_accepted = none_refused

          pub changed_is : (repaired_of order file out report).changed ≡ bits_set order file
          unfolding repaired_of
          changed_is = simp none_refused

          pub out_is : out_left order file out report ≡ new_file order file ++ drop (length file) out
          unfolding out_left
          out_is = simp none_refused

          pub report_is : report_left order file out report ≡ report_of order file ++ drop (number_of_records file) report
          unfolding report_left
          report_is = simp none_refused

          pub file_rewritten : (places : List ℕ) → places ≡ eight (stood_at order) → {changed : ℕ} {out' report' : List ℕ}
              → changed ≡ bits_by places → out' ≡ sets out 0 (file_by places) → report' ≡ sets report 0 (report_by places)
              → Leaves (record { refusal = 0; changed = changed }) out' report'
          unfolding repaired_of
          file_rewritten places e n p q =
              let fits = rooms file out report room in
              let long : length (new_file order file) ≡ length file = omega (arith, new_length ok, whole) in (
                simp (none_refused, n, all_bits_set places e),
                (
                  p ∙ ap (sets out 0) (new_file_lem places e) ∙ front (new_file order file) out (length file) long fits.0 ∙ sym out_is,
                  q ∙ ap (sets report 0) (new_report places e) ∙ front (report_of order file) report (number_of_records file) report_length fits.1 ∙ sym report_is,
                ),
              )

-- The case of the answer that has these numbers: so two cases with the same numbers are one.
case_of : Repaired → Result ℕ RepairRefusal
case_of n = cond (eqb n.refusal 20) (Err NotAnOrder) (cond (eqb n.refusal 21) (Err PartOfARecord) (cond (eqb n.refusal 22) (Err NoRoom) (Ok n.changed)))

same_case : (answer : Result ℕ RepairRefusal) → case_of (numbers_of answer) ≡ answer
unfolding case_of
same_case (Ok changed) = refl
same_case (Err NotAnOrder) = refl
same_case (Err PartOfARecord) = refl
same_case (Err NoRoom) = refl

pub one_repaired : (n : Repaired) (a b : Result ℕ RepairRefusal) → numbers_of a ≡ n → numbers_of b ≡ n → a ≡ b
one_repaired n a b p q = sym (same_case a) ∙ ap case_of (p ∙ sym q) ∙ same_case b

-- With a refusal the answer is 0.
pub none_changed : (order file out report : List ℕ) → (repair_refusal order file out report ≡ 0 → ⊥) → (repaired_of order file out report).changed ≡ 0
unfolding repaired_of
none_changed order file out report bad = rw (ne_eqb (repair_refusal order file out report) 0 bad) refl
