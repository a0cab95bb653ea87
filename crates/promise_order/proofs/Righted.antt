-- What request g claims of a file that is put right: its bytes and bits, the way back, and the file that is the old one.
use mathlib.Core.Path.{◌≡◌, refl, sym, ap, ap₂, ◌∙◌}
use mathlib.Core.Bool.{Bool, true, false, true≢false, not}
use mathlib.Core.List.{List, [], ◌∷◌, ◌++◌}
use mathlib.Core.Logic.{◌↔◌}
use Prim.Native.Nat.{ℕ, ◌+◌, ◌-◌, ◌*◌, ◌/◌, ◌%◌, ◌^◌, ◌<◌}
use native.Mathlib.Omega.{arith}
use borrow.Author.Tests.{eq-eqb, eqb-true}
use lib.Dec.{eqb}
use lib.ListN.{length, get_or, take, drop, length-append, length-drop, get_or-append}
use lib.Seq.{take_at, drop_at}
use Rattle.numbers.specs.Eight.{one, sum_of}
use Rattle.numbers.proofs.Bytes.{number_same}
use Rattle.numbers.proofs.Eight.{eight_at, sum_same}
use Rattle.record.specs.Fields.{mass_of}
use Rattle.order.specs.Order.{eight_bits, place_of}
use Rattle.order.specs.Repair.{mass_bytes, is_other, record_in, stood_at, new_file, report_of, bits_set}
use Rattle.order.proofs.Bits.{bits_lt, bit_is}
use Rattle.order.proofs.Named.{place_lt, type_at, place_back, sum_by_order}
use Rattle.order.proofs.Records.{mass_from, whole_record}
use Rattle.order.proofs.Answer.{rooms, new_length, report_length, changed_is, out_is, report_is}
use Rattle.order.proofs.Files.{in_record, report_at, new_record, head_byte, mass_byte, record_kept, file_kept, nothing_counted, nothing_reported, file_same}
use Rattle.order.proofs.Back as undone
use Rattle.promise_order.specs.Shuffled.{Shuffled, righted, NamesEach, number, Room, mass_at, times_at, bit_of, PutRight, file_copied, Inverse, again, BroughtBack}
use Rattle.promise_order.proofs.Shuffled.{Passed, when_passed, names_each, is_order_lem, same_righted, repair_where}

-- A mass of a file is that of its record.
in_file : (file : List ℕ) (q t : ℕ) → t < 8 → mass_at file q t ≡ mass_of (record_in file q) t
unfolding mass_of
in_file file q t l =
    number_same 4 file (record_in file q) (48 * q + 16 + 4 * t) (16 + 4 * t)
    (λ i m. let place : 48 * q + 16 + 4 * t + i ≡ 48 * q + (16 + 4 * t + i) = omega arith in
    rw place (sym (in_record file q (16 + 4 * t + i) (omega arith))))

module _ (s : Shuffled) (p : Passed s) where
  abbrev file : List ℕ
  file = s.file

  abbrev new : List ℕ
  new = new_file s.order file

  long : length new ≡ length file
  long = omega (arith, new_length s.order file p.order_fine, p.whole)

  out_now : (righted s).out ≡ new ++ drop (length file) s.out
  out_now = out_is s.order file s.out s.report p.order_fine p.whole p.fits

  report_now : (righted s).report ≡ report_of s.order file ++ drop (number s) s.report
  report_now = report_is s.order file s.out s.report p.order_fine p.whole p.fits

  answer_now : (righted s).changed ≡ bits_set s.order file
  answer_now = changed_is s.order file s.out s.report p.order_fine p.whole p.fits

  pub new_now : take (length file) (righted s).out ≡ new
  new_now = ap (take (length file)) out_now ∙ take_at new (drop (length file) s.out) (length file) long

  byte_now : (i : ℕ) → i < length file → get_or (righted s).out i 0 ≡ get_or new i 0
  byte_now i l = ap (λ (xs : List ℕ). get_or xs i 0) out_now ∙ get_or-append new (drop (length file) s.out) 0 i (omega (arith, long))

  report_byte : (q : ℕ) → q < number s → get_or (righted s).report q 0 ≡ eight_bits (is_other (stood_at s.order) (record_in file q))
  report_byte q l =
      ap (λ (xs : List ℕ). get_or xs q 0) report_now
      ∙ get_or-append (report_of s.order file) (drop (number s) s.report) 0 q (omega (arith, report_length s.order file)) ∙ report_at s.order file q l

  -- a mass of the new file is the old one of the place where its type stood
  mass_now : (q t : ℕ) → q < number s → t < 8 → mass_at (righted s).out q t ≡ mass_of (record_in new q) t
  mass_now q t l m =
      number_same 4 (righted s).out new (48 * q + 16 + 4 * t) (48 * q + 16 + 4 * t) (λ i k. byte_now (48 * q + 16 + 4 * t + i) (omega arith)) ∙ in_file new q t m

  new_mass : (q t : ℕ) → q < number s → t < 8 → mass_of (record_in new q) t ≡ mass_of (record_in file q) (stood_at s.order t)
  new_mass q t l m =
      ap (λ (bytes : List ℕ). mass_of bytes t) (new_record s.order file p.order_fine q l)
      ∙ mass_from (record_in file q) (whole_record file q l) (stood_at s.order) (place_lt s.order p.order_fine) t m

  as_often : (q kg : ℕ) → q < number s → times_at (righted s).out q kg ≡ times_at file q kg
  as_often q kg l =
      sum_same _ (λ t. one (eqb (mass_of (record_in file q) (stood_at s.order t)) kg)) 8 (λ t m. ap (λ (x : ℕ). one (eqb x kg)) (mass_now q t l m ∙ new_mass q t l m))
      ∙ sum_by_order s.order p.order_fine (λ place. one (eqb (mass_of (record_in file q) place) kg))
      ∙ sum_same _ _ 8 (λ t m. ap (λ (x : ℕ). one (eqb x kg)) (sym (in_file file q t m)))

  bit_now : (q t : ℕ) → q < number s → t < 8 → bit_of (get_or (righted s).report q 0) t ≡ one (is_other (stood_at s.order) (record_in file q) t)
  unfolding eight_bits
  bit_now q t l m = ap (λ (byte : ℕ). byte / 2 ^ t % 2) (report_byte q l) ∙ bit_is (is_other (stood_at s.order) (record_in file q)) 8 t m

  set_where : (q t : ℕ) → q < number s → t < 8 → (bit_of (get_or (righted s).report q 0) t ≡ 1) ↔ (mass_at (righted s).out q t ≡ mass_at file q t → ⊥)
  set_where q t l m = by (eqb (mass_at (righted s).out q t) (mass_at file q t)) refl
    where
      other : is_other (stood_at s.order) (record_in file q) t ≡ not (eqb (mass_at (righted s).out q t) (mass_at file q t))
      other = ap₂ (λ (a b : ℕ). not (eqb a b)) (ap (λ (bytes : List ℕ). mass_of bytes t) (sym (new_record s.order file p.order_fine q l)) ∙ sym (mass_now q t l m)) (sym (in_file file q t m))

      bit : (b : Bool) → eqb (mass_at (righted s).out q t) (mass_at file q t) ≡ b → bit_of (get_or (righted s).report q 0) t ≡ one (not b)
      bit b e = bit_now q t l m ∙ ap one other ∙ ap (λ (x : Bool). one (not x)) e

      by : (b : Bool) → eqb (mass_at (righted s).out q t) (mass_at file q t) ≡ b
          → (bit_of (get_or (righted s).report q 0) t ≡ 1) ↔ (mass_at (righted s).out q t ≡ mass_at file q t → ⊥)
      by true e = (λ set same. omega (arith, bit true e, set), λ differ. absurd (differ (eqb-true _ _ e)))
      by false e = (λ set same. true≢false (sym (eq-eqb _ _ same) ∙ e), λ differ. bit false e)

  counted : (righted s).changed ≡ sum_of (λ q. sum_of (bit_of (get_or (righted s).report q 0)) 8) (number s)
  unfolding bits_set
  counted = answer_now ∙ sum_same _ _ (number s) (λ q l. sum_same _ _ 8 (λ t m. sym (bit_now q t l m)))

  pub put_right : PutRight s (righted s)
  unfolding eight_bits
  put_right =
      let fits = rooms file s.out s.report p.fits in
      record {
        masses = λ q place b l m k.
            let type = type_at s.order p.order_fine place m in
            let there : 48 * q + 16 + 4 * (get_or s.order place 0 - 1) + b ≡ 48 * q + (16 + 4 * (get_or s.order place 0 - 1) + b) = omega arith in
            let here : 48 * q + 16 + 4 * place + b ≡ 48 * q + (16 + 4 * place + b) = omega arith in
            rw (there, here) (byte_now (48 * q + (16 + 4 * (get_or s.order place 0 - 1) + b)) (omega (arith, type.0, type.1)) ∙ mass_byte s.order file p.order_fine q place b l m k);
        as_often = as_often;
        others = λ q i l m. byte_now (48 * q + i) (omega arith) ∙ head_byte s.order file p.order_fine q i l m;
        out_stays = ap (drop (length file)) out_now ∙ drop_at new (drop (length file) s.out) (length file) long;
        report_stays = ap (drop (number s)) report_now ∙ drop_at (report_of s.order file) (drop (number s) s.report) (number s) (report_length s.order file);
        out_long = ap length out_now ∙ length-append new (drop (length file) s.out) ∙ omega (arith, long, fits.0, length-drop (length file) s.out);
        report_long = ap length report_now ∙ length-append (report_of s.order file) (drop (number s) s.report)
            ∙ omega (arith, report_length s.order file, fits.1, length-drop (number s) s.report);
        a_byte = λ q l. rw (report_byte q l) (bits_lt (is_other (stood_at s.order) (record_in file q)) 8);
        set_where = set_where;
        counted = counted;
      }

  -- A new file that is the old one: copied, and nothing reported.
  copied_when : new ≡ file → righted s ≡ file_copied s
  copied_when same =
      same_righted p.not_refused (answer_now ∙ nothing_counted s.order file p.order_fine p.whole same)
      (out_now ∙ ap (λ (xs : List ℕ). xs ++ drop (length file) s.out) same)
      (report_now ∙ ap (λ (xs : List ℕ). xs ++ drop (number s) s.report) (nothing_reported s.order file p.order_fine p.whole same))

  pub in_order : s.order ≡ 1 ∷ 2 ∷ 3 ∷ 4 ∷ 5 ∷ 6 ∷ 7 ∷ 8 ∷ [] → righted s ≡ file_copied s
  in_order e =
      let named : (t : ℕ) → t < 8 → get_or s.order t 0 ≡ t + 1 = λ t l. ap (λ (xs : List ℕ). get_or xs t 0) e ∙ eight_at (λ t. t + 1) t l in
      let stood : (t : ℕ) → t < 8 → stood_at s.order t ≡ t = λ t l. ap (place_of s.order) (sym (named t l)) ∙ place_back s.order p.order_fine t l in
      copied_when (file_kept s.order file p.order_fine p.whole
      (λ q l. record_kept (stood_at s.order) (record_in file q) (whole_record file q l) (λ t m. ap (mass_bytes (record_in file q)) (stood t m))))

  pub none_changed : ((i : ℕ) → get_or file i 0 < 256) → ((righted s).changed ≡ 0) ↔ (take (length file) (righted s).out ≡ file)
  none_changed bytes = (
    λ none. new_now ∙ file_same s.order file p.order_fine p.whole bytes (sym answer_now ∙ none),
    λ same. answer_now ∙ nothing_counted s.order file p.order_fine p.whole (sym new_now ∙ same),
  )

-- The way back.
module _ (s : Shuffled) (back out report : List ℕ) (p : Passed s) (inverse : Inverse s.order back) (room : Room (again s back out report)) where
  abbrev undoes : undone.Undoes back s.order
  undoes = (inverse.eight_bytes, inverse.names_back)

  handed : (again s back out report).file ≡ new_file s.order s.file
  handed = new_now s p

  same_length : length (again s back out report).file ≡ length s.file
  same_length = ap length handed ∙ undone.new_size s.order back p.order_fine undoes s.file p.whole

  back_passed : Passed (again s back out report)
  back_passed =
      let ok = undone.back_order s.order back p.order_fine undoes in
      when_passed (again s back out report)
      ((repair_where (again s back out report)).1 (names_each back ok, omega (arith, same_length, p.whole), room))

  pub brought_back : BroughtBack s (righted (again s back out report))
  brought_back =
      let back-file = undone.file_back s.order back p.order_fine undoes s.file p.whole in
      let back-report = undone.report_back s.order back p.order_fine undoes s.file p.whole in
      let number_same : number (again s back out report) ≡ number s = ap (λ (n : ℕ). n / 48) same_length in
      record {
        not_refused = back_passed.not_refused;
        old_file = ap (λ (n : ℕ). take n (righted (again s back out report)).out) (sym same_length) ∙ new_now (again s back out report) back_passed ∙ ap (new_file back) handed ∙ back-file;
        same_report = first (again s back out report) back_passed (number s) number_same ∙ ap (report_of back) handed ∙ back-report ∙ sym (first s p (number s) refl);
        same_answer = answer_now (again s back out report) back_passed ∙ ap (bits_set back) handed
            ∙ undone.bits_back s.order back p.order_fine undoes s.file p.whole ∙ sym (answer_now s p);
      }
    where
      first : (s : Shuffled) (p : Passed s) (n : ℕ) → number s ≡ n → take n (righted s).report ≡ report_of s.order s.file
      first s p n e = ap (take n) (report_now s p) ∙ take_at (report_of s.order s.file) _ n (report_length s.order s.file ∙ e)

pub has_inverse : (order : List ℕ) → NamesEach order → (back : List ℕ) × Inverse order back
has_inverse order n =
    let found = undone.inverse order (is_order_lem order n) in
    (found.0, record { eight_bytes = found.1.0; names_back = found.1.1 })
