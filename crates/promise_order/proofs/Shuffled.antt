-- What request g claims: the laws of orders and files (order), carried to bytes, bits and refusals by number.
use mathlib.Core.Path.{◌≡◌, refl, sym, ap, ap₂, ◌∙◌}
use mathlib.Core.Bool.{Bool, true, false, true≢false, ◌||◌}
use mathlib.Core.List.{List}
use mathlib.Core.Logic.{◌↔◌}
use Prim.Native.Nat.{ℕ, suc, ◌+◌, ◌-◌, ◌%◌}
use native.Mathlib.Decide.{ℕ_discrete}
use native.Mathlib.Omega.{arith}
use borrow.Author.Tests.{eq-eqb, eqb-true, le-ltb}
use lib.Dec.{ltb}
use lib.ListN.{length}
use Rattle.order.specs.Order.{is_order, types_seen, place_of}
use Rattle.order.specs.Repair.{number_of_records, Repaired, repaired_of, out_left, report_left}
use Rattle.order.proofs.Named.{eight_bytes, named_at, order_when, full_set, place_lt, at_place, place_back}
use Rattle.order.proofs.Answer.{rooms, no_order, not_whole, no_room, repair_accepted}
use Rattle.promise_order.specs.Shuffled.{Shuffled, Righted, righted, NamesEach, number, WholeRecords, Room, nothing_written}

-- An order as the request says it, and as it is tested.
pub names_each : (order : List ℕ) → is_order order ≡ true → NamesEach order
names_each order ok =
    record {
      eight_bytes = eight_bytes order ok;
      each = λ waste low high.
          let same : waste - 1 + 1 ≡ waste = omega arith in
          record {
            place = place_of order waste;
            within = rw same at (place_lt order ok (waste - 1) (omega arith));
            named = rw same at (at_place order ok (waste - 1) (omega arith));
            nowhere_else = λ p l e. sym (place_back order ok p l) ∙ ap (place_of order) e;
          };
    }

pub is_order_lem : (order : List ℕ) → NamesEach order → is_order order ≡ true
is_order_lem order n =
    order_when order n.eight_bytes
    (λ k l. let once = n.each (k + 1) (omega arith) (omega arith) in
    rw once.named at (named_at order once.place (omega (arith, once.within, n.eight_bytes))))

pub types_seen_lem : (order : List ℕ) → length order ≡ 8 → (types_seen order ≡ 255) ↔ NamesEach order
types_seen_lem order size = (
  λ e. names_each order (sym (full_set order size) ∙ eq-eqb (types_seen order) 255 e),
  λ n. eqb-true (types_seen order) 255 (full_set order size ∙ is_order_lem order n),
)

pub same_righted : {r r' : Righted} → r.refusal ≡ r'.refusal → r.changed ≡ r'.changed → r.out ≡ r'.out → r.report ≡ r'.report → r ≡ r'
same_righted p q o n = λ i. record { refusal = p i; changed = q i; out = o i; report = n i }

module _ (s : Shuffled) where
  abbrev too_short : Bool
  too_short = ltb (length s.out) (length s.file) || ltb (length s.report) (number_of_records s.file)

  -- The tests in their order, and what comes of each.
  data Tested : Type 0 where
    at_20 : is_order s.order ≡ false → righted s ≡ nothing_written 20 s → Tested
    at_21 : is_order s.order ≡ true → (length s.file % 48 ≡ 0 → ⊥) → righted s ≡ nothing_written 21 s → Tested
    at_22 : is_order s.order ≡ true → length s.file % 48 ≡ 0 → too_short ≡ true → righted s ≡ nothing_written 22 s → Tested
    passed : is_order s.order ≡ true → length s.file % 48 ≡ 0 → too_short ≡ false → (righted s).refusal ≡ 0 → Tested

  -- a refusal as `repair` answers it
  refused : (n : ℕ) → (record { refusal = n; changed = 0 } ≡ repaired_of s.order s.file s.out s.report)
      × ((s.out ≡ out_left s.order s.file s.out s.report) × (s.report ≡ report_left s.order s.file s.out s.report))
      → righted s ≡ nothing_written n s
  refused n e =
      same_righted (sym (ap (λ (r : Repaired). r.refusal) e.0)) (sym (ap (λ (r : Repaired). r.changed) e.0)) (sym e.1.0) (sym e.1.1)

  tested : Tested
  tested = by_order (is_order s.order) refl
    where
      by_room : is_order s.order ≡ true → length s.file % 48 ≡ 0 → (b : Bool) → too_short ≡ b → Tested
      by_room ok whole true short = at_22 ok whole short (refused 22 (no_room s.order s.file s.out s.report ok whole short refl))
      by_room ok whole false fits = passed ok whole fits (repair_accepted s.order s.file s.out s.report ok whole fits)

      by_order : (b : Bool) → is_order s.order ≡ b → Tested
      by_order false unnamed = at_20 unnamed (refused 20 (no_order s.order s.file s.out s.report unnamed refl))
      by_order true ok =
          elim (ℕ_discrete (length s.file % 48) 0) [
            | yes whole ↦ by_room ok whole too_short refl
            | no part ↦ at_21 ok part (refused 21 (not_whole s.order s.file s.out s.report ok part refl))
          ]

  -- What is known of a file that is not refused.
  pub record Passed : Type 0 where
    pub order_fine : is_order s.order ≡ true
    pub whole : length s.file % 48 ≡ 0
    pub fits : too_short ≡ false
    pub not_refused : (righted s).refusal ≡ 0

  pub when_passed : (righted s).refusal ≡ 0 → Passed
  when_passed z = by tested
    where
      by : Tested → Passed
      by (at_20 unnamed e) = absurd (omega (arith, ap (λ (r : Righted). r.refusal) e, z))
      by (at_21 ok part e) = absurd (omega (arith, ap (λ (r : Righted). r.refusal) e, z))
      by (at_22 ok whole short e) = absurd (omega (arith, ap (λ (r : Righted). r.refusal) e, z))
      by (passed ok whole fits e) = record { order_fine = ok; whole = whole; fits = fits; not_refused = e }

  -- The same tests in the request's words.
  not_named : is_order s.order ≡ false → NamesEach s.order → ⊥
  not_named unnamed n = true≢false (sym (is_order_lem s.order n) ∙ unnamed)

  whole_when : length s.file % 48 ≡ 0 → WholeRecords s
  whole_when e = omega arith

  part_when : (length s.file % 48 ≡ 0 → ⊥) → WholeRecords s → ⊥
  part_when part w = part (omega (arith, w))

  short_when : too_short ≡ true → Room s → ⊥
  short_when short fits =
      true≢false (sym short ∙ ap₂ (λ (a b : Bool). a || b) (le-ltb (length s.out) (length s.file) fits.0) (le-ltb (length s.report) (number s) fits.1))

  -- the refusal of one case is not that of another
  differs : (m n : ℕ) → (m ≡ n → ⊥) → righted s ≡ nothing_written m s → righted s ≡ nothing_written n s → ⊥
  differs m n h p q = h (ap (λ (r : Righted). r.refusal) (sym p ∙ q))

  pub repair_where : ((righted s).refusal ≡ 0) ↔ (NamesEach s.order × WholeRecords s × Room s)
  repair_where = (to, from tested)
    where
      to : (righted s).refusal ≡ 0 → NamesEach s.order × WholeRecords s × Room s
      to z = let p = when_passed z in (names_each s.order p.order_fine, whole_when p.whole, rooms s.file s.out s.report p.fits)

      from : Tested → NamesEach s.order × WholeRecords s × Room s → (righted s).refusal ≡ 0
      from (at_20 unnamed e) h = absurd (not_named unnamed h.0)
      from (at_21 ok part e) h = absurd (part_when part h.1)
      from (at_22 ok whole short e) h = absurd (short_when short h.2)
      from (passed ok whole fits e) h = e

  zero_not : (n : ℕ) → (righted s).refusal ≡ 0 → righted s ≡ nothing_written (suc n) s → ⊥
  zero_not n z e = omega (arith, ap (λ (r : Righted). r.refusal) e, z)

  pub repair_20 : (righted s ≡ nothing_written 20 s) ↔ (NamesEach s.order → ⊥)
  repair_20 = (to tested, from tested)
    where
      to : Tested → righted s ≡ nothing_written 20 s → NamesEach s.order → ⊥
      to (at_20 unnamed e) q = not_named unnamed
      to (at_21 ok part e) q = absurd (differs 21 20 (λ x. omega arith) e q)
      to (at_22 ok whole short e) q = absurd (differs 22 20 (λ x. omega arith) e q)
      to (passed ok whole fits e) q = absurd (zero_not 19 e q)

      from : Tested → (NamesEach s.order → ⊥) → righted s ≡ nothing_written 20 s
      from (at_20 unnamed e) h = e
      from (at_21 ok part e) h = absurd (h (names_each s.order ok))
      from (at_22 ok whole short e) h = absurd (h (names_each s.order ok))
      from (passed ok whole fits e) h = absurd (h (names_each s.order ok))

  pub repair_21 : (righted s ≡ nothing_written 21 s) ↔ (NamesEach s.order × (WholeRecords s → ⊥))
  repair_21 = (to tested, from tested)
    where
      to : Tested → righted s ≡ nothing_written 21 s → NamesEach s.order × (WholeRecords s → ⊥)
      to (at_20 unnamed e) q = absurd (differs 20 21 (λ x. omega arith) e q)
      to (at_21 ok part e) q = (names_each s.order ok, part_when part)
      to (at_22 ok whole short e) q = absurd (differs 22 21 (λ x. omega arith) e q)
      to (passed ok whole fits e) q = absurd (zero_not 20 e q)

      from : Tested → NamesEach s.order × (WholeRecords s → ⊥) → righted s ≡ nothing_written 21 s
      from (at_20 unnamed e) h = absurd (not_named unnamed h.0)
      from (at_21 ok part e) h = e
      from (at_22 ok whole short e) h = absurd (h.1 (whole_when whole))
      from (passed ok whole fits e) h = absurd (h.1 (whole_when whole))

  pub repair_22 : (righted s ≡ nothing_written 22 s) ↔ (NamesEach s.order × WholeRecords s × (Room s → ⊥))
  repair_22 = (to tested, from tested)
    where
      to : Tested → righted s ≡ nothing_written 22 s → NamesEach s.order × WholeRecords s × (Room s → ⊥)
      to (at_20 unnamed e) q = absurd (differs 20 22 (λ x. omega arith) e q)
      to (at_21 ok part e) q = absurd (differs 21 22 (λ x. omega arith) e q)
      to (at_22 ok whole short e) q = (names_each s.order ok, whole_when whole, short_when short)
      to (passed ok whole fits e) q = absurd (zero_not 21 e q)

      from : Tested → NamesEach s.order × WholeRecords s × (Room s → ⊥) → righted s ≡ nothing_written 22 s
      from (at_20 unnamed e) h = absurd (not_named unnamed h.0)
      from (at_21 ok part e) h = absurd (part_when part h.1)
      from (at_22 ok whole short e) h = e
      from (passed ok whole fits e) h = absurd (h.2 (rooms s.file s.out s.report fits))
