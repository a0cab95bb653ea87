-- A slot is its 32 bytes: what was written there is read back, and a blank one has five zeros.
use mathlib.Core.Path.{◌≡◌, refl, sym, ap, ◌∙◌}
use mathlib.Core.Bool.{Bool, true, false, cond, not, ◌&&◌, ◌||◌}
use mathlib.Core.List.{List, ◌++◌, append_assoc}
use Prim.Native.Nat.{ℕ, zero, suc, ◌+◌, ◌-◌, ◌*◌, ◌/◌, ◌%◌, ◌^◌, ◌≤◌, ◌<◌}
use native.Mathlib.Nat.{add-zero}
use native.Mathlib.Decide.{dec_le}
use native.Mathlib.Omega.{arith}
use borrow.Author.Tests.{eq-eqb, ne_eqb, eqb-true, le-ltb, ltb-false, not-false}
use lib.Dec.{eqb, ltb}
use lib.ListN.{length, take, drop, get_or}
use lib.Seq.{sets, sets-eq, get_or-take, drop_at, take_at, length-take-le}
use Rattle.numbers.specs.Bytes.{number_at}
use Rattle.numbers.proofs.Bytes.{sets_join, read_back, number_drop, number_same}
use Rattle.numbers.proofs.Eight.{both_true, either_false, every_at, every_each}
use Rattle.year_slots.specs.Slots.{slot_size, slot_at, slot_row, sum_limit, any_above, is_blank, differs}
use Rattle.year_slots.specs.declared.Slot.{Slot}

-- A run of bytes after k others.
pub then : (at k : ℕ) (l xs ys : List ℕ) {m r : List ℕ} → length xs ≡ k → m ≡ sets l at xs → r ≡ sets m (at + k) ys → r ≡ sets l at (xs ++ ys)
then at k l xs ys n p q = q ∙ rw (p, ← n) (sets_join xs ys l at)

pub row_length : (s : Slot) → length (slot_row s) ≡ slot_size
unfolding slot_row
row_length s = refl

-- A slot whose numbers fit their bytes.
pub record SmallSlot (s : Slot) : Type 0 where
  pub year : s.year < 256 ^ 4
  pub months : s.months < 256 ^ 4
  pub x0 : s.x0 < 256 ^ 8
  pub figure : s.figure < 256 ^ 8
  pub bound : s.bound < 256 ^ 8

-- The bytes of slot k.
abbrev pub part : (totals : List ℕ) (k : ℕ) → List ℕ
part totals k = take slot_size (drop (slot_size * k) totals)

slot_of : (s : Slot) {year months x0 figure bound : ℕ} → year ≡ s.year → months ≡ s.months → x0 ≡ s.x0 → figure ≡ s.figure → bound ≡ s.bound
    → ◌≡◌ {A = Slot} (record { year = year; months = months; x0 = x0; figure = figure; bound = bound }) s
slot_of s y m x f b = rw (y, m, x, f, b)

module _ (totals : List ℕ) (k : ℕ) where
  field : (j o : ℕ) → o + j ≤ slot_size → number_at j totals (slot_size * k + o) ≡ number_at j (part totals k) o
  field j o h =
      number_drop j (slot_size * k) o totals
      ∙ number_same j (drop (slot_size * k) totals) (part totals k) o o (λ i l. sym (get_or-take slot_size (drop (slot_size * k) totals) (o + i) 0 (omega arith)))

  -- Where the bytes of a slot are, the slot is read.
  pub slot_read : (s : Slot) → SmallSlot s → part totals k ≡ slot_row s → slot_at totals k ≡ s
  unfolding slot_at slot_row
  slot_read s b e =
      let own : (j o : ℕ) → o + j ≤ slot_size → number_at j totals (slot_size * k + o) ≡ number_at j (slot_row s) o
      = λ j o h. field j o h ∙ ap (λ (row : List ℕ). number_at j row o) e in
      slot_of s (rw (add-zero (slot_size * k)) at (own 4 0 (omega arith) ∙ read_back 4 s.year b.year))
      (own 4 4 (omega arith) ∙ read_back 4 s.months b.months) (own 8 8 (omega arith) ∙ read_back 8 s.x0 b.x0)
      (own 8 16 (omega arith) ∙ read_back 8 s.figure b.figure) (own 8 24 (omega arith) ∙ read_back 8 s.bound b.bound)

-- So it is read where it was written.
pub slot_written : (totals : List ℕ) (k : ℕ) (s : Slot) → SmallSlot s → slot_size * k + slot_size ≤ length totals → slot_at (sets totals (slot_size * k) (slot_row s)) k ≡ s
slot_written totals k s b room =
    let at = slot_size * k in
    let row = slot_row s in
    let rest = drop (at + length row) totals in
    let there : sets totals at row ≡ take at totals ++ (row ++ rest)
    = sets-eq row totals at (rw (row_length s) room) ∙ append_assoc (take at totals) row rest in
    slot_read (sets totals at row) k s b
    (rw there (ap (take slot_size) (drop_at (take at totals) (row ++ rest) at (length-take-le at totals (omega arith))) ∙ take_at row rest slot_size (row_length s)))

-- A number is 0 where all of its bytes are, and only there.
zero_bytes : (j : ℕ) (bytes : List ℕ) (at : ℕ) → ((i : ℕ) → i < j → get_or bytes (at + i) 0 ≡ 0) → number_at j bytes at ≡ 0
zero_bytes zero bytes at h = refl
zero_bytes (suc j) bytes at h =
    let first : get_or bytes at 0 ≡ 0 = rw (add-zero at) at (h 0 (omega arith)) in
    let next : (i : ℕ) → at + suc i ≡ at + 1 + i = λ i. omega arith in
    omega (arith, first, zero_bytes j bytes (at + 1) (λ i l. rw (next i) at (h (suc i) (omega arith))))

byte_zero : (j : ℕ) (bytes : List ℕ) (at : ℕ) → number_at j bytes at ≡ 0 → (i : ℕ) → i < j → get_or bytes (at + i) 0 ≡ 0
byte_zero zero bytes at e i l = absurd (omega arith)
byte_zero (suc j) bytes at e zero l = rw (add-zero at) (omega arith)
byte_zero (suc j) bytes at e (suc i) l =
    let next : at + suc i ≡ at + 1 + i = omega arith in
    rw next (byte_zero j bytes (at + 1) (omega arith) i (omega arith))

-- Two tests that give each other are one.
same_test : (a b : Bool) → (a ≡ true → b ≡ true) → (b ≡ true → a ≡ true) → a ≡ b
same_test true b to from = sym (to refl)
same_test false true to from = from refl
same_test false false to from = refl

-- A slot is blank where its five numbers are 0.
module _ (totals : List ℕ) (k : ℕ) where
  abbrev at : ℕ
  at = slot_size * k

  -- the bytes of a number of j bytes, o bytes on
  its_bytes : is_blank totals k ≡ true → (j o : ℕ) → o + j ≤ slot_size → number_at j totals (at + o) ≡ 0
  unfolding is_blank
  its_bytes e j o h =
      zero_bytes j totals (at + o)
      (λ i l. let place : at + o + i ≡ at + (o + i) = omega arith in
      rw place (eqb-true (get_or totals (at + (o + i)) 0) 0 (every_at (λ i. eqb (get_or totals (at + i) 0) 0) slot_size (o + i) (omega arith) e)))

  pub blank_zeros : is_blank totals k ≡ true
      → let s = slot_at totals k in (s.year ≡ 0) × (s.months ≡ 0) × (s.x0 ≡ 0) × (s.figure ≡ 0) × (s.bound ≡ 0)
  unfolding slot_at
  blank_zeros e = (
    rw (add-zero at) at (its_bytes e 4 0 (omega arith)),
    its_bytes e 4 4 (omega arith),
    its_bytes e 8 8 (omega arith),
    its_bytes e 8 16 (omega arith),
    its_bytes e 8 24 (omega arith),
  )

  byte_of : (j o i : ℕ) → number_at j totals (at + o) ≡ 0 → o ≤ i → i < o + j → eqb (get_or totals (at + i) 0) 0 ≡ true
  byte_of j o i e low high =
      let place : at + o + (i - o) ≡ at + i = omega arith in
      eq-eqb (get_or totals (at + i) 0) 0 (rw place at (byte_zero j totals (at + o) e (i - o) (omega arith)))

  pub zeros_blank : let s = slot_at totals k in s.year ≡ 0 → s.months ≡ 0 → s.x0 ≡ 0 → s.figure ≡ 0 → s.bound ≡ 0 → is_blank totals k ≡ true
  unfolding slot_at is_blank
  zeros_blank y m x f b =
      every_each (λ i. eqb (get_or totals (at + i) 0) 0) slot_size
      (λ i l. elim (dec_le (suc i) 4) [
        | yes p ↦ byte_of 4 0 i (rw (add-zero at) y) (omega arith) (omega arith)
        | no p ↦ elim (dec_le (suc i) 8) [
          | yes q ↦ byte_of 4 4 i m (omega arith) (omega arith)
          | no q ↦ elim (dec_le (suc i) 16) [
            | yes r ↦ byte_of 8 8 i x (omega arith) (omega arith)
            | no r ↦ elim (dec_le (suc i) 24) [
              | yes t ↦ byte_of 8 16 i f (omega arith) (omega arith)
              | no t ↦ byte_of 8 24 i b (omega arith) (omega arith)
            ]
          ]
        ]
      ])

  -- so all of its bytes are tested by its numbers
  pub blank_is : let s = slot_at totals k in is_blank totals k ≡ (eqb s.year 0 && (eqb s.months 0 && (eqb s.x0 0 && (eqb s.figure 0 && eqb s.bound 0))))
  blank_is =
      let s = slot_at totals k in
      same_test (is_blank totals k) (eqb s.year 0 && (eqb s.months 0 && (eqb s.x0 0 && (eqb s.figure 0 && eqb s.bound 0))))
      (λ e. let z = blank_zeros e in simp (z.0, z.1, z.2, z.3, z.4))
      (λ e.
      let p = both_true (eqb s.year 0) (eqb s.months 0 && (eqb s.x0 0 && (eqb s.figure 0 && eqb s.bound 0))) e in
      let q = both_true (eqb s.months 0) (eqb s.x0 0 && (eqb s.figure 0 && eqb s.bound 0)) p.1 in
      let r = both_true (eqb s.x0 0) (eqb s.figure 0 && eqb s.bound 0) q.1 in
      let t = both_true (eqb s.figure 0) (eqb s.bound 0) r.1 in
      zeros_blank (eqb-true s.year 0 p.0) (eqb-true s.months 0 q.0) (eqb-true s.x0 0 r.0) (eqb-true s.figure 0 t.0) (eqb-true s.bound 0 t.1))

-- Refusal 32 of the month after n, by the numbers of its slot.
module _ (totals : List ℕ) (n : ℕ) where
  abbrev s : Slot
  s = slot_at totals (n / 12)

  abbrev pub counts : Bool
  counts = not (eqb s.months (n % 12)) || any_above s

  by_slot : differs totals (n + 1) ≡ (counts || cond (eqb s.months 0) (not (is_blank totals (n / 12))) (not (eqb s.year (n / 12 + 1))))
  unfolding differs
  by_slot = let e : n + 1 - 1 ≡ n = omega arith in rw e

  pub differs_counts : counts ≡ true → differs totals (n + 1) ≡ true
  differs_counts e = by_slot ∙ rw e

  pub differs_none : counts ≡ false → s.months ≡ 0 → differs totals (n + 1) ≡ not (is_blank totals (n / 12))
  differs_none e z = by_slot ∙ rw (e, z)

  pub differs_some : counts ≡ false → (s.months ≡ 0 → ⊥) → differs totals (n + 1) ≡ not (eqb s.year (n / 12 + 1))
  differs_some e some = by_slot ∙ simp (e, ne_eqb s.months 0 some)

  -- Where it does not refuse, the months and the sums of the slot are known; ...
  pub record Agrees : Type 0 where
    pub months : s.months ≡ n % 12
    pub x0 : s.x0 ≤ sum_limit
    pub figure : s.figure ≤ sum_limit
    pub bound : s.bound ≤ sum_limit

  pub agreed : differs totals (n + 1) ≡ false → Agrees
  unfolding any_above
  agreed e =
      let p = either_false counts (cond (eqb s.months 0) (not (is_blank totals (n / 12))) (not (eqb s.year (n / 12 + 1)))) (sym by_slot ∙ e) in
      let q = either_false (not (eqb s.months (n % 12))) (any_above s) p.0 in
      let r = either_false (ltb sum_limit s.x0 || ltb sum_limit s.figure) (ltb sum_limit s.bound) q.1 in
      let t = either_false (ltb sum_limit s.x0) (ltb sum_limit s.figure) r.0 in
      record {
        months = eqb-true s.months (n % 12) (not-false (eqb s.months (n % 12)) q.0);
        x0 = ltb-false sum_limit s.x0 t.0;
        figure = ltb-false sum_limit s.figure t.1;
        bound = ltb-false sum_limit s.bound r.1;
      }

  -- ... and after some months of the year, that is all that it takes with the year's number,
  pub counts_well : Agrees → counts ≡ false
  unfolding any_above
  counts_well a =
      simp (eq-eqb s.months (n % 12) a.months, le-ltb sum_limit s.x0 a.x0, le-ltb sum_limit s.figure a.figure, le-ltb sum_limit s.bound a.bound)

  pub agrees : Agrees → (n % 12 ≡ 0 → ⊥) → s.year ≡ n / 12 + 1 → differs totals (n + 1) ≡ false
  agrees a some year = differs_some (counts_well a) (λ z. some (sym a.months ∙ z)) ∙ simp (eq-eqb s.year (n / 12 + 1) year)

  -- and at the beginning of a year with five zeros.
  pub agrees_blank : n % 12 ≡ 0 → is_blank totals (n / 12) ≡ true → differs totals (n + 1) ≡ false
  agrees_blank first e =
      let z = blank_zeros totals (n / 12) e in
      differs_none
      (counts_well (record { months = z.1 ∙ sym first; x0 = omega (arith, z.2); figure = omega (arith, z.3); bound = omega (arith, z.4) })) z.1
      ∙ simp e
