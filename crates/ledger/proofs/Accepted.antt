-- What holds of a record that is not refused, looked up by the fault's number, and that the ledger after it is sound again.
use mathlib.Core.Path.{◌≡◌, refl}
use mathlib.Core.Bool.{true, false, ◌&&◌}
use mathlib.Core.List.{List}
use Prim.Native.Nat.{ℕ, ◌+◌, ◌≤◌, ◌<◌}
use native.Mathlib.Omega.{arith}
use borrow.Author.Tests.{not-false, eqb-true, eqb-false, ltb-false, lt-ltb, le-ltb}
use lib.Dec.{eqb}
use lib.ListN.{length}
use Rattle.numbers.specs.Eight.{every_of}
use Rattle.numbers.proofs.Eight.{both_true, all_true, every_at, eight_at}
use Rattle.numbers.proofs.Fault.{is_bad, clear}
use Rattle.waste.specs.Kind.{is_kind}
use Rattle.waste.specs.Waste.{carbon_of, is_climate, is_class}
use Rattle.record.specs.Fields.{record_bytes, period_of, kind_of, climate_of, class_of, factors_of}
use Rattle.record.specs.Ranges.{codes, coded, in_range, dry_in_range, light}
use Rattle.record.proofs.Laws.{deposit_within}
use Rattle.carbon.specs.Carbon.{most_records, most_brought, entry_at, ceiling_of}
use Rattle.carbon.proofs.Laws.{entry_small, left_most}
use Rattle.year_factors.specs.YearFactors.{no_year, shares, sound_year}
use Rattle.year_factors.proofs.Laws.{year_stays}
use Rattle.ledger.specs.Step.{fresh, stock_at, new_brought, held, new_stock, release, new_released, after}
use Rattle.refusal.specs.Refusal.{continues, faults_of}
use Rattle.ledger.specs.Refusal.{sound, all_zero, empty_at, refusal_of}
use Rattle.ledger.specs.Take.{accepted_of}
use Rattle.ledger.specs.declared.book.Ledger.{Ledger}
use Rattle.ledger.proofs.Sound.{Sound, sound_is, sound_by_parts}

module _ (l : Ledger) (bytes : List ℕ) (room : ℕ) (e : refusal_of l bytes room ≡ 0) where
  -- The fault with a number is not there.
  abbrev pub Clear : ℕ → Type 0
  Clear k = is_bad k (faults_of (sound l) l.n l.kind l.climate l.year bytes room) ≡ false

  none : (k : ℕ) → Clear k
  unfolding refusal_of faults_of
  none k = clear k (faults_of (sound l) l.n l.kind l.climate l.year bytes room) refl e

  pub was_sound : sound l ≡ true
  unfolding faults_of
  was_sound = not-false (sound l) (none 3)

  pub has_room : record_bytes ≤ room
  unfolding faults_of
  has_room = ltb-false room record_bytes (none 2)

-- What an accepted record is known to meet.
module _ (l : Ledger) (bytes : List ℕ) where
  pub record Accepted : Type 0 where
    pub size : length bytes ≡ record_bytes
    pub ledger : Sound l
    pub more : l.n < most_records
    pub kind : is_kind (kind_of bytes) ≡ true
    pub climate : is_climate (climate_of bytes) ≡ true
    pub class : is_class (class_of bytes) ≡ true
    pub period : period_of bytes ≡ l.n + 1
    pub same : (l.n ≡ 0 → ⊥) → (kind_of bytes ≡ l.kind) × (climate_of bytes ≡ l.climate)
    pub ranges : in_range (factors_of bytes) ≡ true
    pub dry : dry_in_range bytes ≡ true
    pub shared : shares l.n l.year bytes ≡ true
    pub light_each : (t : ℕ) → t < 8 → light bytes t ≡ true

  pub accepted_meets : (room : ℕ) → refusal_of l bytes room ≡ 0 → Accepted
  unfolding faults_of coded continues
  accepted_meets room e =
      let full = eqb-false l.n most_records (none l bytes room e 4) in
      let s = sound_is l (was_sound l bytes room e) in
      let ranged = both_true (in_range (factors_of bytes)) (dry_in_range bytes) (not-false (in_range (factors_of bytes) && dry_in_range bytes) (none l bytes room e 8)) in
      let code = all_true (codes bytes) (not-false (coded bytes) (none l bytes room e 5)) in
      record {
        size = eqb-true (length bytes) record_bytes (not-false (eqb (length bytes) record_bytes) (none l bytes room e 1));
        ledger = s;
        more = omega (arith, full, s.few);
        kind = code.0;
        climate = code.1.0;
        class = code.1.1.0;
        period = eqb-true (period_of bytes) (l.n + 1) (not-false (eqb (period_of bytes) (l.n + 1)) (none l bytes room e 6));
        same = λ some.
            let both : continues l.kind l.climate bytes ≡ true
            = not-false (continues l.kind l.climate bytes) (simp (lt-ltb 0 l.n (omega (arith, some))) at (none l bytes room e 7)) in
            let q = both_true (eqb (kind_of bytes) l.kind) (eqb (climate_of bytes) l.climate) both in
            (eqb-true (kind_of bytes) l.kind q.0, eqb-true (climate_of bytes) l.climate q.1);
        ranges = ranged.0;
        dry = ranged.1;
        shared = not-false (shares l.n l.year bytes) (none l bytes room e 17);
        light_each = λ t h. every_at (light bytes) 8 t h (not-false (every_of (light bytes) 8) (none l bytes room e 9));
      }

-- Room for an output record is all the room that matters.
pub room_alike : (l : Ledger) (bytes : List ℕ) (room more : ℕ) → record_bytes ≤ room → record_bytes ≤ more → refusal_of l bytes room ≡ refusal_of l bytes more
unfolding refusal_of faults_of
room_alike l bytes room more h k = simp (le-ltb room record_bytes h, le-ltb more record_bytes k)

module _ (l : Ledger) (bytes : List ℕ) (a : Accepted l bytes) (t : ℕ) (h : t < 8) where
  pub new_within : new_brought l bytes t ≤ ceiling_of (l.n + 1) t
  unfolding new_brought ceiling_of
  new_within = omega (arith, deposit_within bytes t (a.light_each t h) a.dry, (a.ledger.at t h).ceiling)

  pub held_most : held l bytes t ≤ new_brought l bytes t
  unfolding held new_brought
  held_most = omega (arith, (a.ledger.at t h).kept)

  pub release_most : release l bytes t ≤ new_brought l bytes t
  unfolding release
  release_most = omega (arith, held_most)

  pub new_parted : new_released l bytes t + new_stock l bytes t ≡ new_brought l bytes t
  unfolding new_released release new_stock held new_brought
  new_parted =
      let D = entry_at (kind_of bytes) (climate_of bytes) t in
      omega (arith, (a.ledger.at t h).parted, left_most (held l bytes t) D (entry_small (kind_of bytes) (climate_of bytes) t))

-- Inert waste, type 6, has a ceiling of 0, and so T, H, R and G of 0.
pub record NoneAt (l : Ledger) (bytes : List ℕ) (t : ℕ) : Type 0 where
  pub T : new_brought l bytes t ≡ 0
  pub H : held l bytes t ≡ 0
  pub R : new_stock l bytes t ≡ 0
  pub G : release l bytes t ≡ 0

pub no_carbon : (l : Ledger) (bytes : List ℕ) → Accepted l bytes → NoneAt l bytes 5
unfolding ceiling_of carbon_of
no_carbon l bytes a =
    let T : new_brought l bytes 5 ≡ 0 = omega (arith, new_within l bytes a 5 (omega arith)) in
    record { T = T; H = omega (arith, held_most l bytes a 5 (omega arith)); R = omega (arith, new_parted l bytes a 5 (omega arith)); G = omega (arith, release_most l bytes a 5 (omega arith)) }

-- A sound ledger that takes a record is sound again.
pub stays_sound : (l : Ledger) (bytes : List ℕ) → Accepted l bytes → sound (after l bytes) ≡ true
unfolding after
stays_sound l bytes a =
    sound_by_parts (after l bytes) (omega (arith, a.more)) (λ z. omega arith) (simp (a.kind, a.climate))
    (year_stays l.n l.year bytes l.kind a.ledger.year (λ some. (a.same some).0) a.ranges a.class)
    (λ t h. rw (eight_at (new_brought l bytes) t h, eight_at (new_stock l bytes) t h, eight_at (new_released l bytes) t h) (new_within l bytes a t h, new_parted l bytes a t h))

-- A fresh ledger is sound.
pub fresh_sound : sound fresh ≡ true
unfolding fresh sound all_zero empty_at sound_year no_year
fresh_sound = refl

-- Nothing is left in it of any type.
pub fresh_stock : (t : ℕ) → t < 8 → stock_at fresh t ≡ 0
unfolding fresh
fresh_stock t h = eight_at (λ t. 0) t h

-- The ledger of an accepted answer is sound.
pub accepted_sound : (l : Ledger) (bytes : List ℕ) → Accepted l bytes → sound (accepted_of l bytes).ledger ≡ true
unfolding accepted_of
accepted_sound l bytes a = stays_sound l bytes a

-- So T, R and G of every type are small after an accepted record.
pub record Small (l : Ledger) (bytes : List ℕ) (t : ℕ) : Type 0 where
  pub T : new_brought l bytes t ≤ most_brought
  pub R : new_stock l bytes t ≤ most_brought
  pub G : release l bytes t ≤ most_brought

pub new_small : (l : Ledger) (bytes : List ℕ) → Accepted l bytes → (t : ℕ) → t < 8 → Small l bytes t
unfolding after
new_small l bytes a t h =
    let T : new_brought l bytes t ≤ most_brought = rw (eight_at (new_brought l bytes) t h) at ((sound_is (after l bytes) (stays_sound l bytes a)).at t h).small in
    record { T = T; R = omega (arith, new_parted l bytes a t h); G = omega (arith, release_most l bytes a t h) }
