-- Document 02, request l: 'a buffer of 100 slots of 32 bytes', what a month makes of its slot, and refusal 32.
use Rattle.std.specs.Prelude.{Bool, cond, not, ◌||◌, List, ◌++◌, ℕ, ◌+◌, ◌-◌, ◌*◌, ◌/◌, ◌%◌, ◌^◌, eqb, ltb, get_or}
use Rattle.std.proofs.lemmas.List.Edits.{sets}
use Rattle.numbers.specs.Bytes.{number_at, bytes_of}
use Rattle.numbers.specs.Eight.{every_of}
use Rattle.year_slots.specs.declared.Slot.{Slot}

abbrev pub slot_size : ℕ
slot_size = 32

abbrev pub slot_count : ℕ
slot_count = 100

abbrev pub totals_bytes : ℕ
totals_bytes = 3200

-- 'year number 1 to 100, months counted, both in 4 bytes, then x0, figure and bound added in 8 bytes each': slot k of a buffer,
unfoldable pub slot_at : (totals : List ℕ) (k : ℕ) → Slot
slot_at totals k =
    record {
      year = number_at 4 totals (slot_size * k);
      months = number_at 4 totals (slot_size * k + 4);
      x0 = number_at 8 totals (slot_size * k + 8);
      figure = number_at 8 totals (slot_size * k + 16);
      bound = number_at 8 totals (slot_size * k + 24);
    }

-- and the bytes of a slot.
unfoldable pub slot_row : Slot → List ℕ
slot_row s = bytes_of 4 s.year ++ bytes_of 4 s.months ++ bytes_of 8 s.x0 ++ bytes_of 8 s.figure ++ bytes_of 8 s.bound

-- 'slot (n − 1) / 12 rounded down, counted from 0': that of period n.
abbrev pub slot_of : (n : ℕ) → ℕ
slot_of n = (n - 1) / 12

-- 'Each accepted monthly record of period n updates its slot only': the year's number, one month more, and its x0, figure and bound added.
unfoldable pub with_month : (k : ℕ) → Slot → (x0 figure bound : ℕ) → Slot
with_month k s x0 figure bound =
    record { year = k + 1; months = s.months + 1; x0 = s.x0 + x0; figure = s.figure + figure; bound = s.bound + bound }

unfoldable pub added_to : (totals : List ℕ) (n x0 figure bound : ℕ) → List ℕ
added_to totals n x0 figure bound =
    let k = slot_of n in sets totals (slot_size * k) (slot_row (with_month k (slot_at totals k) x0 figure bound))

-- 'a sum stored there is above 10^19'
abbrev pub sum_limit : ℕ
sum_limit = 10 ^ 19

unfoldable pub any_above : Slot → Bool
any_above s = ltb sum_limit s.x0 || ltb sum_limit s.figure || ltb sum_limit s.bound

-- Every byte of slot k is 0.
unfoldable pub is_blank : (totals : List ℕ) (k : ℕ) → Bool
is_blank totals k = every_of (λ i. eqb (get_or totals (slot_size * k + i) 0) 0) slot_size

-- '32 .. where the slot's months are not the remainder of n − 1 by 12, a sum stored there is above 10^19, with months above 0 its year is
-- not its slot plus 1, or with 0 months any byte of it is not 0'
unfoldable pub differs : (totals : List ℕ) (n : ℕ) → Bool
differs totals n =
    let k = slot_of n in
    let s = slot_at totals k in
    not (eqb s.months ((n - 1) % 12)) || any_above s || cond (eqb s.months 0) (not (is_blank totals k)) (not (eqb s.year (k + 1)))
