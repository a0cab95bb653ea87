-- Some months added one after the other: what is left to add is added to what was added so far.
use mathlib.Core.Path.{◌≡◌, refl}
use mathlib.Core.List.{List}
use Prim.Native.Nat.{ℕ, suc, ◌+◌, ◌-◌, ◌*◌, ◌≤◌}
use native.Mathlib.Omega.{arith}
use lib.ListN.{length, drop}
use lib.Seq.{length-sets, drop-drop}
use Rattle.record.specs.Fields.{record_bytes}
use Rattle.carbon.specs.Carbon.{most_records}
use Rattle.year_slots.specs.Slots.{slot_size, slot_of, slot_at, slot_row, with_month, added_to}
use Rattle.year_slots.specs.Months.{month_added, MonthFits, months_added, MonthsFit}

-- A month more leaves the buffer as long as it is.
pub added_length : (totals : List ℕ) (n x0 figure bound : ℕ) → length (added_to totals n x0 figure bound) ≡ length totals
unfolding added_to
added_length totals n x0 figure bound =
    let k = slot_of n in length-sets totals (slot_size * k) (slot_row (with_month k (slot_at totals k) x0 figure bound))

pub record MidMonths (totals₀ : List ℕ) (n : ℕ) (out : List ℕ) (count : ℕ) (totals : List ℕ) (months at left : ℕ) : Type 0 where
  pub few : months + left ≤ most_records
  pub room : at + record_bytes * left ≤ length out
  pub fit : MonthsFit left totals months (drop at out)
  pub so_far : months_added left totals months (drop at out) ≡ months_added count totals₀ n out

module _ {totals₀ : List ℕ} {n : ℕ} {out : List ℕ} {count : ℕ} where
  pub months_start : (n + count ≤ most_records) × (record_bytes * count ≤ length out) → MonthsFit count totals₀ n out
      → MidMonths totals₀ n out count totals₀ (n + 0) (record_bytes * 0) (count - 0)
  months_start size fit =
      let same : n + 0 ≡ n = omega arith in
      let all : count - 0 ≡ count = omega arith in
      rw (same, all) (record { few = size.0; room = omega (arith, size.1); fit = fit; so_far = refl })

  pub months_on : {totals : List ℕ} {months at left : ℕ} → MidMonths totals₀ n out count totals months at left → (left' : ℕ) → left ≡ suc left'
      → MonthFits (slot_at totals (slot_of (months + 1))) (drop at out) × MidMonths totals₀ n out count (month_added totals months (drop at out)) (months + 1) (at + record_bytes) left'
  unfolding months_added MonthsFit
  months_on {totals} {months} {at} {left} h left' e = let fit = rw e at h.fit in (
    fit.0,
    record {
      few = omega (arith, h.few, e);
      room = omega (arith, h.room, e);
      fit = rw (← drop-drop record_bytes at out) fit.1;
      so_far = rw (← drop-drop record_bytes at out) (rw e at h.so_far);
    },
  )

  pub months_end : {totals : List ℕ} {months at : ℕ} → MidMonths totals₀ n out count totals months at 0 → totals ≡ months_added count totals₀ n out
  unfolding months_added
  months_end h = h.so_far
