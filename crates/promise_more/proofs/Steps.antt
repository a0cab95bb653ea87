-- One record on each of two ledgers at the same place, where the second holds no less and its record brings no less: every number that the
-- step answers grows with what is held, and so does every number of the ledger after it.
use mathlib.Core.Path.{◌≡◌}
use mathlib.Core.List.{List}
use Prim.Native.Nat.{ℕ, ◌+◌, ◌≤◌, ◌<◌}
use native.Mathlib.Nat.{le_refl}
use native.Mathlib.Omega.{arith}
use lib.Dec.{lit<}
use Rattle.numbers.proofs.Eight.{sum_at_most}
use Rattle.record.specs.Fields.{kind_of, climate_of, factors_of, deposit_of}
use Rattle.record.proofs.Front.{same_factors}
use Rattle.record.proofs.Laws.{deposit_grows}
use Rattle.carbon.specs.Carbon.{entry_at}
use Rattle.carbon.proofs.Laws.{entry_small, left_grows, release_grows}
use Rattle.figure.specs.Figure.{b_of}
use Rattle.figure.proofs.Grows.{figure_grows, bound_grows, b_grows}
use Rattle.ledger.specs.Step.{fresh, brought_at, stock_at, released_at, held, new_stock, release, x0_of, after}
use Rattle.ledger.specs.Take.{accepted_of, total_stock, total_brought}
use Rattle.ledger.specs.declared.book.Ledger.{Ledger}
use Rattle.ledger.proofs.Step.{brought_after, stock_after, release_answered, released_after}
use Rattle.promise_more.specs.More.{MoreWaste, NoLess}
use Rattle.promise_more.proofs.Records.{front, dry, SamePlace, place_after}

-- The second ledger holds no less of any type.
pub record HoldsMore (l l' : Ledger) : Type 0 where
  pub brought : (t : ℕ) → t < 8 → brought_at l t ≤ brought_at l' t
  pub stock : (t : ℕ) → t < 8 → stock_at l t ≤ stock_at l' t
  pub released : (t : ℕ) → t < 8 → released_at l t ≤ released_at l' t

pub fresh_holds : HoldsMore fresh fresh
fresh_holds = record { brought = λ t place. le_refl _; stock = λ t place. le_refl _; released = λ t place. le_refl _ }

module _ (l l' : Ledger) (s : SamePlace l l') (h : HoldsMore l l') (one other : List ℕ) (m : MoreWaste one other) where
  deposits : (t : ℕ) → t < 8 → deposit_of one t ≤ deposit_of other t
  deposits t place = deposit_grows one other t (dry one other m.equal (t + 1)) (m.more t place)

  same_entry : (t : ℕ) → entry_at (kind_of one) (climate_of one) t ≡ entry_at (kind_of other) (climate_of other) t
  same_entry t = rw (front one other m.equal 2 (lit< tt), front one other m.equal 3 (lit< tt))

  held_more : (t : ℕ) → t < 8 → stock_at l t + deposit_of one t ≤ stock_at l' t + deposit_of other t
  held_more t place = omega (arith, h.stock t place, deposits t place)

  releases_more : (t : ℕ) → t < 8 → release l one t ≤ release l' other t
  unfolding release new_stock held
  releases_more t place =
      rw (same_entry t) (release_grows _ _ (entry_at (kind_of other) (climate_of other) t) (entry_small (kind_of other) (climate_of other) t) (held_more t place))

  pub more_after : HoldsMore (after l one) (after l' other)
  more_after =
      record {
        brought = λ t place. omega (arith, brought_after l one t place, brought_after l' other t place, h.brought t place, deposits t place);
        stock = λ t place.
            rw (stock_after l one t place, stock_after l' other t place, same_entry t) (left_grows _ _ (entry_at (kind_of other) (climate_of other) t) (held_more t place));
        released = λ t place.
            omega (arith, released_after l one t place, released_after l' other t place, h.released t place, releases_more t place);
      }

  x0_more : x0_of l one ≤ x0_of l' other
  unfolding x0_of
  x0_more = sum_at_most (release l one) (release l' other) 8 releases_more

  b_more : b_of (after l one).n (brought_at (after l one)) ≤ b_of (after l' other).n (brought_at (after l' other))
  b_more = rw (place_after l l' s one other m.equal).n (b_grows (after l' other).n (brought_at (after l one)) (brought_at (after l' other)) more_after.brought)

  pub no_less : NoLess (accepted_of l one) (accepted_of l' other)
  unfolding accepted_of total_stock total_brought
  no_less =
      let same = same_factors one other (front one other m.equal) in
      record {
        releases = λ t place. rw (release_answered l one t place, release_answered l' other t place) (releases_more t place);
        stocks = more_after.stock;
        figure = rw same (figure_grows (factors_of other) (x0_of l one) (x0_of l' other) x0_more);
        bound = rw same (bound_grows (factors_of other) _ _ b_more);
        brought = more_after.brought;
        released = more_after.released;
        x0 = x0_more;
        total_stock_lem = sum_at_most (stock_at (after l one)) (stock_at (after l' other)) 8 more_after.stock;
        total_brought_lem = sum_at_most (brought_at (after l one)) (brought_at (after l' other)) 8 more_after.brought;
      }
