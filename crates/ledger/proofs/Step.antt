-- One accepted record, place by place: the deposit goes into T and H, and H is parted into the new R and the release.
use mathlib.Core.Path.{◌≡◌}
use mathlib.Core.List.{List}
use Prim.Native.Nat.{ℕ, ◌+◌, ◌-◌, ◌<◌}
use native.Mathlib.Omega.{arith}
use lib.ListN.{get_or}
use Rattle.numbers.specs.Eight.{eight}
use Rattle.numbers.proofs.Eight.{eight_at, eight_same, sum_plus}
use Rattle.record.specs.Fields.{kind_of, climate_of, deposit_of}
use Rattle.carbon.specs.Carbon.{entry_at}
use Rattle.carbon.specs.Carbon.{left_of}
use Rattle.ledger.specs.Step.{brought_at, stock_at, released_at, new_brought, held, new_stock, release, new_released, x0_of, after}
use Rattle.carbon.proofs.Laws.{entry_small, left_most}
use Rattle.ledger.specs.Take.{accepted_of, total_released}
use Rattle.ledger.specs.declared.book.Ledger.{Ledger}

module _ (l : Ledger) (bytes : List ℕ) (t : ℕ) (place : t < 8) where
  pub brought_after : brought_at (after l bytes) t ≡ brought_at l t + deposit_of bytes t
  unfolding after new_brought
  brought_after = eight_at (new_brought l bytes) t place

  pub stock_after : stock_at (after l bytes) t ≡ left_of (stock_at l t + deposit_of bytes t) (entry_at (kind_of bytes) (climate_of bytes) t)
  unfolding after new_stock held
  stock_after = eight_at (new_stock l bytes) t place

  pub release_answered : get_or (accepted_of l bytes).releases t 0 ≡ release l bytes t
  unfolding accepted_of
  release_answered = eight_at (release l bytes) t place

  pub released_after : released_at (after l bytes) t ≡ released_at l t + release l bytes t
  unfolding after new_released
  released_after = eight_at (new_released l bytes) t place

  pub balanced : release l bytes t + stock_at (after l bytes) t ≡ stock_at l t + deposit_of bytes t
  unfolding release new_stock held
  balanced =
      omega (
        arith,
        stock_after,
        left_most (stock_at l t + deposit_of bytes t) (entry_at (kind_of bytes) (climate_of bytes) t) (entry_small (kind_of bytes) (climate_of bytes) t),
      )

-- What was released between the two ledgers is the releases.
pub released_between : (l : Ledger) (bytes : List ℕ) → eight (λ t. released_at (after l bytes) t - released_at l t) ≡ eight (release l bytes)
released_between l bytes =
    eight_same (λ t. released_at (after l bytes) t - released_at l t) (release l bytes) (λ t place. omega (arith, released_after l bytes t place))

-- What all types have released grows by x0.
pub released_grows : (l : Ledger) (bytes : List ℕ) → total_released (after l bytes) ≡ total_released l + x0_of l bytes
unfolding after new_released total_released x0_of
released_grows l bytes = sum_plus (released_at l) (release l bytes) 8
