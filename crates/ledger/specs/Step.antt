-- Document 01, 'One step': one type in one period, once over the kind; and document 02, request b: what each type has released so
-- far, request c: what is remembered of the year, and request h: the decay work. Place t has type t + 1; all carbon is in whole milligrams.
use Rattle.std.specs.Prelude.{List, ℕ, ◌+◌, ◌-◌, ltb, get_or}
use Rattle.numbers.specs.Eight.{eight, one, sum_of}
use Rattle.record.specs.Fields.{kind_of, climate_of, deposit_of}
use Rattle.carbon.specs.Carbon.{entry_at, left_of}
use Rattle.year_factors.specs.YearFactors.{no_year, remembered}
use Rattle.ledger.specs.declared.book.Ledger.{Ledger}
use Rattle.ledger.specs.declared.period.Decayed.{Decayed}
use Rattle.ledger.specs.declared.period.Period.{Period}

-- A fresh ledger is all zero.
unfoldable pub fresh : Ledger
fresh =
    record { n = 0; kind = 0; climate = 0; year = no_year; brought = eight (λ t. 0); stock = eight (λ t. 0); released = eight (λ t. 0) }

-- T, the carbon brought in, R, the carbon left, and the carbon released so far.
abbrev pub brought_at : Ledger → ℕ → ℕ
brought_at l t = get_or l.brought t 0

abbrev pub stock_at : Ledger → ℕ → ℕ
stock_at l t = get_or l.stock t 0

abbrev pub released_at : Ledger → ℕ → ℕ
released_at l t = get_or l.released t 0

-- What an accepted record makes of the ledger l at place t:
module _ (l : Ledger) (bytes : List ℕ) (t : ℕ) where
  -- the deposit is added to T;
  unfoldable pub new_brought : ℕ
  new_brought = brought_at l t + deposit_of bytes t

  -- H = R + deposit: new waste decays in its own period;
  unfoldable pub held : ℕ
  held = stock_at l t + deposit_of bytes t

  unfoldable pub new_stock : ℕ
  new_stock = left_of held (entry_at (kind_of bytes) (climate_of bytes) t)

  -- release G = H − the new R.
  unfoldable pub release : ℕ
  release = held - new_stock

  -- released so far is 'updated by every accepted record': it grows by the release.
  unfoldable pub new_released : ℕ
  new_released = released_at l t + release

  -- decay work: 'one for every .. type whose stock with deposit is above zero before decay, none for the others'.
  unfoldable pub work : ℕ
  work = one (ltb 0 held)

-- What place t then has.
unfoldable pub decayed_at : Ledger → List ℕ → (t : ℕ) → Decayed
decayed_at l bytes t =
    record { brought = new_brought l bytes t; stock = new_stock l bytes t; release = release l bytes t; work = work l bytes t }

-- x0 = the eight releases added.
unfoldable pub x0_of : Ledger → List ℕ → ℕ
x0_of l bytes = sum_of (release l bytes) 8

-- The decay work of a record, over the eight types.
unfoldable pub work_of : Ledger → List ℕ → ℕ
work_of l bytes = sum_of (work l bytes) 8

-- What all of them have.
unfoldable pub period_of_all : Ledger → List ℕ → Period
period_of_all l bytes =
    record { brought = eight (new_brought l bytes); stock = eight (new_stock l bytes); x0 = x0_of l bytes; work = work_of l bytes }

-- n grows by one, kind and climate become the record's.
unfoldable pub after : Ledger → List ℕ → Ledger
after l bytes =
    record {
      n = l.n + 1;
      kind = kind_of bytes;
      climate = climate_of bytes;
      year = remembered l.n l.year bytes;
      brought = eight (new_brought l bytes);
      stock = eight (new_stock l bytes);
      released = eight (new_released l bytes);
    }
