-- Document 02, request c, 'Months of one year share the year's factors'. proofs/Proved.antt proves `MonthsPromise`.
use Rattle.std.specs.Prelude.{◌≡◌, List, ℕ, ◌≤◌, ◌<◌}
use Rattle.waste.specs.Waste.{mass_limit}
use Rattle.record.specs.Fields.{kind_of, mass_of}
use Rattle.ledger.specs.Refusal.{NoneAhead}
use Rattle.ledger.specs.Take.{take_of}
use Rattle.ledger.specs.declared.book.Ledger.{Ledger}
use Rattle.run.specs.History.{Offer}
use Rattle.promise_three.specs.Offering.{offering}
use Rattle.promise_months.specs.Months.{MonthsShare, NotTheYears}

pub record MonthsPromise : Type 0 where
  -- Document 02, request c: what is accepted of any offers shares the year's factors;
  pub months_share : (offers : List Offer) → MonthsShare (offering offers)
  -- 17 refuses nothing but a record that is not as its year has it, and so never a yearly one.
  pub only_17 : (l : Ledger) (bytes : List ℕ) (room : ℕ) → (take_of l bytes room).refusal ≡ 17 → NotTheYears l bytes
  pub yearly_not_17 : (l : Ledger) (bytes : List ℕ) (room : ℕ) → kind_of bytes ≡ 1 → (take_of l bytes room).refusal ≡ 17 → ⊥
  -- '17, after 8 and before 9': where none of 1 to 8 is there, it refuses every such record, whatever its masses, and any other is
  -- accepted if its masses are within their limit.
  pub always_17 : (l : Ledger) (bytes : List ℕ) (room : ℕ) → NoneAhead 17 l bytes room → NotTheYears l bytes → (take_of l bytes room).refusal ≡ 17
  pub year_kept : (l : Ledger) (bytes : List ℕ) (room : ℕ) → NoneAhead 17 l bytes room → (NotTheYears l bytes → ⊥)
      → ((t : ℕ) → t < 8 → mass_of bytes t ≤ mass_limit) → (take_of l bytes room).refusal ≡ 0
