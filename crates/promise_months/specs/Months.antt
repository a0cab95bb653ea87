-- Document 02, request c, 'Months of one year share the year's factors'. Records are counted from 1.
use Rattle.std.specs.Prelude.{◌≡◌, List, ℕ, ◌+◌, ◌-◌, ◌*◌, ◌/◌, ◌%◌, ◌≤◌}
use Rattle.record.specs.Fields.{kind_of, factor_of, class_of, captured_of}
use Rattle.year_factors.specs.YearFactors.{year_of, no_year}
use Rattle.ledger.specs.declared.book.Ledger.{Ledger}
use Rattle.promise_three.specs.Offering.{Offering, records_in}
use Rattle.promise_three.specs.Exact.{record_at}

-- Two records have the same correction factor, captured share and site class.
pub record SameYear (one other : List ℕ) : Type 0 where
  pub same_factor : factor_of one ≡ factor_of other
  pub same_captured : captured_of one ≡ captured_of other
  pub same_class : class_of one ≡ class_of other

-- What request c of document 02 makes of an offering; record i is the one that was accepted as number i.
pub record MonthsShare (o : Offering) : Type 0 where
  -- 'In a monthly run, records 12q + 2 to 12q + 12 must repeat those three values of record 12q + 1': all records of one year have them.
  pub one_year : o.ledger.kind ≡ 2 → (i k : ℕ) → 1 ≤ i → i ≤ o.ledger.n → 1 ≤ k → k ≤ o.ledger.n → (i - 1) / 12 ≡ (k - 1) / 12
      → SameYear (record_at (records_in o) i) (record_at (records_in o) k)
  -- 'the ledger remembers them': those of the record 12q + 1 with which the year of the last one began.
  pub remembers : o.ledger.kind ≡ 2 → 1 ≤ o.ledger.n → o.ledger.year ≡ year_of (record_at (records_in o) (12 * ((o.ledger.n - 1) / 12) + 1))
  -- 'Yearly runs keep these fields zero.'
  pub yearly_zero : o.ledger.kind ≡ 1 → o.ledger.year ≡ no_year

-- A record that is not as the year of a ledger has it: monthly, in the middle of a year, and with another of the three values.
pub record NotTheYears (l : Ledger) (bytes : List ℕ) : Type 0 where
  pub by_month : kind_of bytes ≡ 2
  pub mid_year : l.n % 12 ≡ 0 → ⊥
  pub unlike : year_of bytes ≡ l.year → ⊥
