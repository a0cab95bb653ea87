-- Document 01, 'Refusal numbers, tested in this order'; and of document 02 request c: '17, after 8 and before 9', and request f: '8 also
-- covers m over 100'.
use Rattle.std.specs.Prelude.{Bool, not, ◌&&◌, List, [], ◌∷◌, ℕ, ◌+◌, eqb, ltb, length}
use Rattle.numbers.specs.Eight.{every_of}
use Rattle.numbers.specs.Fault.{Fault, ◌when◌}
use Rattle.record.specs.Fields.{record_bytes, period_of, kind_of, climate_of, factors_of}
use Rattle.record.specs.Ranges.{coded, in_range, dry_in_range, light}
use Rattle.carbon.specs.Carbon.{most_records}
use Rattle.year_factors.specs.YearFactors.{shares}
use Rattle.year_factors.specs.declared.YearFactors.{YearFactors}

-- Kind and climate are the ledger's.
unfoldable pub continues : (kind climate : ℕ) → List ℕ → Bool
continues kind climate bytes = eqb (kind_of bytes) kind && eqb (climate_of bytes) climate

-- The faults by their numbers, in order, for a ledger with n records, its kind, its climate and the year that it remembers; `good`
-- says whether the ledger is sound, and `room` how many bytes of output are left.
unfoldable pub faults_of : (good : Bool) (n kind climate : ℕ) → YearFactors → List ℕ → (room : ℕ) → List Fault
faults_of good n kind climate year bytes room =
    1 when not (eqb (length bytes) record_bytes)
    ∷ 2 when ltb room record_bytes
    ∷ 3 when not good
    ∷ 4 when eqb n most_records
    ∷ 5 when not (coded bytes)
    ∷ 6 when not (eqb (period_of bytes) (n + 1))
    ∷ 7 when (ltb 0 n && not (continues kind climate bytes))
    ∷ 8 when not (in_range (factors_of bytes) && dry_in_range bytes)
    ∷ 17 when not (shares n year bytes)
    ∷ 9 when not (every_of (light bytes) 8)
    ∷ []
