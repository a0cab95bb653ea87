-- Documents 01 and 02, 'Refusal numbers': the number of each reason.
use Rattle.std.specs.Prelude.{ℕ, Option, Some, None}
use Rattle.refusal.specs.declared.why.Refusal.{Refusal}
use Rattle.refusal.specs.declared.why.Refusal.TheVariants.{TotalsLength, RecordLength, NoRoom, UnsoundLedger, LedgerFull, NoCode, MonthlyRecord, YearlyRecord, PeriodOutOfTurn, OtherKindOrClimate, OutOfRange, OtherYearFactors, MassOverLimit, DamagedTotals}

abbrev pub number_of : Refusal → ℕ
number_of TotalsLength = 28
number_of RecordLength = 1
number_of NoRoom = 2
number_of UnsoundLedger = 3
number_of LedgerFull = 4
number_of NoCode = 5
number_of MonthlyRecord = 23
number_of YearlyRecord = 27
number_of PeriodOutOfTurn = 6
number_of OtherKindOrClimate = 7
number_of OutOfRange = 8
number_of OtherYearFactors = 17
number_of MassOverLimit = 9
number_of DamagedTotals = 32

-- The number of a refusal, 0 if there is none.
abbrev pub numbered : Option Refusal → ℕ
numbered None = 0
numbered (Some why) = number_of why
