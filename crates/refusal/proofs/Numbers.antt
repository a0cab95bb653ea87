-- Each reason has a number of its own, and none has 0.
use Rattle.std.proofs.Common.{◌≡◌, refl, sym, ap, ◌∙◌, ℕ, false, Option, Some, None, List, [], ◌∷◌, eqb, cond}
use Rattle.refusal.specs.Numbers.{number_of, numbered}
use Rattle.refusal.specs.declared.why.Refusal.{Refusal}
use Rattle.refusal.specs.declared.why.Refusal.TheVariants.{TotalsLength, RecordLength, NoRoom, UnsoundLedger, LedgerFull, NoCode, MonthlyRecord, YearlyRecord, PeriodOutOfTurn, OtherKindOrClimate, OutOfRange, OtherYearFactors, MassOverLimit, DamagedTotals}

-- the first reason of a list that has a number, and else that of damaged totals
found : ℕ → List Refusal → Refusal
found n [] = DamagedTotals
found n (why ∷ rest) = cond (eqb (number_of why) n) why (found n rest)

pub reason_of : ℕ → Refusal
unfolding found
reason_of n =
    found n (
    RecordLength
    ∷ NoRoom
    ∷ UnsoundLedger
    ∷ LedgerFull
    ∷ NoCode
    ∷ PeriodOutOfTurn
    ∷ OtherKindOrClimate
    ∷ OutOfRange
    ∷ MassOverLimit
    ∷ OtherYearFactors
    ∷ MonthlyRecord
    ∷ YearlyRecord
    ∷ TotalsLength
    ∷ [])

pub same_reason : (why : Refusal) → reason_of (number_of why) ≡ why
unfolding reason_of found
same_reason TotalsLength = refl
same_reason RecordLength = refl
same_reason NoRoom = refl
same_reason UnsoundLedger = refl
same_reason LedgerFull = refl
same_reason NoCode = refl
same_reason MonthlyRecord = refl
same_reason YearlyRecord = refl
same_reason PeriodOutOfTurn = refl
same_reason OtherKindOrClimate = refl
same_reason OutOfRange = refl
same_reason OtherYearFactors = refl
same_reason MassOverLimit = refl
same_reason DamagedTotals = refl

-- A reason's number is not 0.
pub number_not_zero : (why : Refusal) → eqb (number_of why) 0 ≡ false
number_not_zero TotalsLength = refl
number_not_zero RecordLength = refl
number_not_zero NoRoom = refl
number_not_zero UnsoundLedger = refl
number_not_zero LedgerFull = refl
number_not_zero NoCode = refl
number_not_zero MonthlyRecord = refl
number_not_zero YearlyRecord = refl
number_not_zero PeriodOutOfTurn = refl
number_not_zero OtherKindOrClimate = refl
number_not_zero OutOfRange = refl
number_not_zero OtherYearFactors = refl
number_not_zero MassOverLimit = refl
number_not_zero DamagedTotals = refl

-- Two refusals that have one number are one.
of_number : ℕ → Option Refusal
of_number n = cond (eqb n 0) None (Some (reason_of n))

same_refusal : (why : Option Refusal) → of_number (numbered why) ≡ why
unfolding of_number
same_refusal None = refl
same_refusal (Some why) = rw (number_not_zero why, same_reason why) refl

pub one_refusal : (a b : Option Refusal) → numbered a ≡ numbered b → a ≡ b
one_refusal a b e = sym (same_refusal a) ∙ ap of_number e ∙ same_refusal b

-- The number is 0 where there is none, and only there.
pub none_numbered : (why : Option Refusal) → numbered why ≡ 0 → why ≡ None
none_numbered why e = one_refusal why None e

pub number_some : (why : Refusal) → number_of why ≡ 0 → ⊥
number_some why e = let h = none_numbered (Some why) e in cc
