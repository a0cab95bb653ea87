-- An answer is known by its numbers.
use mathlib.Core.Path.{◌≡◌, refl, sym, ap}
use mathlib.Core.List.{List}
use Prim.Native.Nat.{ℕ}
use native.Mathlib.Omega.{arith}
use Rattle.std.proofs.Common.{Result, Ok, Err, Some}
use Rattle.refusal.specs.Numbers.{number_of}
use Rattle.refusal.specs.declared.Refusal.{Refusal}
use Rattle.refusal.specs.declared.Refusal.TheVariants.{TotalsLength, RecordLength, NoRoom, UnsoundLedger, LedgerFull, NoCode, MonthlyRecord, YearlyRecord, PeriodOutOfTurn, OtherKindOrClimate, OutOfRange, OtherYearFactors, MassOverLimit, DamagedTotals}
use Rattle.refusal.proofs.Numbers.{number_some, one_refusal}
use Rattle.by_type.specs.Columns.{Filled}
use Rattle.columns.specs.Refused.{numbers_of}
use Rattle.columns.specs.declared.refused.ColumnsRefusal.{ColumnsRefusal}
use Rattle.columns.specs.declared.refused.ColumnsRefusal.TheVariants.{Record, Short}

-- 26 is no record's
not_26 : (why : Refusal) → number_of why ≡ 26 → ⊥
not_26 TotalsLength e = omega arith
not_26 RecordLength e = omega arith
not_26 NoRoom e = omega arith
not_26 UnsoundLedger e = omega arith
not_26 LedgerFull e = omega arith
not_26 NoCode e = omega arith
not_26 MonthlyRecord e = omega arith
not_26 YearlyRecord e = omega arith
not_26 PeriodOutOfTurn e = omega arith
not_26 OtherKindOrClimate e = omega arith
not_26 OutOfRange e = omega arith
not_26 OtherYearFactors e = omega arith
not_26 MassOverLimit e = omega arith
not_26 DamagedTotals e = omega arith

pub one_filled : (a b : Result (List ℕ) ColumnsRefusal) → numbers_of a ≡ numbers_of b → a ≡ b
one_filled (Ok a) (Ok b) e = ap Ok (ap (λ (f : Filled). f.stocks) e)
one_filled (Ok a) (Err (Record why)) e = absurd (number_some why (sym (ap (λ (f : Filled). f.refusal) e)))
one_filled (Ok a) (Err Short) e = absurd (omega (arith, ap (λ (f : Filled). f.refusal) e))
one_filled (Err (Record why)) (Ok b) e = absurd (number_some why (ap (λ (f : Filled). f.refusal) e))
one_filled (Err Short) (Ok b) e = absurd (omega (arith, ap (λ (f : Filled). f.refusal) e))
one_filled (Err (Record v)) (Err (Record w)) e =
    let same = one_refusal (Some v) (Some w) (ap (λ (f : Filled). f.refusal) e) in
    cc
one_filled (Err (Record why)) (Err Short) e = absurd (not_26 why (ap (λ (f : Filled). f.refusal) e))
one_filled (Err Short) (Err (Record why)) e = absurd (not_26 why (sym (ap (λ (f : Filled). f.refusal) e)))
one_filled (Err Short) (Err Short) e = refl
