-- A file whose first record is monthly has no years; any other has the accepted records of its run.
use mathlib.Core.Path.{◌≡◌, ap, ◌∙◌}
use mathlib.Core.Bool.{true, false}
use mathlib.Core.List.{List}
use Prim.Native.Nat.{ℕ, ◌-◌, ◌*◌}
use native.Mathlib.Omega.{arith}
use lib.ListN.{length, drop, length-drop}
use lib.Seq.{take_all}
use Rattle.waste.specs.Kind.{is_monthly}
use Rattle.record.specs.Fields.{record_bytes, kind_of}
use Rattle.tunisia.proofs.ByYear.{months_taken, years_taken}
use Rattle.tunisia.proofs.accepted.accepted_years.Goals as goal

pub returns-clause-value : goal.returns-clause-value
returns-clause-value c =
    let a = c.args in
    let year : is_monthly (kind_of a.file.now) ≡ false = rw (← c.kind-kind.ensures, ← c.is_monthly.ensures) c.if-is_monthly.false in
    let at = record_bytes * c.run_years-ran.result.years in
    let next : c.kind-next.result ≡ kind_of (drop at a.file.now)
    = c.kind-next.ensures ∙ ap (λ (b : List ℕ). kind_of b) (take_all (length a.file.now - at) (drop at a.file.now) (simp length-drop (omega arith))) in
    rw (c.as_yearly-2.ensures, c.is_monthly-next_monthly.ensures) (years_taken a.stretch.first a.stretch.last a.file.now year c.run_years-ran.ensures.value next)

pub returns-then-is_monthly-clause-value : goal.returns-then-is_monthly-clause-value
returns-then-is_monthly-clause-value c =
    let a = c.args in
    let none = c.default.ensures in
    let month : is_monthly (kind_of a.file.now) ≡ true = rw (← c.kind-kind.ensures, ← c.is_monthly.ensures) c.if-is_monthly.true in
    rw c.as_yearly.ensures (months_taken a.stretch.first a.stretch.last a.file.now month none.0 none.1.0 none.1.1 c.first_refusal.ensures)
