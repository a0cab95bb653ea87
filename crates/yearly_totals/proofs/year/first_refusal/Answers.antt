-- The run of the first record alone has its refusal, and room for one output record is all that it needs.
use mathlib.Core.Path.{◌≡◌, sym, ap, ◌∙◌}
use mathlib.Core.List.{List}
use Prim.Native.Nat.{ℕ, min}
use native.Mathlib.Omega.{arith}
use lib.ListN.{length, take, replicate}
use lib.Seq.{length-take-le}
use Rattle.std.proofs.lemmas.List.{take_min}
use Rattle.record.specs.Fields.{record_bytes}
use Rattle.run.specs.History.{outcome_of}
use Rattle.run.specs.Outcome.{Outcome}
use Rattle.yearly_totals.proofs.Parts.{first_alone}
use Rattle.yearly_totals.proofs.year.first_refusal.Goals as goal

abbrev spare : List ℕ
spare = replicate record_bytes 0

-- the bytes lent are as many as the room has, up to one output record
lent_long : (room lent : ℕ) → lent ≡ min record_bytes room → length (take lent spare) ≡ lent
lent_long room lent e = length-take-le lent spare (omega (arith, e))

pub returns : goal.returns
unfolding outcome_of
returns c =
    let file = c.args.records.now in
    ap (λ (o : Outcome). o.refusal) c.run.ensures.value
    ∙ first_alone c.args.ledger file c.args.room (ap (λ (k : ℕ). take k file) c.min-size.ensures ∙ take_min record_bytes file)
    (lent_long c.args.room c.min-lent.result c.min-lent.ensures ∙ c.min-lent.ensures) c.requires

pub slice_bounds-run-end : goal.slice_bounds-run-end
slice_bounds-run-end c = sym (length-take-le c.min-size.result c.args.records.now (omega (arith, c.min-size.ensures)))

pub slice_bounds-spare-end : goal.slice_bounds-spare-end
slice_bounds-spare-end c = omega (arith, c.min-lent.ensures)

pub slice_bounds-run-end-2 : goal.slice_bounds-run-end-2
slice_bounds-run-end-2 c = sym (lent_long c.args.room c.min-lent.result c.min-lent.ensures)
