-- Two ends of a run that have the same numbers are one.
use Rattle.std.proofs.Common.{◌≡◌, ap}
use Rattle.refusal.proofs.Numbers.{one_refusal}
use Rattle.run.specs.Outcome.{Outcome, outcome_numbers}
use Rattle.run.specs.declared.RunEnd.{RunEnd}

pub one_end : (a b : RunEnd) → outcome_numbers a ≡ outcome_numbers b → a ≡ b
one_end a b e = λ i. record {
  ledger = ap (λ (o : Outcome). o.ledger) e i;
  accepted = ap (λ (o : Outcome). o.accepted) e i;
  refusal = one_refusal a.refusal b.refusal (ap (λ (o : Outcome). o.refusal) e) i;
  work = ap (λ (o : Outcome). o.work) e i;
}
