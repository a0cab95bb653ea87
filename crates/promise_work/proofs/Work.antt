-- A run's work is added up record by record, as its history is; a record's work is seen type by type.
use mathlib.Core.Path.{◌≡◌, refl, sym, ap, ◌∙◌}
use mathlib.Core.Bool.{Bool, true, false, not, ◌&&◌, ◌||◌}
use mathlib.Core.List.{List, [], ◌∷◌}
use Prim.Native.Nat.{ℕ, zero, suc, ◌+◌, ◌-◌, ◌*◌, ◌≤◌, ◌<◌}
use native.Mathlib.Decide.{ℕ_discrete}
use native.Mathlib.Nat.{zero-mul, mul-le-mul}
use native.Mathlib.Omega.{arith}
use borrow.Author.Tests.{eqb-true, lt-ltb, le-ltb}
use lib.Dec.{ltb}
use lib.ListN.{length, get_or, take}
use Rattle.numbers.specs.Eight.{one, sum_of}
use Rattle.numbers.proofs.Eight.{sum_first, sum_same, sum_most}
use Rattle.waste.specs.Waste.{inert, carbon_of}
use Rattle.waste.proofs.Laws.{carbon_some}
use Rattle.record.specs.Fields.{record_bytes, kind_of, climate_of, dry_of, mass_of, deposit_of}
use Rattle.carbon.specs.Carbon.{entry_at}
use Rattle.carbon.proofs.Laws.{entry_small, left_less}
use Rattle.ledger.specs.Step.{stock_at, held, new_stock, release, work, work_of, after}
use Rattle.ledger.specs.Refusal.{refusal_of}
use Rattle.ledger.specs.Take.{accepted_of}
use Rattle.ledger.specs.declared.book.Ledger.{Ledger}
use Rattle.ledger.proofs.Accepted.{accepted_meets, no_carbon}
use Rattle.ledger.proofs.Settle.{none_to_decay, work_most}
use Rattle.ledger.proofs.Step.{release_answered}
use Rattle.ledger.proofs.Take.{taken, take_refusal}
use Rattle.run.specs.History.{work_over, records_of, Run, run_of, outcome_of}
use Rattle.run.proofs.History.{run_goes_on, run_stops, run_ends, run_counts}
use Rattle.run.proofs.OneRecord.{one_work}
use Rattle.promise_work.specs.Work.{run_answer, multiplications_in, multiplications, step_answer, has_carbon, SameMasses}

-- Record i of some records, the ledger before it, and the room that is left for it.
module _ (l : Ledger) (records : List (List ℕ)) (room : ℕ) where
  abbrev accepted : ℕ
  accepted = length (run_of l records room).accepted

  abbrev before : (i : ℕ) → Ledger
  before i = (run_of l (take i records) room).ledger

  abbrev offered : (i : ℕ) → List ℕ
  offered i = get_or records i []

-- one record more in front
module _ (l : Ledger) (bytes : List ℕ) (rest : List (List ℕ)) (room : ℕ) (e : refusal_of l bytes room ≡ 0) where
  before_later : (i : ℕ) → before l (bytes ∷ rest) room (suc i) ≡ before (after l bytes) rest (room - record_bytes) i
  unfolding accepted_of
  before_later i = ap (λ (r : Run). r.ledger) (run_goes_on l bytes (take i rest) room e)

-- the work of a run, record by record
counted : (l : Ledger) (records : List (List ℕ)) (room : ℕ)
    → work_over (run_of l records room).accepted ≡ sum_of (λ i. work_of (before l records room i) (offered l records room i)) (accepted l records room)
unfolding work_over accepted_of
counted l [] room = rw (run_ends l room)
counted l (bytes ∷ rest) room =
    elim (ℕ_discrete (refusal_of l bytes room) 0) [
      | yes e ↦
          let l' = after l bytes in
          let r = run_of l' rest (room - record_bytes) in
          let k = length r.accepted in
          let f : ℕ → ℕ = λ i. work_of (before l (bytes ∷ rest) room i) (get_or (bytes ∷ rest) i []) in
          let first : f 0 ≡ work_of l bytes = ap (λ (r : Run). work_of r.ledger bytes) (run_ends l room) in
          let later : sum_of (λ i. f (suc i)) k ≡ work_over r.accepted
          = sum_same (λ i. f (suc i)) (λ i. work_of (before l' rest (room - record_bytes) i) (get_or rest i [])) k
          (λ i b. ap (λ (m : Ledger). work_of m (get_or rest i [])) (before_later l bytes rest room e i))
          ∙ sym (counted l' rest (room - record_bytes)) in
          rw (run_goes_on l bytes rest room e) (omega (arith, sum_first f k, first, later))
      | no e ↦ rw (run_stops l bytes rest room (refusal_of l bytes room) refl e)
    ]

pub work_counted : (l : Ledger) (file out : List ℕ) → (run_answer l file out).work ≡ multiplications l file out
unfolding outcome_of work_of work held
work_counted l file out = counted l (records_of file) (length out)

-- each accepted record is one that the ledger before it accepts
abbrev Accepts : Ledger → List (List ℕ) → (room i : ℕ) → Type 0
Accepts l records room i =
    i < accepted l records room → refusal_of (before l records room i) (offered l records room i) (room - record_bytes * i) ≡ 0

first_and_later : (l : Ledger) (bytes : List ℕ) (rest : List (List ℕ)) (room : ℕ) → refusal_of l bytes room ≡ 0
    → ((i : ℕ) → Accepts (after l bytes) rest (room - record_bytes) i) → (i : ℕ) → Accepts l (bytes ∷ rest) room i
unfolding accepted_of
first_and_later l bytes rest room e later zero b =
    let all : room - record_bytes * 0 ≡ room = omega arith in
    ap (λ (r : Run). refusal_of r.ledger bytes (room - record_bytes * 0)) (run_ends l room) ∙ ap (refusal_of l bytes) all ∙ e
first_and_later l bytes rest room e later (suc i) b =
    let left : room - record_bytes * suc i ≡ room - record_bytes - record_bytes * i = omega arith in
    let fewer = ap (λ (r : Run). length r.accepted) (run_goes_on l bytes rest room e) in
    ap (λ (m : Ledger). refusal_of m (get_or rest i []) (room - record_bytes * suc i)) (before_later l bytes rest room e i)
    ∙ ap (refusal_of (before (after l bytes) rest (room - record_bytes) i) (get_or rest i [])) left
    ∙ later i (omega (arith, fewer))

each_accepted : (l : Ledger) (records : List (List ℕ)) (room i : ℕ) → Accepts l records room i
each_accepted l [] room i b = absurd (omega (arith, ap (λ (r : Run). length r.accepted) (run_ends l room)))
each_accepted l (bytes ∷ rest) room i b =
    elim (ℕ_discrete (refusal_of l bytes room) 0) [
      | yes e ↦ first_and_later l bytes rest room e (each_accepted (after l bytes) rest (room - record_bytes)) i b
      | no e ↦ absurd (omega (arith, ap (λ (r : Run). length r.accepted) (run_stops l bytes rest room (refusal_of l bytes room) refl e)))
    ]

-- seven types at most
seven : (l : Ledger) (bytes : List ℕ) (room : ℕ) → refusal_of l bytes room ≡ 0 → work_of l bytes ≤ 7
unfolding work_of
seven l bytes room e =
    let most = work_most l bytes in
    omega (arith, most 0, most 1, most 2, most 3, most 4, none_to_decay l bytes 5 (no_carbon l bytes (accepted_meets l bytes room e)).H, most 6, most 7)

pub seven_a_record : (l : Ledger) (file out : List ℕ) (i : ℕ) → i < (run_answer l file out).accepted → multiplications_in l file out i ≤ 7
unfolding outcome_of work_of work held
seven_a_record l file out i b =
    seven (before l (records_of file) (length out) i) (offered l (records_of file) (length out) i) (length out - record_bytes * i)
    (each_accepted l (records_of file) (length out) i b)

-- a run that accepts a record has a sound ledger, and accepts no more than 1200
pub most_in_a_run : (l : Ledger) (file out : List ℕ) → (run_answer l file out).work ≤ 8400
unfolding outcome_of
most_in_a_run l file out =
    let k = (run_answer l file out).accepted in
    let sum = sum_most (multiplications_in l file out) 7 k (λ i b. seven_a_record l file out i b) in
    elim (ℕ_discrete k 0) [
      | yes none ↦ omega (arith, work_counted l file out, sum)
      | no some ↦
          let first = offered l (records_of file) (length out) 0 in
          let left = length out - record_bytes * 0 in
          let e : refusal_of l first left ≡ 0
          = sym (ap (λ (r : Run). refusal_of r.ledger first left) (run_ends l (length out))) ∙ each_accepted l (records_of file) (length out) 0 (omega (arith, some)) in
          let few = (accepted_meets l first left e).more in
          let c = run_counts l (records_of file) (length out) (omega (arith, few)) in
          omega (arith, work_counted l file out, sum, c.n, c.few)
    ]

-- One record on its own.
module _ (l : Ledger) (bytes out : List ℕ) (e : (step_answer l bytes out).refusal ≡ 0) where
  passes : refusal_of l bytes (length out) ≡ 0
  passes = sym (take_refusal l bytes (length out)) ∙ e

  pub type_6_none : (t : ℕ) → t ≡ 5 → stock_at l t + deposit_of bytes t ≡ 0
  unfolding held
  type_6_none t p = rw p (no_carbon l bytes (accepted_meets l bytes (length out) passes)).H

  its_work : (run_answer l bytes out).work ≡ work_of l bytes
  its_work = one_work l bytes out (accepted_meets l bytes (length out) passes).size passes

  -- seen from the masses and the ledger: every type but inert waste has carbon in its mass
  carbon_in : (R m c : ℕ) → 0 < c → ltb 0 (R + m * c * 100) ≡ (ltb 0 R || ltb 0 m)
  carbon_in R m c h =
      elim (ℕ_discrete R 0) [
        | no r ↦ simp (lt-ltb 0 R (omega (arith, r)), lt-ltb 0 (R + m * c * 100) (omega (arith, r)))
        | yes r ↦
            elim (ℕ_discrete m 0) [
              | yes z ↦ rw (r, z, zero-mul c)
              | no z ↦
                  let one_kg : 1 ≤ m = omega (arith, z) in
                  let some : 1 * 1 ≤ m * c = mul-le-mul one_kg h in
                  simp (le-ltb 0 R (omega (arith, r)), lt-ltb 0 m (omega (arith, z)), lt-ltb 0 (R + m * c * 100) (omega (arith, some)))
            ]
      ]

  work_by_mass : (t : ℕ) → t < 8 → work l bytes t ≡ one (has_carbon l bytes t)
  unfolding work held deposit_of
  work_by_mass t place = by_type (inert t) refl
    where
      by_type : (b : Bool) → inert t ≡ b → work l bytes t ≡ one (has_carbon l bytes t)
      by_type true is = none_to_decay l bytes t (type_6_none t (omega (arith, eqb-true (t + 1) 6 is))) ∙ rw is
      by_type false is =
          rw is (ap one (carbon_in (stock_at l t) (mass_of bytes t) (carbon_of (t + 1) (dry_of bytes (t + 1))) (carbon_some t (dry_of bytes (t + 1)) place is)))

  pub by_masses : (run_answer l bytes out).work ≡ sum_of (λ t. one (has_carbon l bytes t)) 8
  unfolding work_of
  by_masses = its_work ∙ sum_same (work l bytes) (λ t. one (has_carbon l bytes t)) 8 work_by_mass

  -- and from the releases: what is left is less than what was held
  work_by_release : (t : ℕ) → t < 8 → work l bytes t ≡ one (ltb 0 (get_or (step_answer l bytes out).releases t 0))
  unfolding work release new_stock
  work_by_release t place =
      let D = entry_at (kind_of bytes) (climate_of bytes) t in
      rw (taken l bytes (length out) passes, release_answered l bytes t place)
      (elim (ℕ_discrete (held l bytes t) 0) [
        | yes z ↦ simp (le-ltb 0 (held l bytes t) (omega (arith, z)), le-ltb 0 (held l bytes t - new_stock l bytes t) (omega (arith, z)))
        | no z ↦
            let less = left_less (held l bytes t) D (entry_small (kind_of bytes) (climate_of bytes) t) (omega (arith, z)) in
            simp (lt-ltb 0 (held l bytes t) (omega (arith, z)), lt-ltb 0 (held l bytes t - new_stock l bytes t) (omega (arith, less)))
      ])

  pub by_releases : (run_answer l bytes out).work ≡ sum_of (λ t. one (ltb 0 (get_or (step_answer l bytes out).releases t 0))) 8
  unfolding work_of
  by_releases = its_work ∙ sum_same (work l bytes) (λ t. one (ltb 0 (get_or (step_answer l bytes out).releases t 0))) 8 work_by_release

pub masses_decide : (l : Ledger) (bytes out others rest : List ℕ) → (step_answer l bytes out).refusal ≡ 0 → (step_answer l others rest).refusal ≡ 0
    → SameMasses bytes others → (run_answer l bytes out).work ≡ (run_answer l others rest).work
masses_decide l bytes out others rest e f same =
    by_masses l bytes out e
    ∙ sum_same (λ t. one (has_carbon l bytes t)) (λ t. one (has_carbon l others t)) 8
    (λ t place. ap (λ (m : ℕ). one (not (inert t) && (ltb 0 (stock_at l t) || ltb 0 m))) (same t place))
    ∙ sym (by_masses l others rest f)
