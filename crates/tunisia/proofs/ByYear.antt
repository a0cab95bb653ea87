-- A monthly record more is refused in this mode, and nothing else changes: after a yearly record a monthly one is refused in any run.
use mathlib.Core.Path.{◌≡◌, refl, sym, ap, ◌∙◌}
use mathlib.Core.Bool.{Bool, true, false, cond, ◌&&◌, ◌||◌, or-false}
use mathlib.Core.List.{List, [], ◌∷◌}
use Prim.Native.Nat.{ℕ, zero, suc, ◌+◌, ◌-◌, ◌*◌, ◌≤◌, ◌<◌}
use native.Mathlib.Decide.{ℕ_discrete}
use native.Mathlib.Omega.{arith}
use borrow.Author.Tests.{ne_eqb, eqb-true}
use lib.Dec.{eqb, ltb}
use lib.ListN.{length, take, drop, length-drop, length-take}
use lib.Seq.{get_or-take, drop-drop}
use Rattle.numbers.specs.Fault.{Fault}
use Rattle.numbers.proofs.Fault.{inserted_turns}
use Rattle.waste.specs.Kind.{yearly, is_monthly}
use Rattle.record.specs.Fields.{record_bytes, kind_of}
use Rattle.refusal.specs.Refusal.{faults_of}
use Rattle.ledger.specs.Step.{fresh, after}
use Rattle.ledger.specs.Refusal.{sound, refusal_of}
use Rattle.ledger.specs.Take.{accepted_of, refused_of}
use Rattle.ledger.specs.declared.book.Ledger.{Ledger}
use Rattle.ledger.proofs.Accepted.{accepted_meets, room_alike}
use Rattle.run.specs.History.{Turn, leading, ending, records_of, Run, run_of, whole_run}
use Rattle.run.proofs.History.{no_records, first_record_lem, begun_record, begun_refusal, accepted_turn, run_goes_on, run_stops, run_ends}
use Rattle.tunisia.specs.Years.{refusal_by_year, turn_by_year, turns_by_year, accepted_years, refusal_after, years_from, years_of}
use Rattle.reductions.specs.Year.{stretch_of, sums_of}
use Rattle.reductions.specs.declared.year.Sums.{Sums}
use Rattle.tunisia.specs.Walk.{YearsTaken, taken_over, as_yearly}

module _ (l : Ledger) (bytes : List ℕ) where
  abbrev faults : List Fault
  faults = faults_of (sound l) l.n l.kind l.climate l.year bytes record_bytes

  pub refused_by_year : refusal_by_year l bytes ≡ as_yearly (refusal_of l bytes record_bytes) (is_monthly (kind_of bytes))
  unfolding refusal_by_year refusal_of faults_of as_yearly
  refused_by_year = inserted_turns 6 23 5 (is_monthly (kind_of bytes)) faults refl refl refl

-- A yearly record is refused as in a run; a refused one is refused in this mode too.
as_yearly_none : (q : ℕ) (month : Bool) → month ≡ false → as_yearly q month ≡ q
unfolding as_yearly
as_yearly_none q month e = rw e

as_yearly_some : (q : ℕ) (month : Bool) → (q ≡ 0 → ⊥) → as_yearly q month ≡ 0 → ⊥
unfolding as_yearly
as_yearly_some q month some = by_test (month && (eqb q 0 || ltb 5 q))
  where
    by_test : (test : Bool) → cond test 23 q ≡ 0 → ⊥
    by_test true z = omega arith
    by_test false z = some z

-- A monthly record is refused.
as_yearly_month : (q : ℕ) → as_yearly q true ≡ 0 → ⊥
unfolding as_yearly
as_yearly_month zero z = omega arith
as_yearly_month (suc q) z = as_yearly_some (suc q) true (λ n. omega arith) z

-- what the turn at the head decides in this mode
module _ (l : Ledger) (bytes : List ℕ) (rest : List (List ℕ)) where
  pub year_goes_on : refusal_by_year l bytes ≡ 0
      → (leading (turns_by_year l (bytes ∷ rest)) ≡ accepted_turn l bytes ∷ leading (turns_by_year (accepted_of l bytes).ledger rest))
      × (ending (turns_by_year l (bytes ∷ rest)) ≡ ending (turns_by_year (accepted_of l bytes).ledger rest))
  unfolding turns_by_year turn_by_year leading ending accepted_of
  year_goes_on e = (rw e, rw e)

  pub year_stops : (refusal_by_year l bytes ≡ 0 → ⊥)
      → (leading (turns_by_year l (bytes ∷ rest)) ≡ []) × (ending (turns_by_year l (bytes ∷ rest)) ≡ refusal_by_year l bytes)
  unfolding turns_by_year turn_by_year leading ending refused_of
  year_stops e = let ne = ne_eqb (refusal_by_year l bytes) 0 e in (simp ne, simp ne)

-- A ledger whose records are yearly, and whose next one is yearly where it has none.
abbrev Yearly : Ledger → (left : List ℕ) → Type 0
Yearly l left = (l.n ≡ 0 → is_monthly (kind_of left) ≡ false) × ((l.n ≡ 0 → ⊥) → l.kind ≡ yearly)

pub record ByYears (l : Ledger) (left : List ℕ) (r : Run) : Type 0 where
  pub accepted : leading (turns_by_year l (records_of left)) ≡ r.accepted
  pub refusal : ending (turns_by_year l (records_of left)) ≡ as_yearly r.refusal (is_monthly (kind_of (drop (record_bytes * length r.accepted) left)))

no_byte : (left : List ℕ) → length left ≡ 0 → kind_of left ≡ 0
no_byte [] e = refl
no_byte (b ∷ left) e = absurd (omega arith)

none_left : (l : Ledger) (left : List ℕ) (room : ℕ) → length left ≡ 0 → ByYears l left (run_of l (records_of left) room)
unfolding turns_by_year leading ending as_yearly
none_left l left room z =
    rw (no_records left z, run_ends l room) (record { accepted = rw (no_records left z); refusal = rw (no_records left z, no_byte left z) })

module _ (l : Ledger) (left : List ℕ) (room : ℕ) (enough : record_bytes ≤ room) (h : Yearly l left) where
  abbrev bytes : List ℕ
  bytes = take record_bytes left

  kind_is : kind_of bytes ≡ kind_of left
  kind_is = get_or-take record_bytes left 2 0 (omega arith)

  by_year_is : refusal_by_year l bytes ≡ as_yearly (refusal_of l bytes room) (is_monthly (kind_of left))
  by_year_is = refused_by_year l bytes ∙ rw (room_alike l bytes record_bytes room (omega arith) enough, kind_is)

  module _ (e : refusal_of l bytes room ≡ 0) where
    not_monthly : is_monthly (kind_of left) ≡ false
    not_monthly =
        elim (ℕ_discrete l.n 0) [
          | yes z ↦ h.0 z
          | no z ↦ rw (← kind_is, ((accepted_meets l bytes room e).same z).0, h.1 z)
        ]

    pub still_yearly : (on : List ℕ) → Yearly (accepted_of l bytes).ledger on
    unfolding accepted_of after
    still_yearly on = (
      λ z. absurd (omega arith),
      λ some. rw kind_is (eqb-true (kind_of left) yearly (simp (not_monthly, or-false) at (rw kind_is at (accepted_meets l bytes room e).kind))),
    )

    pub taken_by_year : refusal_by_year l bytes ≡ 0
    taken_by_year = by_year_is ∙ as_yearly_none (refusal_of l bytes room) (is_monthly (kind_of left)) not_monthly ∙ e

  with_first : (refusal_of l bytes room ≡ 0 → ByYears (accepted_of l bytes).ledger (drop record_bytes left) (run_of (accepted_of l bytes).ledger (records_of (drop record_bytes left)) (room - record_bytes)))
      → 0 < length left → ByYears l left (run_of l (records_of left) room)
  with_first more some =
      let xs = records_of (drop record_bytes left) in
      let first : records_of left ≡ bytes ∷ xs = first_record_lem left some in
      rw first
      (elim (ℕ_discrete (refusal_of l bytes room) 0) [
        | yes e ↦
            let on = more e in
            let r = run_of (accepted_of l bytes).ledger xs (room - record_bytes) in
            let went = year_goes_on l bytes xs (taken_by_year e) in
            let far : record_bytes * suc (length r.accepted) ≡ record_bytes + record_bytes * length r.accepted = omega arith in
            rw (run_goes_on l bytes xs room e)
            (record {
              accepted = rw first (went.0 ∙ ap (λ (ts : List Turn). accepted_turn l bytes ∷ ts) on.accepted);
              refusal = rw (first, far) (went.1 ∙ on.refusal ∙ ap (λ (rest : List ℕ). as_yearly r.refusal (is_monthly (kind_of rest))) (drop-drop (record_bytes * length r.accepted) record_bytes left));
            })
        | no e ↦
            let stopped = year_stops l bytes xs (λ z. as_yearly_some (refusal_of l bytes room) (is_monthly (kind_of left)) e (sym by_year_is ∙ z)) in
            rw (run_stops l bytes xs room (refusal_of l bytes room) refl e) (record { accepted = rw first stopped.0; refusal = rw first (stopped.1 ∙ by_year_is) })
      ])

pub by_years : (k : ℕ) (left : List ℕ) → length left ≤ k → (l : Ledger) (room : ℕ) → record_bytes * length (records_of left) ≤ room → Yearly l left
    → ByYears l left (run_of l (records_of left) room)
by_years zero left short l room enough h = none_left l left room (omega arith)
by_years (suc k) left short l room enough h =
    elim (ℕ_discrete (length left) 0) [
      | yes z ↦ none_left l left room z
      | no z ↦
          let records = ap length (first_record_lem left (omega arith)) in
          with_first l left room (omega (arith, records)) h
          (λ e. by_years k (drop record_bytes left) (simp length-drop (omega arith)) (accepted_of l (take record_bytes left)).ledger (room - record_bytes) (omega (arith, records))
          (still_yearly l left room (omega (arith, records)) h e (drop record_bytes left)))
          (omega arith)
    ]

-- A file whose first record is not monthly has the accepted records of its run.
pub yearly_file : (file : List ℕ) → is_monthly (kind_of file) ≡ false
    → (accepted_years file ≡ (whole_run file).accepted)
    × (refusal_after file ≡ as_yearly (whole_run file).refusal (is_monthly (kind_of (drop (record_bytes * length (whole_run file).accepted) file))))
unfolding accepted_years refusal_after whole_run fresh
yearly_file file e =
    let years = by_years (length file) file (omega arith) fresh (record_bytes * length (records_of file)) (omega arith) (λ z. e, λ some. absurd (some refl)) in
    (years.accepted, years.refusal)

-- One whose first record is monthly has no years.
pub first_byte : (file : List ℕ) → is_monthly (kind_of file) ≡ true → 0 < length file
first_byte [] m = absurd (let z : 0 ≡ 2 = eqb-true 0 2 m in omega arith)
first_byte (b ∷ rest) m = omega arith

pub monthly_file : (file : List ℕ) → is_monthly (kind_of file) ≡ true
    → (accepted_years file ≡ []) × (refusal_after file ≡ as_yearly (refusal_of fresh (take record_bytes file) record_bytes) true)
unfolding accepted_years refusal_after
monthly_file file e =
    let some : 0 < length file = first_byte file e in
    let bytes = take record_bytes file in
    let q : refusal_by_year fresh bytes ≡ as_yearly (refusal_of fresh bytes record_bytes) true
    = rw (get_or-take record_bytes file 2 0 (omega arith), e) at (refused_by_year fresh bytes) in
    let stopped = year_stops fresh bytes (records_of (drop record_bytes file)) (λ z. as_yearly_month (refusal_of fresh bytes record_bytes) (sym q ∙ z)) in
    rw (first_record_lem file some) (stopped.0, stopped.1 ∙ q)

-- The run of the first record alone, which may be short.
pub first_run : (file : List ℕ) → 0 < length file → (whole_run (take record_bytes file)).refusal ≡ refusal_of fresh (take record_bytes file) record_bytes
unfolding whole_run
first_run file some =
    let bytes = take record_bytes file in
    let long = length-take record_bytes file in
    let one : records_of bytes ≡ bytes ∷ [] = begun_record bytes (omega (arith, long)) (omega (arith, long)) in
    let room : record_bytes * length (records_of bytes) ≡ record_bytes = rw one in
    ap (λ (k : ℕ). (run_of fresh (records_of bytes) k).refusal) room ∙ begun_refusal fresh bytes record_bytes (omega (arith, long)) (omega (arith, long))

-- What the accepted years of a file are to their caller: none where the first record is monthly,
pub months_taken : (first last : ℕ) (file : List ℕ) {none : Sums} {q : ℕ} → is_monthly (kind_of file) ≡ true → none.reference ≡ 0 → none.project ≡ 0 → none.bound ≡ 0
    → q ≡ refusal_of fresh (take record_bytes file) record_bytes
    → record { sums = none; years = 0; refused = as_yearly q true } ≡ taken_over first last (accepted_years file) (refusal_after file)
unfolding taken_over sums_of stretch_of years_of years_from
months_taken first last file {none} e reference project bound q =
    let no_years = monthly_file file e in
    let no_sums : none ≡ record { reference = 0; project = 0; bound = 0 } = λ i. record { reference = reference i; project = project i; bound = bound i } in
    rw (no_sums, q, no_years.0, no_years.1)

-- else those of the run.
pub years_taken : (first last : ℕ) (file : List ℕ) {ran : YearsTaken} {next : ℕ} → is_monthly (kind_of file) ≡ false
    → ran ≡ taken_over first last (whole_run file).accepted (whole_run file).refusal → next ≡ kind_of (drop (record_bytes * ran.years) file)
    → record { sums = ran.sums; years = ran.years; refused = as_yearly ran.refused (is_monthly next) } ≡ taken_over first last (accepted_years file) (refusal_after file)
unfolding taken_over
years_taken first last file e ran next = let years = yearly_file file e in rw (next, ran, years.0, years.1)
