-- Where the run of a file by stretches is at the head of its loop, and how a stretch and the end go from there.
use mathlib.Core.Path.{◌≡◌, refl, sym, ap, ◌∙◌}
use mathlib.Core.Bool.{cond}
use mathlib.Core.List.{List, [], ◌++◌, append-nil, append_assoc}
use Prim.Native.Nat.{ℕ, ◌+◌, ◌*◌, ◌≤◌}
use native.Mathlib.Decide.{ℕ_discrete}
use native.Mathlib.Omega.{arith}
use borrow.Author.Tests.{eq-eqb, ne_eqb}
use lib.Dec.{eqb}
use lib.ListN.{length, take, drop, length-drop, length-append}
use Rattle.numbers.specs.Eight.{eight}
use Rattle.record.specs.Fields.{record_bytes}
use Rattle.carbon.specs.Carbon.{most_records}
use Rattle.ledger.specs.Step.{fresh}
use Rattle.ledger.specs.declared.book.Ledger.{Ledger}
use Rattle.ledger.proofs.Sound.{sound_is}
use Rattle.run.specs.History.{Turn, outputs, records_of, Run, out_of, outcome_of, whole_run}
use Rattle.run.specs.Outcome.{Outcome}
use Rattle.run.proofs.History.{no_records, on_from, run_ends}
use Rattle.stretches.specs.Stretches.{stretch_bytes, stretch_run}
use Rattle.stretches.proofs.Stretches.{rest_run, output_fits, output_size, goes_on, ends_here}
use Rattle.reductions.specs.declared.year.Sums.{Sums}
use Rattle.tunisia.specs.Walk.{none_walked, walked_over, AllReady, taken_over, SumsFit}
use Rattle.tunisia.specs.declared.year.Walked.{Walked}
use Rattle.tunisia.proofs.Walks.{Walks, walk_starts, walk_fits}
use Rattle.tunisia.proofs.OverRun.{OverRun, over_run}

-- The whole run goes on from here, or ended with a refusal.
abbrev whole_from : (refusal : ℕ) → List Turn → Ledger → (left : List ℕ) → Run
whole_from refusal done l left = cond (eqb refusal 0) (on_from done (rest_run l left)) (record { ledger = l; accepted = done; refusal = refusal })

pub record MidYears (first last : ℕ) (file : List ℕ) (l : Ledger) (w : Walked) (at refusal : ℕ) : Type 0 where
  pub done : List Turn
  pub in_file : at ≤ length file
  pub passed : record_bytes * length done ≤ at
  pub walks : Walks first last done l w
  pub so_far : whole_run file ≡ whole_from refusal done l (drop at file)

pub years_start : (first last : ℕ) (file : List ℕ) {sums : Sums} → sums.reference ≡ 0 → sums.project ≡ 0 → sums.bound ≡ 0
    → MidYears first last file fresh (record { n = 0; x0 = 0; brought = eight (λ t. 0); sums = sums }) 0 0
unfolding whole_run none_walked
years_start first last file {sums} reference project bound =
    let none : sums ≡ none_walked.sums = λ i. record { reference = reference i; project = project i; bound = bound i } in
    rw none (record { done = []; in_file = omega arith; passed = omega arith; walks = walk_starts first last; so_far = refl })

-- A stretch from where no refusal is.
module _ {first last : ℕ} {file : List ℕ} {l : Ledger} {w : Walked} {at : ℕ} (h : MidYears first last file l w at 0) where
  abbrev left : List ℕ
  left = drop at file

  abbrev part : List ℕ
  part = take stretch_bytes left

  abbrev ran : Run
  ran = stretch_run l left

  few : l.n ≤ most_records
  few = (sound_is l h.walks.good).few

  so_far_on : whole_from 0 h.done l left ≡ whole_from ran.refusal (h.done ++ ran.accepted) ran.ledger (drop stretch_bytes left)
  so_far_on =
      elim (ℕ_discrete ran.refusal 0) [
        | yes z ↦ simp (eq-eqb ran.refusal 0 z) (rw (goes_on l left few z) (onto h.done ran.accepted (rest_run ran.ledger (drop stretch_bytes left))))
        | no z ↦ simp (ne_eqb ran.refusal 0 z) (rw (ends_here l left few z))
      ]
    where
      onto : (a b : List Turn) (r : Run) → on_from a (on_from b r) ≡ on_from (a ++ b) r
      onto a b r = λ i. record { ledger = r.ledger; accepted = sym (append_assoc a b r.accepted) i; refusal = r.refusal }

  -- what the run answers and leaves in the output is what the walk takes
  module _ {o : Outcome} (out : List ℕ) {out' : List ℕ} (answered : o ≡ outcome_of ran) (put_out : out' ≡ out_of ran out) where
    over : OverRun first last h.done w part (drop (length (outputs ran.accepted)) out) ran
    over = over_run first last (drop (length (outputs ran.accepted)) out) (length part) part (omega arith) h.done l w stretch_bytes h.walks

    counted : o.accepted ≡ length ran.accepted
    unfolding outcome_of
    counted = ap (λ (x : Outcome). x.accepted) answered

    pub output_stays : length out ≡ stretch_bytes → length out' ≡ stretch_bytes
    output_stays size = ap length put_out ∙ output_size l left few out size

    pub all_ready : length out ≡ stretch_bytes
        → ((record_bytes * o.accepted ≤ length part) × (record_bytes * o.accepted ≤ length out')) × AllReady first last o.accepted w part out'
    unfolding out_of
    all_ready size =
        ((omega (arith, counted, over.whole), omega (arith, counted, output_stays size, output_fits l left few)), rw (counted, put_out) over.all_ready)

    pub years_go_on : {w' : Walked} → w' ≡ walked_over first last o.accepted w part out'
        → (at' : ℕ) → at + length part ≤ at' → at' ≤ length file → drop at' file ≡ drop stretch_bytes left → MidYears first last file o.ledger w' at' o.refusal
    unfolding outcome_of out_of
    years_go_on e at' on inside same =
        rw answered
        (record {
          done = h.done ++ ran.accepted;
          in_file = inside;
          passed = omega (arith, h.passed, over.whole, length-append h.done ran.accepted);
          walks = rw (e, counted, put_out) over.walks;
          so_far = h.so_far ∙ so_far_on ∙ rw same;
        })

-- Where no stretch follows.
pub walk_ends : {first last : ℕ} {file : List ℕ} {l : Ledger} {w : Walked} {at refusal : ℕ} → MidYears first last file l w at refusal → (refusal ≡ 0 → length file ≤ at)
    → (record { sums = w.sums; years = w.n; refused = refusal } ≡ taken_over first last (whole_run file).accepted (whole_run file).refusal)
    × ((SumsFit w.sums) × (record_bytes * w.n ≤ length file) × (w.n ≤ most_records))
unfolding taken_over
walk_ends {first} {last} {file} {l} {w} {at} {refusal} h end =
    let whole : whole_run file ≡ record { ledger = l; accepted = h.done; refusal = refusal } = h.so_far ∙ by_refusal (ℕ_discrete refusal 0) in
    (rw (whole, h.walks.sums, h.walks.n, h.walks.counted), (walk_fits h.walks, omega (arith, h.walks.n, h.walks.counted, h.passed, h.in_file), omega (arith, h.walks.n, (sound_is l h.walks.good).few)))
  where
    by_refusal : Dec (refusal ≡ 0) → whole_from refusal h.done l (drop at file) ≡ record { ledger = l; accepted = h.done; refusal = refusal }
    by_refusal (yes z) =
        let gone : records_of (drop at file) ≡ [] = no_records (drop at file) (simp length-drop (omega (arith, end z))) in
        simp (eq-eqb refusal 0 z) (rw (gone, run_ends, append-nil, z))
    by_refusal (no z) = simp (ne_eqb refusal 0 z)
