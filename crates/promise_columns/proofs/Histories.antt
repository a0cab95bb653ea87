-- The first engine's history beside its run: where no record is refused, the run's accepted turns are the whole history.
use mathlib.Core.Path.{◌≡◌, refl, sym, ap, ◌∙◌}
use mathlib.Core.List.{List, [], ◌∷◌}
use Prim.Native.Nat.{ℕ, ◌+◌, ◌*◌, ◌≤◌}
use native.Mathlib.Decide.{ℕ_discrete}
use native.Mathlib.Omega.{arith}
use borrow.Author.Tests.{eq-eqb, ne_eqb}
use lib.ListN.{length, get_or}
use Rattle.numbers.specs.Eight.{sum_of}
use Rattle.numbers.specs.Lists.{Each}
use Rattle.numbers.proofs.Fault.{first_up_to}
use Rattle.record.specs.Fields.{record_bytes, factors_of}
use Rattle.figure.specs.Figure.{figure_of}
use Rattle.refusal.specs.Refusal.{faults_of}
use Rattle.ledger.specs.Step.{fresh, x0_of}
use Rattle.ledger.specs.Refusal.{sound, refusal_of}
use Rattle.ledger.specs.Take.{accepted_of, take_of}
use Rattle.ledger.specs.declared.book.Ledger.{Ledger}
use Rattle.ledger.proofs.Take.{taken, take_refusal}
use Rattle.run.specs.History.{Offer, Turn, turn_of, turns, ledger_after, AllAccepted, ending, records_of, in_turn, whole_run, run_of}
use Rattle.run.proofs.History.{none_refused, none_ending}
use Rattle.promise_columns.specs.Sheets.{history, NoneRefused}

module _ (file : List ℕ) where
  pub none_then : (whole_run file).refusal ≡ 0 → NoneRefused file
  unfolding whole_run run_of
  none_then e = (none_refused (history file) e).0

  pub none_if : NoneRefused file → (whole_run file).refusal ≡ 0
  unfolding whole_run run_of
  none_if e = none_ending (history file) e

  pub accepted_all : (whole_run file).refusal ≡ 0 → (whole_run file).accepted ≡ history file
  unfolding whole_run run_of
  accepted_all e = (none_refused (history file) e).1

  pub ledger_end : (whole_run file).refusal ≡ 0 → (whole_run file).ledger ≡ ledger_after fresh (history file)
  unfolding whole_run run_of
  ledger_end e = ap (ledger_after fresh) (none_refused (history file) e).1

-- No refusal of a record is above 17, so none is 26.
refusal_most : (l : Ledger) (bytes : List ℕ) (room : ℕ) → refusal_of l bytes room ≤ 17
unfolding refusal_of faults_of
refusal_most l bytes room = first_up_to 17 (faults_of (sound l) l.n l.kind l.climate l.year bytes room) refl

ending_most : (l : Ledger) (offers : List Offer) → ending (turns l offers) ≤ 17
unfolding ending turns
ending_most l [] = omega arith
ending_most l (offer ∷ rest) =
    let q = (take_of l offer.bytes offer.room).refusal in
    elim (ℕ_discrete q 0) [
      | yes z ↦ simp (eq-eqb q 0 z) (ending_most (take_of l offer.bytes offer.room).ledger rest)
      | no z ↦ simp (ne_eqb q 0 z) (omega (arith, take_refusal l offer.bytes offer.room, refusal_most l offer.bytes offer.room))
    ]

pub run_most_17 : (file : List ℕ) → (whole_run file).refusal ≤ 17
unfolding whole_run run_of
run_most_17 file = ending_most fresh (in_turn (records_of file) (record_bytes * length (records_of file)))

-- The figure of an accepted record comes from its eight releases added.
abbrev pub FromReleases : ℕ → Turn → Type 0
FromReleases i turn = turn.answer.figure ≡ figure_of (factors_of turn.bytes) (sum_of (λ t. get_or turn.answer.releases t 0) 8)

figure_added : (l : Ledger) (bytes : List ℕ) → (accepted_of l bytes).figure ≡ figure_of (factors_of bytes) (sum_of (λ t. get_or (accepted_of l bytes).releases t 0) 8)
unfolding accepted_of x0_of
figure_added l bytes = refl

figures_added : (i : ℕ) (l : Ledger) (offers : List Offer) → AllAccepted (turns l offers) → Each FromReleases i (turns l offers)
unfolding turns
figures_added i l [] e = tt
figures_added i l (offer ∷ rest) e =
    let ok : refusal_of l offer.bytes offer.room ≡ 0 = sym (take_refusal l offer.bytes offer.room) ∙ e.0 in
    let first : FromReleases i (turn_of l offer) = rw (taken l offer.bytes offer.room ok) (figure_added l offer.bytes) in
    (first, figures_added (i + 1) (turn_of l offer).answer.ledger rest e.1)

pub history_added : (file : List ℕ) → NoneRefused file → Each FromReleases 0 (history file)
history_added file e = figures_added 0 fresh (in_turn (records_of file) (record_bytes * length (records_of file))) e
