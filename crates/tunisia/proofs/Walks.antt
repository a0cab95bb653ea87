-- The code's walk over accepted records, beside the definitions: after each record it has the year's x0 and T, and the sums of the years.
use mathlib.Core.Path.{◌≡◌, refl, sym, ap, ◌∙◌}
use mathlib.Core.Bool.{Bool, true, false, cond}
use mathlib.Core.List.{List, [], ◌∷◌, ◌++◌}
use Prim.Native.Nat.{ℕ, ◌+◌, ◌*◌, ◌^◌, ◌≤◌}
use native.Mathlib.Omega.{arith}
use lib.ListN.{length}
use Rattle.numbers.specs.Fault.{between}
use Rattle.numbers.proofs.Lists.{length_more}
use Rattle.record.specs.Ranges.{in_range}
use Rattle.figure.proofs.Laws.{b_of_most}
use Rattle.ledger.specs.Step.{fresh, brought_at, new_brought, x0_of, after}
use Rattle.ledger.specs.Refusal.{sound, refusal_of}
use Rattle.ledger.specs.Take.{accepted_of, total_released}
use Rattle.ledger.specs.declared.book.Ledger.{Ledger}
use Rattle.ledger.proofs.Accepted.{Accepted, accepted_meets, fresh_sound, stays_sound, new_small}
use Rattle.ledger.proofs.Sound.{sound_is, released_most}
use Rattle.ledger.proofs.Step.{released_grows}
use Rattle.run.specs.History.{Turn}
use Rattle.run.proofs.History.{accepted_turn}
use Rattle.reductions.specs.Year.{Year, stretch_of, sums_of, with_year}
use Rattle.reductions.proofs.Years.{stretch_more, sums_more, reference_most, project_most, bounds_most, apart_most}
use Rattle.tunisia.specs.Years.{counted_year, years_from, years_of}
use Rattle.tunisia.specs.Walk.{next_year, walked_on, none_walked, Ready, SumsFit}
use Rattle.tunisia.specs.declared.year.Walked.{Walked}

-- x0 of the last of some records
abbrev pub last_x0 : (x0 : ℕ) → List Turn → ℕ
last_x0 x0 [] = x0
last_x0 x0 (turn ∷ rest) = last_x0 turn.answer.x0 rest

-- One record more has one year more.
pub years_more : (x0 : ℕ) (done : List Turn) (turn : Turn) → years_from x0 (done ++ (turn ∷ [])) ≡ years_from x0 done ++ (counted_year (last_x0 x0 done) turn ∷ [])
unfolding years_from
years_more x0 [] turn = refl
years_more x0 (one ∷ done) turn = ap (λ (ys : List Year). counted_year x0 one ∷ ys) (years_more one.answer.x0 done turn)

pub last_more : (x0 : ℕ) (done : List Turn) (turn : Turn) → last_x0 x0 (done ++ (turn ∷ [])) ≡ turn.answer.x0
last_more x0 [] turn = refl
last_more x0 (one ∷ done) turn = last_more one.answer.x0 done turn

-- What the walk has after some accepted records from a fresh ledger, which is l by then.
pub record Walks (first last : ℕ) (done : List Turn) (l : Ledger) (w : Walked) : Type 0 where
  pub good : sound l ≡ true
  pub n : w.n ≡ l.n
  pub counted : l.n ≡ length done
  pub T : w.brought ≡ l.brought
  pub x0 : w.x0 ≡ last_x0 0 done
  pub sums : w.sums ≡ sums_of (stretch_of first last (years_of done))
  pub reference : w.sums.reference + w.sums.reference + w.x0 ≤ total_released l
  pub project : w.sums.project + w.sums.project + w.x0 ≤ total_released l
  pub apart : 1500 * w.sums.reference + 46 * w.x0 ≤ 1500 * w.sums.project + 46 * total_released l + 1500 * w.n
  pub bound : w.sums.bound ≤ w.n * 2 ^ 44

pub walk_starts : (first last : ℕ) → Walks first last [] fresh none_walked
unfolding fresh none_walked sums_of stretch_of years_of years_from total_released
walk_starts first last =
    record {
      good = fresh_sound;
      n = refl;
      counted = refl;
      T = refl;
      x0 = refl;
      sums = refl;
      reference = omega arith;
      project = omega arith;
      apart = omega arith;
      bound = omega arith;
    }

-- The sums are small at the end.
pub walk_fits : {first last : ℕ} {done : List Turn} {l : Ledger} {w : Walked} → Walks first last done l w → SumsFit w.sums
walk_fits {l = l} h =
    let released = released_most l h.good in
    (omega (arith, h.reference, released), omega (arith, h.project, released), omega (arith, h.apart, h.n, released, (sound_is l h.good).few))

-- An accepted record more.
module _ {first last : ℕ} {done : List Turn} {l : Ledger} {w : Walked} (h : Walks first last done l w) (bytes : List ℕ) (room : ℕ) (e : refusal_of l bytes room ≡ 0) where
  a : Accepted l bytes
  a = accepted_meets l bytes room e

  pub ready : Ready w bytes
  unfolding new_brought
  ready =
      record {
        few = rw h.n a.more;
        ranges = a.ranges;
        brings = λ t place. rw h.T (new_small l bytes a t place).T;
        reference = omega (arith, h.reference, released_most l h.good);
        project = omega (arith, h.project, released_most l h.good);
        bound = h.bound;
      }

  abbrev year : Year
  year = next_year w bytes

  year_is : counted_year (last_x0 0 done) (accepted_turn l bytes) ≡ year
  unfolding counted_year next_year
  year_is = rw (h.n, h.T, h.x0)

  abbrev test : Bool
  test = between first (w.n + 1) last

  sums_on : cond test (with_year w.sums year) w.sums ≡ sums_of (stretch_of first last (years_of (done ++ (accepted_turn l bytes ∷ []))))
  unfolding years_of next_year
  sums_on =
      rw h.sums
      (sym (ap (λ (ys : List Year). sums_of (stretch_of first last ys)) (years_more 0 done (accepted_turn l bytes) ∙ rw year_is)
      ∙ ap sums_of (stretch_more first last (years_of done) year)
      ∙ sums_more test (stretch_of first last (years_of done)) year))

  ranges : in_range year.factors ≡ true
  unfolding next_year
  ranges = a.ranges

  b_small : year.B ≤ 2 ^ 43
  unfolding next_year
  b_small = rw (h.n, h.T) (b_of_most l.n (brought_at l) (sound_is l h.good).few (λ t place. ((sound_is l h.good).at t place).small))

  -- with or without the year
  by_test : (b : Bool) → let sums = cond b (with_year w.sums year) w.sums in
      (sums.reference + sums.reference ≤ total_released l)
      × (sums.project + sums.project ≤ total_released l)
      × (1500 * sums.reference ≤ 1500 * sums.project + 46 * total_released l + 1500 * w.n + 1500)
      × (sums.bound ≤ w.n * 2 ^ 44 + 2 ^ 44)
  unfolding with_year next_year
  by_test true = (
    omega (arith, h.reference, reference_most year ranges),
    omega (arith, h.project, project_most year ranges),
    omega (arith, h.apart, apart_most year ranges),
    omega (arith, h.bound, bounds_most year ranges, b_small),
  )
  by_test false = (omega (arith, h.reference), omega (arith, h.project), omega (arith, h.apart), omega (arith, h.bound))

  pub walks_on : Walks first last (done ++ (accepted_turn l bytes ∷ [])) (accepted_of l bytes).ledger (walked_on first last w bytes (x0_of l bytes))
  unfolding accepted_of walked_on after new_brought
  walks_on =
      let grown = released_grows l bytes in
      let small = by_test test in
      record {
        good = stays_sound l bytes a;
        n = rw h.n;
        counted = omega (arith, h.counted, length_more done (accepted_turn l bytes));
        T = rw h.T;
        x0 = sym (last_more 0 done (accepted_turn l bytes));
        sums = sums_on;
        reference = omega (arith, small.0, grown);
        project = omega (arith, small.1, grown);
        apart = omega (arith, small.2, grown);
        bound = omega (arith, small.3);
      }
