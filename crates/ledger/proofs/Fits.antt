-- An accepted record's numbers fit 64 bits, so its output record says them all.
use mathlib.Core.List.{List, ◌++◌}
use Prim.Native.Nat.{ℕ, ◌^◌, ◌<◌}
use native.Mathlib.Omega.{arith}
use Rattle.numbers.specs.Eight.{sum_of}
use Rattle.numbers.proofs.Eight.{sum_most}
use Rattle.record.specs.Fields.{factors_of}
use Rattle.figure.proofs.Laws.{figure_most, bound_small}
use Rattle.output.proofs.Laws.{Fits, Says, says}
use Rattle.carbon.specs.Carbon.{most_brought}
use Rattle.ledger.specs.Step.{brought_at, stock_at, release, after, x0_of}
use Rattle.ledger.specs.Take.{accepted_of, total_stock, output_record, output_fields}
use Rattle.ledger.specs.declared.book.Ledger.{Ledger}
use Rattle.ledger.proofs.Sound.{sound_is}
use Rattle.ledger.proofs.Accepted.{Accepted, new_small, stays_sound}

module _ (l : Ledger) (bytes : List ℕ) (a : Accepted l bytes) where
  pub answer_fits : Fits (output_fields (accepted_of l bytes))
  unfolding output_fields accepted_of x0_of total_stock
  answer_fits =
      let s = sound_is (after l bytes) (stays_sound l bytes a) in
      let x0 : sum_of (release l bytes) 8 < 2 ^ 64 = omega (arith, sum_most (release l bytes) most_brought 8 (λ t h. (new_small l bytes a t h).G)) in
      record {
        period = omega (arith, s.few);
        x0 = x0;
        figure = omega (arith, figure_most (factors_of bytes) (sum_of (release l bytes) 8) a.ranges);
        bound = bound_small (factors_of bytes) (after l bytes).n (brought_at (after l bytes)) a.ranges (omega (arith, s.few))
            (λ t h. omega (arith, (s.at t h).small));
        stock = omega (arith, sum_most (stock_at (after l bytes)) most_brought 8 (λ t h. let w = s.at t h in omega (arith, w.kept, w.small)));
      }

  pub output_says : (rest : List ℕ) → Says (output_fields (accepted_of l bytes)) (output_record (accepted_of l bytes) ++ rest)
  unfolding output_record
  output_says rest = says (output_fields (accepted_of l bytes)) answer_fits rest
