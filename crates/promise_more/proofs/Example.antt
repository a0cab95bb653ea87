-- The worked example, by computing the definitions.
use mathlib.Core.Path.{◌≡◌, refl, sym, ap, ◌∙◌}
use mathlib.Core.Bool.{true}
use mathlib.Core.List.{List, [], ◌∷◌}
use Prim.Native.Nat.{ℕ}
use native.Mathlib.Omega.{arith}
use borrow.Author.Tests.{leb-true}
use lib.Dec.{leb}
use lib.ListN.{length, get_or, take}
use lib.Seq.{get_or-take}
use Rattle.numbers.specs.Eight.{every_of}
use Rattle.numbers.proofs.Eight.{every_at}
use Rattle.numbers.specs.Fraction.{power, total}
use Rattle.decay.specs.Series.{factorial, term, E, rounded_down, entry_of}
use Rattle.waste.specs.Waste.{carbon_of, rate_of, correction_of}
use Rattle.record.specs.Fields
use Rattle.record.specs.Ranges
use Rattle.carbon.specs.Carbon
use Rattle.year_factors.specs.YearFactors
use Rattle.figure.specs.Figure
use Rattle.refusal.specs.Refusal.{continues, faults_of}
use Rattle.ledger.specs.Refusal
use Rattle.ledger.specs.Step
use Rattle.ledger.specs.Take.{accepted_of, refused_of, take_of}
use Rattle.run.specs.History.{turns, ledger_after, leading, ending, cut, records_of, in_turn, run_of, whole_run}
use Rattle.reductions.specs.Year
use Rattle.reductions.specs.Stretch
use Rattle.tunisia.specs.Years
use Rattle.tunisia.specs.Reduction.{answer_over, no_answer, reduction_of}
use Rattle.promise_more.specs.More.{MoreWaste, InFiles}
use Rattle.promise_more.specs.Example.{food_record, food_file, figures_of, second_year, answered_with}

-- More waste, by tests.
by_tests : (one other : List ℕ) → length one ≡ length other → take 16 one ≡ take 16 other
    → every_of (λ t. leb (Fields.mass_of one t) (Fields.mass_of other t)) 8 ≡ true → MoreWaste one other
by_tests one other size same tests =
    record {
      equal = record {
        same_length = omega (arith, size);
        same_byte = λ i h. sym (get_or-take 16 one i 0 (omega arith)) ∙ ap (λ (bytes : List ℕ). get_or bytes i 0) same ∙ get_or-take 16 other i 0 (omega arith);
      };
      more = λ t place. leb-true _ _ (every_at (λ t. leb (Fields.mass_of one t) (Fields.mass_of other t)) 8 t (omega arith) tests);
    }

pub more_food : InFiles MoreWaste (food_file 0) (food_file 26) × InFiles MoreWaste (food_file 26) (food_file 27)
unfolding records_of cut food_file food_record Fields.mass_of
more_food = (
  (by_tests _ _ refl refl refl, (by_tests _ _ refl refl refl, tt)),
  (by_tests _ _ refl refl refl, (by_tests _ _ refl refl refl, tt)),
)

-- The figures by a run, and the reductions of year 2.
pub computed : ((figures_of (food_file 26) ≡ 3 ∷ 2 ∷ []) × (figures_of (food_file 27) ≡ 4 ∷ 2 ∷ []))
    × ((second_year 0 ≡ answered_with 0 0 0) × (second_year 26 ≡ answered_with 2 1 1) × (second_year 27 ≡ answered_with 2 2 0))
unfolding food_file food_record records_of cut leading ending in_turn turns ledger_after run_of whole_run power total factorial term E rounded_down entry_of carbon_of rate_of correction_of Fields.factors_of Fields.dry_of Fields.zeros_of Fields.mass_of Fields.deposit_of Ranges.coded Ranges.in_range Ranges.dry_in_range Ranges.light Carbon.entry_at Carbon.left_of Carbon.ceiling_of Carbon.within_of Step.fresh Step.new_brought Step.held Step.new_stock Step.release Step.new_released Step.x0_of Step.after YearFactors.year_of YearFactors.no_year YearFactors.shares YearFactors.remembered YearFactors.sound_year Figure.x1_of Figure.x2_of Figure.grams_of Figure.figure_of Figure.margin_of Figure.b_of Figure.bound_of continues faults_of Refusal.empty_at Refusal.all_zero Refusal.within_at Refusal.in_order Refusal.sound accepted_of refused_of Refusal.refusal_of take_of Year.in_class Year.reference_of Year.project_of Year.project_bound Year.reference_bound Year.bounds_of Year.stretch_of Stretch.grams_light Stretch.is_stretch Stretch.stretch_refusal Stretch.less_all Years.refusal_by_year Years.turn_by_year Years.turns_by_year Years.accepted_years Years.refusal_after Years.counted_year Years.years_from Years.years_of answer_over no_answer reduction_of
computed = ((refl, refl), (refl, refl, refl))
