-- The numbers of document 02 in the answer over a stretch.
use Rattle.std.specs.Prelude.{Result, Ok, Err, ℕ, pos}
use Rattle.refusal.specs.Numbers.{numbered}
use Rattle.reductions.specs.Refusal.{number_of}
use Rattle.reductions.specs.declared.grams.StretchRefusal.{StretchRefusal}
use Rattle.tunisia.specs.Reduction.{Reduction}
use Rattle.tunisia.specs.declared.Amounts.{Amounts}
use Rattle.tunisia.specs.declared.YearsReport.{YearsReport}

-- Refused, all four answers are 0.
abbrev pub with_amounts : Result Amounts StretchRefusal → (years refused : ℕ) → Reduction
with_amounts (Ok all) years refused =
    record {
      refusal = 0;
      reference = all.reference;
      project = all.project;
      reduction = all.reduction;
      bound = all.bound;
      years = years;
      refused = refused;
    }
with_amounts (Err why) years refused =
    record { refusal = number_of why; reference = 0; project = 0; reduction = pos 0; bound = 0; years = years; refused = refused }

abbrev pub numbers_of : YearsReport → Reduction
numbers_of report = with_amounts report.amounts report.years (numbered report.refused)
