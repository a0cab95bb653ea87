-- The numbers of document 02 for the refusals of a stretch.
use Rattle.std.specs.Prelude.{ℕ, Result, Ok, Err}
use Rattle.reductions.specs.declared.grams.StretchRefusal.{StretchRefusal}
use Rattle.reductions.specs.declared.grams.StretchRefusal.TheVariants.{NotWithin, OverLimit}

abbrev pub number_of : StretchRefusal → ℕ
number_of NotWithin = 24
number_of OverLimit = 25

-- 0 if not refused.
abbrev pub refusal_number : Result Unit StretchRefusal → ℕ
refusal_number (Ok _) = 0
refusal_number (Err why) = number_of why
