-- Document 02, request k, 'in the mode of i), for reference and project figures separately': two files, year by year and over a stretch.
use Rattle.std.specs.Prelude.{◌≡◌, ◌≤◌}
use Rattle.reductions.specs.Year.{Year, reference_of, project_of, reference_bound, project_bound}
use Rattle.tunisia.specs.Reduction.{Reduction}
use Rattle.promise_tunisia.specs.Reported.{StretchOfYears}

-- One year of each file: reference, project and both bounds.
pub record YearNoLess (first second : Year) : Type 0 where
  pub same_number : first.number ≡ second.number
  pub reference : reference_of first ≤ reference_of second
  pub project : project_of first ≤ project_of second
  pub reference_bound_lem : reference_bound first ≤ reference_bound second
  pub project_bound_lem : project_bound first ≤ project_bound second

-- The answers over a stretch; nothing is said of the reductions.
pub record StretchNoLess (first second : Reduction) : Type 0 where
  pub reference : first.reference ≤ second.reference
  pub project : first.project ≤ second.project
  pub bound : first.bound ≤ second.bound

-- The same years of two files, with any grams.
pub record SameYears (first second : StretchOfYears) : Type 0 where
  pub same_first : first.first ≡ second.first
  pub same_last : first.last ≡ second.last
