-- The numbers of what is taken from the accepted years of a file; no public contract says it.
use Rattle.refusal.specs.Numbers.{numbered}
use Rattle.tunisia.specs.Walk.{YearsTaken}
use Rattle.tunisia.specs.declared.accepted.Taken.{Taken}

abbrev pub taken_numbers : Taken → YearsTaken
taken_numbers taken = record { sums = taken.sums; years = taken.years; refused = numbered taken.refused }
