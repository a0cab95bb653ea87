-- Document 01, 'One record', byte 2: the kinds, 1 yearly and 2 monthly. Everything that goes by year and by month names them from here.
use Rattle.std.specs.Prelude.{Bool, ◌||◌, ℕ, eqb}
use Rattle.waste.specs.declared.Kind.{Kind}
use Rattle.waste.specs.declared.Kind.TheVariants.{Yearly, Monthly}

abbrev pub yearly : ℕ
yearly = 1

abbrev pub monthly : ℕ
monthly = 2

abbrev pub is_kind : ℕ → Bool
is_kind kind = eqb kind yearly || eqb kind monthly

abbrev pub is_yearly : ℕ → Bool
is_yearly kind = eqb kind yearly

abbrev pub is_monthly : ℕ → Bool
is_monthly kind = eqb kind monthly

abbrev pub code_of : Kind → ℕ
code_of Yearly = yearly
code_of Monthly = monthly
