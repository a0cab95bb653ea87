-- Document 02, request d, 'Work out the correction factor from uncertainties': option 2 of source 000, its equations (3) and (4) and its
-- Table 3, which the request calls table 2.
use Rattle.std.specs.Prelude.{Bool, cond, not, ◌&&◌, ◌||◌, List, [], ◌∷◌, ℕ, zero, suc, ◌+◌, ◌-◌, ◌*◌, ◌≤◌, eqb, leb, Result, Ok, Err}
use Rattle.numbers.specs.Fault.{Fault, ◌when◌, first_of}
use Rattle.uncertainty.specs.declared.Uncertainties.{Uncertainties}
use Rattle.uncertainty.specs.declared.FactorRefusal.{FactorRefusal}
use Rattle.uncertainty.specs.declared.FactorRefusal.TheVariants.{PercentageTooLarge, UnknownCode}
use Rattle.uncertainty.specs.declared.Choice.{Choice}
use Rattle.uncertainty.specs.declared.Choice.TheVariants.{Lower, Higher}

-- What is entered for a, b, c, d, e, g.
abbrev pub entering : (a b c d e g : ℕ) → Uncertainties
entering a b c d e g = record { a = a; b = b; c = c; d = d; e = e; g = g }

-- 100 percent of each.
abbrev pub all_full : Uncertainties
all_full = entering 100 100 100 100 100 100

-- Each of six is at most the same of six others.
pub record AtMost (u u' : Uncertainties) : Type 0 where
  pub most_a : u.a ≤ u'.a
  pub most_b : u.b ≤ u'.b
  pub most_c : u.c ≤ u'.c
  pub most_d : u.d ≤ u'.d
  pub most_e : u.e ≤ u'.e
  pub most_g : u.g ≤ u'.g

-- 'six whole percentages a, b, c, d, e, g, each 0 to 100'
abbrev pub is_percentage : ℕ → Bool
is_percentage x = leb x 100

-- the six in a row
abbrev pub each_of : Uncertainties → List ℕ
each_of u = u.a ∷ u.b ∷ u.c ∷ u.d ∷ u.e ∷ u.g ∷ []

unfoldable pub are_percentages : Uncertainties → Bool
are_percentages u =
    is_percentage u.a && is_percentage u.b && is_percentage u.c && is_percentage u.d && is_percentage u.e && is_percentage u.g

-- 'let S be the sum of their squares'
unfoldable pub squares_of : Uncertainties → ℕ
squares_of u = u.a * u.a + u.b * u.b + u.c * u.c + u.d * u.d + u.e * u.e + u.g * u.g

-- S is at most six times the square of 100.
abbrev pub most_squares : ℕ
most_squares = 60000

-- 'p × p × S ≤ (10000 − 100p)²'; the difference is a true one, as p is at most 100.
unfoldable pub allows : (S p : ℕ) → Bool
allows S p = leb (p * p * S) ((10000 - 100 * p) * (10000 - 100 * p))

-- The greatest number up to a given one that passes a test, and 0 where none above 0 does.
abbrev pub greatest : (test : ℕ → Bool) (up_to : ℕ) → ℕ
greatest test zero = 0
greatest test (suc k) = cond (test (suc k)) (suc k) (greatest test k)

-- 'The factor is the greatest whole percentage p up to 100 with' that.
unfoldable pub factor_for : (S : ℕ) → ℕ
factor_for S = greatest (allows S) 100

-- 'Also offer a form in which c, d, e and g are chosen [..]: code 1 takes the lower value, 2 the higher,
abbrev pub is_code : ℕ → Bool
is_code code = eqb code 1 || eqb code 2

unfoldable pub are_codes : Uncertainties → Bool
are_codes u = is_code u.c && is_code u.d && is_code u.e && is_code u.g

abbrev pub chosen : (code lower higher : ℕ) → ℕ
chosen code lower higher = cond (eqb code 1) lower higher

-- from c 5 or 15, d 0 or 5, e 0 or 50, g 5 or 20;
unfoldable pub chosen_by : Uncertainties → Uncertainties
chosen_by u = entering u.a u.b (chosen u.c 5 15) (chosen u.d 0 5) (chosen u.e 0 50) (chosen u.g 5 20)

-- a and b are entered as percentages.'
abbrev pub both_entered : Uncertainties → Bool
both_entered u = is_percentage u.a && is_percentage u.b

-- 'Refusals: 18 an entered percentage over 100, 19 a code other than 1 and 2, in that order',
unfoldable pub percentage_faults : Uncertainties → List Fault
percentage_faults u = 18 when not (are_percentages u) ∷ []

unfoldable pub code_faults : Uncertainties → List Fault
code_faults u =
    18 when not (both_entered u)
    ∷ 19 when not (are_codes u)
    ∷ []

-- The choice that a code is.
abbrev pub choice_of : (code : ℕ) → Result Choice FactorRefusal
choice_of code = cond (eqb code 1) (Ok Lower) (cond (eqb code 2) (Ok Higher) (Err UnknownCode))

-- An answer in numbers: the refusal's, 0 if none, and the factor in percent, 0 if refused.
pub record ModelFactor : Type 0 where
  pub refusal : ℕ
  pub factor : ℕ

-- 'with factor 0'.
abbrev pub no_factor : (refusal : ℕ) → ModelFactor
no_factor refusal = record { refusal = refusal; factor = 0 }

-- The answer where there is no fault, and else its refusal.
abbrev pub unless : List Fault → ModelFactor → ModelFactor
unless faults answer = cond (eqb (first_of faults) 0) answer (no_factor (first_of faults))

unfoldable pub by_percentages : Uncertainties → ModelFactor
by_percentages u = unless (percentage_faults u) (record { refusal = 0; factor = factor_for (squares_of u) })

unfoldable pub by_codes : Uncertainties → ModelFactor
by_codes u = unless (code_faults u) (by_percentages (chosen_by u))

-- The number of each refusal, and the numbers of each case of the answer.
abbrev pub refusal_number : FactorRefusal → ℕ
refusal_number PercentageTooLarge = 18
refusal_number UnknownCode = 19

abbrev pub numbers_of : Result ℕ FactorRefusal → ModelFactor
numbers_of (Ok factor) = record { refusal = 0; factor = factor }
numbers_of (Err why) = no_factor (refusal_number why)
