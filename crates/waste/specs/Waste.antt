-- Document 01, 'Waste types and their constants', with request f of document 02. The lists stand in the order of the fixed numbers, which
-- saved files hold: never sort them, and never let them follow the names in any language.
use Rattle.std.specs.Prelude.{Bool, cond, List, [], ◌∷◌, ℕ, ◌+◌, ◌*◌, ◌/◌, ◌^◌, eqb, get_or, replicate}
use Rattle.numbers.specs.Fault.{between}

-- Entry number k of a list, counted from 1, and 0 where there is none.
abbrev pub numbered : List ℕ → ℕ → ℕ
numbered xs k = get_or (0 ∷ xs) k 0

-- Request f: DOC of sludge with m percent of organic dry matter, rounded down; m of 0 keeps the default.
abbrev pub domestic_of : (m : ℕ) → ℕ
domestic_of m = cond (eqb m 0) 500 (50 * m)

abbrev pub industrial_of : (m : ℕ) → ℕ
industrial_of m = cond (eqb m 0) 900 (900 * m / 35)

-- DOC of types 1 to 8, in hundredths of a percent of wet weight; m is that of the type asked for.
abbrev pub carbons : (m : ℕ) → List ℕ
carbons m = 4300 ∷ 4000 ∷ 1500 ∷ 2400 ∷ 2000 ∷ 0 ∷ domestic_of m ∷ industrial_of m ∷ []

unfoldable pub carbon_of : (waste m : ℕ) → ℕ
carbon_of waste m = numbered (carbons m) waste

-- m is a percentage.
abbrev pub most_dry : ℕ
most_dry = 100

-- The most that DOC of a type can be: 5000 and 2571 for types 7 and 8.
abbrev pub most_carbon_of : (waste : ℕ) → ℕ
most_carbon_of waste = carbon_of waste most_dry

-- No type has more than dry domestic sludge.
abbrev pub most_carbon : ℕ
most_carbon = 5000

-- The most of one type that a record or a cell can bring, and the largest total that samples part, in kilograms.
abbrev pub mass_limit : ℕ
mass_limit = 10 ^ 9

-- The climates by code: 1 boreal or temperate dry, 2 boreal or temperate wet, 3 tropical dry, 4 tropical wet.
abbrev pub climates : ℕ
climates = 4

abbrev pub is_climate : ℕ → Bool
is_climate climate = between 1 climate climates

-- Yearly rates in thousandths, by climate code.
abbrev pub group_a : List ℕ
group_a = 40 ∷ 60 ∷ 45 ∷ 70 ∷ []

abbrev pub group_b : List ℕ
group_b = 20 ∷ 30 ∷ 25 ∷ 35 ∷ []

abbrev pub group_c : List ℕ
group_c = 50 ∷ 100 ∷ 65 ∷ 170 ∷ []

abbrev pub group_d : List ℕ
group_d = 60 ∷ 185 ∷ 85 ∷ 400 ∷ []

-- Pulp and paper industry sludge: 30 in every climate.
abbrev pub alike : List ℕ
alike = replicate climates 30

-- No rate: inert waste, and whatever is no type.
abbrev pub none : List ℕ
none = replicate climates 0

-- The rate group of types 1 to 8.
abbrev pub group_of : ℕ → List ℕ
group_of waste = get_or (none ∷ group_b ∷ group_a ∷ group_d ∷ group_a ∷ group_c ∷ none ∷ group_d ∷ alike ∷ []) waste none

-- 'Type 6 has no rate', and no carbon: place t, which has type t + 1, is that of inert waste.
abbrev pub inert : (t : ℕ) → Bool
inert t = eqb (t + 1) 6

-- The rate of a type in a climate, and 0 where there is none.
unfoldable pub rate_of : (waste climate : ℕ) → ℕ
rate_of waste climate = numbered (group_of waste) climate

-- The site classes by code: 1 anaerobic managed, 2 semi-aerobic managed, 3 unmanaged deep, 4 unmanaged shallow or stockpile.
abbrev pub classes : ℕ
classes = 4

abbrev pub is_class : ℕ → Bool
is_class class = between 1 class classes

-- The methane correction factor in percent, by site class.
abbrev pub corrections : List ℕ
corrections = 100 ∷ 50 ∷ 80 ∷ 40 ∷ []

unfoldable pub correction_of : (class : ℕ) → ℕ
correction_of class = numbered corrections class
