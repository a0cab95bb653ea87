-- Document 02, request i: the refusals of a stretch of years with its grams of electricity and fuel, and its reduction.
use Rattle.std.specs.Prelude.{Bool, true, not, ◌&&◌, List, [], ◌∷◌, ℕ, ◌+◌, ◌-◌, ◌^◌, eqb, leb, ℤ, pos, ◌-ℤ◌, length}
use Rattle.numbers.specs.Fault.{Fault, ◌when◌, first_of}
use Rattle.numbers.specs.Lists.{added}

-- 'entered electricity and fuel grams (each at most 10^15 a year)'
abbrev pub most_grams : ℕ
most_grams = 10 ^ 15

unfoldable pub grams_light : List ℕ → Bool
grams_light [] = true
grams_light (grams ∷ rest) = leb grams most_grams && grams_light rest

abbrev pub all_grams : List ℕ → ℕ
all_grams grams = added (λ g. g) grams

-- The years are some, they are within the accepted ones, and there is one entry of each kind of grams for each of them.
unfoldable pub is_stretch : (first last years electricity fuel : ℕ) → Bool
is_stretch first last years electricity fuel =
    leb 1 first && leb first last && leb last years && (eqb electricity (last + 1 - first) && eqb fuel (last + 1 - first))

-- 'for a stretch 24 where it is empty, not within the accepted years or without one entry of each kind of grams for each year, then 25 grams
-- over the limit'
abbrev pub stretch_faults : (first last years : ℕ) → (electricity fuel : List ℕ) → List Fault
stretch_faults first last years electricity fuel =
    24 when not (is_stretch first last years (length electricity) (length fuel))
    ∷ 25 when not (grams_light electricity && grams_light fuel)
    ∷ []

unfoldable pub stretch_refusal : (first last years : ℕ) → (electricity fuel : List ℕ) → ℕ
stretch_refusal first last years electricity fuel = first_of (stretch_faults first last years electricity fuel)

-- 'Reference less project less entered electricity and fuel grams [..] is the reduction, below zero where the project does worse'
unfoldable pub less_all : (reference project electricity fuel : ℕ) → ℤ
less_all reference project electricity fuel = pos reference -ℤ pos project -ℤ pos electricity -ℤ pos fuel
