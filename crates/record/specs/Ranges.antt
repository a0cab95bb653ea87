-- Document 01, 'One record', with request f of document 02: what is allowed, as 'Refusal numbers' 5, 8 and 9 test it.
use Rattle.std.specs.Prelude.{Bool, ◌&&◌, List, [], ◌∷◌, ℕ, eqb, leb}
use Rattle.numbers.specs.Eight.{all_of}
use Rattle.numbers.specs.Fault.{between}
use Rattle.waste.specs.Kind.{is_kind}
use Rattle.waste.specs.Waste.{mass_limit, most_dry, is_climate, is_class}
use Rattle.record.specs.Fields.{kind_of, climate_of, class_of, dry_of, zeros_of, mass_of}
use Rattle.record.specs.declared.factors.Factors.{Factors}

-- Kind, climate and class are codes, and bytes 14 and 15 are 0.
abbrev pub codes : List ℕ → List Bool
codes bytes =
    is_kind (kind_of bytes) ∷ is_climate (climate_of bytes) ∷ is_class (class_of bytes) ∷ eqb (zeros_of bytes) 0 ∷ []

unfoldable pub coded : List ℕ → Bool
coded bytes = all_of (codes bytes)

-- The correction factor, and the captured share.
abbrev pub is_factor : ℕ → Bool
is_factor factor = between 1 factor 100

abbrev pub is_share : ℕ → Bool
is_share captured = leb captured 10000

-- The factors, class aside, are within their ranges.
abbrev pub ranges : Factors → List Bool
ranges v =
    is_factor v.factor
    ∷ leb v.oxidation 100
    ∷ leb v.methane 100
    ∷ leb v.docf 100
    ∷ between 1 v.potential 100
    ∷ is_share v.captured
    ∷ []

unfoldable pub in_range : Factors → Bool
in_range v = all_of (ranges v)

-- m of both kinds of sludge is at most 100, whatever the mass.
unfoldable pub dry_in_range : List ℕ → Bool
dry_in_range bytes = leb (dry_of bytes 7) most_dry && leb (dry_of bytes 8) most_dry

-- The mass at place t is at most 10^9.
unfoldable pub light : List ℕ → (t : ℕ) → Bool
light bytes t = leb (mass_of bytes t) mass_limit
