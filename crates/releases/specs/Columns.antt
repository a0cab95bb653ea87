-- The columns of the eight types that a call is lent in one value.
use Rattle.std.specs.Prelude.{List, [], ◌∷◌, ℕ}
use Rattle.std.specs.Borrow.{GName}
use Rattle.releases.specs.declared.type_columns.TypeColumns.{TypeColumns}

-- What they contain, that of type 1 first,
abbrev pub contents : TypeColumns → List (List ℕ)
contents c =
    c.wood.now ∷ c.paper.now ∷ c.food.now ∷ c.textiles.now ∷ c.garden.now ∷ c.inert.now ∷ c.domestic.now ∷ c.industrial.now ∷ []

-- and which references they are: whoever lent the columns has what was written there, where these stay.
abbrev pub references : TypeColumns → List GName
references c =
    c.wood.ghost_name ∷ c.paper.ghost_name ∷ c.food.ghost_name ∷ c.textiles.ghost_name ∷ c.garden.ghost_name ∷ c.inert.ghost_name ∷ c.domestic.ghost_name ∷ c.industrial.ghost_name ∷ []
