-- Document 01, 'One step' and refusal 3: one type by its place, once over the kind. Place t has type t + 1; all carbon is in whole
-- milligrams.
use Rattle.std.specs.Prelude.{ℕ, ◌+◌, ◌*◌, ◌/◌, ◌^◌, Bool, ◌&&◌, ◌==◌, nat_le}
use Rattle.decay.specs.Series.{entry_of}
use Rattle.waste.specs.Waste.{mass_limit, most_carbon_of, rate_of}
use Rattle.record.specs.Fields.{most_deposit}

-- At most 1200 records.
abbrev pub most_records : ℕ
most_records = 1200

-- The most that T of one type can be.
abbrev pub most_brought : ℕ
most_brought = most_records * most_deposit

-- D, the table entry for the type's rate in a kind and climate.
unfoldable pub entry_at : (kind climate t : ℕ) → ℕ
entry_at kind climate t = entry_of kind (rate_of (t + 1) climate)

-- R becomes H × D / 10^9 rounded down.
unfoldable pub left_of : (H D : ℕ) → ℕ
left_of H D = H * D / 10 ^ 9

-- T is at most n × 10^9 × DOC × 100, by request f of document 02 with DOC 5000 and 2571 for types 7 and 8, and R at most T; by request b
-- released plus R is T.
unfoldable pub ceiling_of : (n t : ℕ) → ℕ
ceiling_of n t = n * mass_limit * most_carbon_of (t + 1) * 100

unfoldable pub within_of : (n T R released t : ℕ) → Bool
within_of n T R released t = nat_le T (ceiling_of n t) && nat_le R T && released + R == T
