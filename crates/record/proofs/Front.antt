-- Bytes 0 to 11 of a record say its period, kind, climate and factors: two records that have the same bytes there say the same.
use mathlib.Core.Path.{◌≡◌}
use mathlib.Core.List.{List}
use Prim.Native.Nat.{ℕ, ◌<◌}
use lib.Dec.{lit<}
use lib.ListN.{get_or}
use Rattle.record.specs.Fields.{period_of, factors_of, zeros_of}
use Rattle.record.specs.Ranges.{coded}

abbrev pub SameFront : (one other : List ℕ) → Type 0
SameFront one other = (i : ℕ) → i < 12 → get_or one i 0 ≡ get_or other i 0

module _ (one other : List ℕ) (byte : SameFront one other) where
  pub same_period : period_of one ≡ period_of other
  same_period = rw (byte 0 (lit< tt), byte 1 (lit< tt))

  pub same_factors : factors_of one ≡ factors_of other
  unfolding factors_of
  same_factors = rw (byte 4 (lit< tt), byte 5 (lit< tt), byte 6 (lit< tt), byte 7 (lit< tt), byte 8 (lit< tt), byte 9 (lit< tt), byte 10 (lit< tt), byte 11 (lit< tt))

  pub same_codes : zeros_of one ≡ zeros_of other → coded one ≡ coded other
  unfolding coded
  same_codes zeros = rw (byte 2 (lit< tt), byte 3 (lit< tt), byte 8 (lit< tt), zeros)
