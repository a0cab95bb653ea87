-- Request e of document 02: each monthly entry worked out from the series when it is looked up, in whole numbers. That what comes out is the
-- entry of 'The decay table' is a law (`worked_out` in proofs/ByMonth.antt), so that this file serves the look-up's own code alone.
use Rattle.std.specs.Prelude.{List, ℕ, zero, suc, ◌-◌, ◌*◌, ◌/◌, ◌^◌, set, replicate}
use Rattle.waste.specs.Kind.{monthly}
use Rattle.decay.specs.Series.{entry_of}

-- The whole is taken as 10^16: 10^9 billionths, each 10^7.
abbrev pub per_billionth : ℕ
per_billionth = 10 ^ 7

abbrev pub scale : ℕ
scale = 10 ^ 9 * per_billionth

-- E(n) is 1 − x/1 × (1 − x/2 × (.. × (1 − x/n))), with x = rate / 12000. The bracket of n: the whole less the quotient of what the bracket
-- within it left, rounded down.
unfoldable pub bracket_of : (rate n left : ℕ) → ℕ
bracket_of rate n left = scale - left * rate / (12000 * n)

-- The brackets of n, n − 1, .., 1, from the innermost outwards.
unfoldable pub outwards : (rate n left : ℕ) → ℕ
outwards rate zero left = left
outwards rate (suc n) left = outwards rate n (bracket_of rate (suc n) left)

-- What a month leaves of the whole, by E(5).
abbrev pub terms : ℕ
terms = 5

unfoldable pub left_after_month : ℕ → ℕ
left_after_month rate = outwards rate terms scale

-- A table by month as it is filled in: the entries of the rates 1 to k, and 0 for the others as yet.
unfoldable pub filled_to : ℕ → List ℕ
filled_to zero = replicate 400 0
filled_to (suc k) = set (filled_to k) k (entry_of monthly (suc k))
