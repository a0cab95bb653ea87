-- Document 02, request g, 'Put the shuffled files right': an order of the eight types, 'eight bytes that say for each place which type
-- stood there'.
use Rattle.std.specs.Prelude.{Bool, cond, ◌&&◌, List, [], ◌∷◌, ℕ, suc, ◌+◌, ◌*◌, ◌^◌, eqb, ltb, length}
use Rattle.numbers.specs.Eight.{one, sum_of, every_of}
use Rattle.numbers.specs.Lists.{added}

-- The number whose bit k, from 0 to 7, is set exactly where the test holds of k.
unfoldable pub eight_bits : (ℕ → Bool) → ℕ
eight_bits test = sum_of (λ k. one (test k) * 2 ^ k) 8

-- How often a type is named.
unfoldable pub times_named : (order : List ℕ) (waste : ℕ) → ℕ
times_named order waste = added (λ byte. one (eqb byte waste)) order

-- 'Each of the types 1 to 8 must be named once.'
unfoldable pub is_order : List ℕ → Bool
is_order order = eqb (length order) 8 && every_of (λ k. eqb (times_named order (k + 1)) 1) 8

-- Document 01, 'eight-bit set of types seen': bit t − 1 is set exactly where type t is named.
unfoldable pub types_seen : List ℕ → ℕ
types_seen order = eight_bits (λ k. ltb 0 (times_named order (k + 1)))

-- The place, from 0 on, where a type is named.
unfoldable pub place_of : (order : List ℕ) (waste : ℕ) → ℕ
place_of [] waste = 0
place_of (byte ∷ rest) waste = cond (eqb byte waste) 0 (suc (place_of rest waste))
