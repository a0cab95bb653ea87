-- Document 02, request k, 'More waste never shows less gas': the two runs, and what in the second is at least that in the first. Place t has
-- type t + 1.
use Rattle.std.specs.Prelude.{◌≡◌, List, [], ◌∷◌, ℕ, ◌^◌, ◌≤◌, ◌<◌, length, get_or}
use Rattle.record.specs.Fields.{record_bytes, mass_of}
use Rattle.ledger.specs.Step.{brought_at, stock_at, released_at}
use Rattle.ledger.specs.Take.{total_stock, total_brought}
use Rattle.ledger.specs.Answer.{Answer}
use Rattle.run.specs.History.{Offer, Turn, records_of}

-- 'equal records but for masses': the bytes before the masses, 0 to 15, are the same, so the dry matter of sludge is, bytes 12 and 13.
pub record EqualButMasses (first second : List ℕ) : Type 0 where
  pub same_length : length first ≡ length second
  pub same_byte : (i : ℕ) → i < 16 → get_or first i 0 ≡ get_or second i 0

-- 'each mass in the second at least that in the first'
pub record MoreWaste (first second : List ℕ) : Type 0 where
  pub equal : EqualButMasses first second
  pub more : (t : ℕ) → t < 8 → mass_of first t ≤ mass_of second t

-- No mass of a record is over the limit of 10^9 kg.
abbrev pub WithinLimit : List ℕ → Type 0
WithinLimit bytes = (t : ℕ) → t < 8 → mass_of bytes t ≤ 10 ^ 9

-- What is said of the first things of two lists, of the second ones, and so on; both lists end together.
abbrev pub Pairs : {A : Type 0} → (A → A → Type 0) → (first second : List A) → Type 0
Pairs P [] [] = Unit
Pairs P [] (y ∷ ys) = ⊥
Pairs P (x ∷ xs) [] = ⊥
Pairs P (x ∷ xs) (y ∷ ys) = P x y × Pairs P xs ys

-- The offers' bytes pair by pair, and the records of two files.
abbrev pub Offered : (List ℕ → List ℕ → Type 0) → (first second : List Offer) → Type 0
Offered P first second = Pairs (λ one other. P one.bytes other.bytes) first second

abbrev pub InFiles : (List ℕ → List ℕ → Type 0) → (first second : List ℕ) → Type 0
InFiles P first second = Pairs P (records_of first) (records_of second)

-- An offer with no mass over the limit, and with room for its output record.
abbrev pub LightOffer : Offer → Type 0
LightOffer offer = WithinLimit offer.bytes × (record_bytes ≤ offer.room)

-- 'every release of every type, every stock, figure and bound in the second is at least that in the first': the step's two answers to a
-- record. With them what was brought in and released so far, x0, and the total R and T that the output record has.
pub record NoLess (first second : Answer) : Type 0 where
  pub releases : (t : ℕ) → t < 8 → get_or first.releases t 0 ≤ get_or second.releases t 0
  pub stocks : (t : ℕ) → t < 8 → stock_at first.ledger t ≤ stock_at second.ledger t
  pub figure : first.figure ≤ second.figure
  pub bound : first.bound ≤ second.bound
  pub brought : (t : ℕ) → t < 8 → brought_at first.ledger t ≤ brought_at second.ledger t
  pub released : (t : ℕ) → t < 8 → released_at first.ledger t ≤ released_at second.ledger t
  pub x0 : first.x0 ≤ second.x0
  pub total_stock_lem : total_stock first.ledger ≤ total_stock second.ledger
  pub total_brought_lem : total_brought first.ledger ≤ total_brought second.ledger

-- The same of two turns.
abbrev pub TurnNoLess : Turn → Turn → Type 0
TurnNoLess first second = NoLess first.answer second.answer
