-- Document 02, request g, 'Put the shuffled files right'. proofs/Proved.antt proves `OrderPromise`.
use Rattle.std.specs.Prelude.{◌≡◌, ◌↔◌, List, [], ◌∷◌, ℕ, ◌<◌, length, get_or, take}
use Rattle.order.specs.Order.{types_seen}
use Rattle.promise_order.specs.Shuffled.{Shuffled, righted, NamesEach, WholeRecords, Room, PutRight, nothing_written, file_copied, Inverse, again, BroughtBack}

pub record OrderPromise : Type 0 where
  -- Document 02, request g: a file is put right exactly where 'each of the types 1 to 8 [is] named once', it is whole records and both buffers
  -- have room; 'Refusals: 20 [..], 21 [..], 22 [..], in that order, with nothing written and answer 0'.
  pub repair_where : (s : Shuffled) → ((righted s).refusal ≡ 0) ↔ (NamesEach s.order × WholeRecords s × Room s)
  pub repair_20 : (s : Shuffled) → (righted s ≡ nothing_written 20 s) ↔ (NamesEach s.order → ⊥)
  pub repair_21 : (s : Shuffled) → (righted s ≡ nothing_written 21 s) ↔ (NamesEach s.order × (WholeRecords s → ⊥))
  pub repair_22 : (s : Shuffled) → (righted s ≡ nothing_written 22 s) ↔ (NamesEach s.order × WholeRecords s × (Room s → ⊥))
  -- Document 01: 'eight-bit set of types seen, [..] full exactly when the order is a permutation'.
  pub types_seen_lem : (order : List ℕ) → length order ≡ 8 → (types_seen order ≡ 255) ↔ NamesEach order
  -- 'rewrite a file of records into a second buffer with every mass at its type's place', and so on.
  pub repair_well : (s : Shuffled) → (righted s).refusal ≡ 0 → PutRight s (righted s)
  -- 'Repairing with the inverse order brings back the old file exactly', into any buffers with room; and each order has an inverse.
  pub repair_undone : (s : Shuffled) (back out report : List ℕ) → (righted s).refusal ≡ 0 → Inverse s.order back
      → Room (again s back out report) → BroughtBack s (righted (again s back out report))
  pub has_inverse : (order : List ℕ) → NamesEach order → (back : List ℕ) × Inverse order back
  -- The order 1 2 3 4 5 6 7 8 copies the file and reports nothing.
  pub in_order : (s : Shuffled) → s.order ≡ 1 ∷ 2 ∷ 3 ∷ 4 ∷ 5 ∷ 6 ∷ 7 ∷ 8 ∷ [] → (righted s).refusal ≡ 0 → righted s ≡ file_copied s
  -- The answer is 0 exactly where the new file is the old one; a file is bytes.
  pub none_changed : (s : Shuffled) → (righted s).refusal ≡ 0 → ((i : ℕ) → get_or s.file i 0 < 256)
      → ((righted s).changed ≡ 0) ↔ (take (length s.file) (righted s).out ≡ s.file)
