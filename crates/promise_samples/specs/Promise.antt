-- Document 02, request a, 'Masses from sorting samples'. proofs/Proved.antt proves `SamplesPromise`.
use Rattle.std.specs.Prelude.{◌≡◌, ◌↔◌, List, ℕ, ◌<◌, get_or}
use Rattle.numbers.specs.Eight.{eight}
use Rattle.record.specs.Fields.{mass_of}
use Rattle.ledger.specs.Take.{take_of}
use Rattle.ledger.specs.declared.book.Ledger.{Ledger}
use Rattle.samples.specs.Samples.{sorted_of}
use Rattle.promise_samples.specs.Sorting.{Sortable, Parted}

pub record SamplesPromise : Type 0 where
  -- Document 02, request a: a total and samples are accepted exactly where the request allows them, and the masses are then as it
  -- claims.
  pub sorted_where : (kind W : ℕ) (samples : List ℕ) → ((sorted_of kind W samples).refusal ≡ 0) ↔ Sortable kind W samples
  pub sorted_well : (kind W : ℕ) (samples : List ℕ) → (sorted_of kind W samples).refusal ≡ 0 → Parted W samples (sorted_of kind W samples).masses
  -- A refusal comes 'with all masses 0'.
  pub sorted_none : (kind W : ℕ) (samples : List ℕ) → ((sorted_of kind W samples).refusal ≡ 0 → ⊥) → (sorted_of kind W samples).masses ≡ eight (λ t. 0)
  -- The masses of any call are such that a record that holds them is not refused with 9.
  pub sorted_light : (kind W : ℕ) (samples : List ℕ) (l : Ledger) (bytes : List ℕ) (room : ℕ)
      → ((t : ℕ) → t < 8 → mass_of bytes t ≡ get_or (sorted_of kind W samples).masses t 0) → (take_of l bytes room).refusal ≡ 9 → ⊥
