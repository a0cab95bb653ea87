-- One record on in the walk over a stretch: the record at a place, with x0 from the output record at the same place.
use mathlib.Core.Path.{◌≡◌, refl}
use mathlib.Core.List.{List}
use Prim.Native.Nat.{ℕ, suc, ◌+◌}
use lib.ListN.{take, drop}
use lib.Seq.{drop-drop}
use Rattle.numbers.specs.Bytes.{number_at}
use Rattle.numbers.proofs.Bytes.{number_drop}
use Rattle.record.specs.Fields.{record_bytes}
use Rattle.tunisia.specs.Walk.{walked_on, walked_over, Ready, AllReady}
use Rattle.tunisia.specs.declared.year.Walked.{Walked}

module _ (first last k at : ℕ) (w : Walked) (file out : List ℕ) where
  abbrev next : Walked
  next = walked_on first last w (take record_bytes (drop at file)) (number_at 8 out (at + 8))

  pub over_next : walked_over first last (suc k) w (drop at file) (drop at out) ≡ walked_over first last k next (drop (at + record_bytes) file) (drop (at + record_bytes) out)
  unfolding walked_over
  over_next = rw (number_drop 8 at 8 out, drop-drop record_bytes at file, drop-drop record_bytes at out)

  pub ready_next : AllReady first last (suc k) w (drop at file) (drop at out)
      → Ready w (take record_bytes (drop at file)) × AllReady first last k next (drop (at + record_bytes) file) (drop (at + record_bytes) out)
  unfolding AllReady
  ready_next h = (h.0, rw (← drop-drop record_bytes at file, ← drop-drop record_bytes at out, number_drop 8 at 8 out) h.1)

pub over_none : (first last : ℕ) (w : Walked) (file out : List ℕ) → walked_over first last 0 w file out ≡ w
unfolding walked_over
over_none first last w file out = refl
