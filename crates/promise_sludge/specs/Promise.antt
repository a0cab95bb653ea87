-- Document 02, request f, 'Sludge with a measured dry matter'. proofs/Proved.antt proves `SludgePromise`.
use Rattle.std.specs.Prelude.{◌≡◌, true, List, ℕ, ◌≤◌, get_or}
use Rattle.record.specs.Fields.{deposit_of}
use Rattle.ledger.specs.Refusal.{sound, NoneAhead}
use Rattle.ledger.specs.Take.{take_of}
use Rattle.ledger.specs.declared.book.Ledger.{Ledger}
use Rattle.promise_sludge.specs.Sludge.{m_of, industrial_percent, domestic_percent, hundredths, defaults, highest, deposit_by, sound_by, Dry, AlikeButDry}

pub record SludgePromise : Type 0 where
  -- Document 02, request f: '0 keeps the default', and the deposit is then as document 01 has it;
  pub default_kept : (bytes : List ℕ) (t : ℕ) → m_of bytes t ≡ 0 → deposit_of bytes t ≡ deposit_by bytes t (get_or defaults t 0)
  -- 'and 1 to 100 is a value': DOC is then what source 001 has for it, in hundredths of a percent, rounded down.
  pub domestic_measured : (bytes : List ℕ) → 1 ≤ m_of bytes 6 → deposit_of bytes 6 ≡ deposit_by bytes 6 (hundredths (domestic_percent (m_of bytes 6)))
  pub industrial_measured : (bytes : List ℕ) → 1 ≤ m_of bytes 7 → deposit_of bytes 7 ≡ deposit_by bytes 7 (hundredths (industrial_percent (m_of bytes 7)))
  -- '8 also covers m over 100', whatever the mass: where none of 1 to 7 is there, such a record is refused with 8.
  pub over_100 : (l : Ledger) (bytes : List ℕ) (room : ℕ) → NoneAhead 8 l bytes room → (Dry bytes → ⊥) → (take_of l bytes room).refusal ≡ 8
  -- '5 looks only at bytes 14 and 15': nothing ahead of 8 looks at bytes 12 and 13, whatever they are, so that 8 is what m over 100 gets;
  pub dry_unseen : (l : Ledger) (one other : List ℕ) (room : ℕ) → AlikeButDry one other → NoneAhead 8 l one room → NoneAhead 8 l other room
  -- and no refusal looks at an m of 0 to 100.
  pub dry_free : (l : Ledger) (one other : List ℕ) (room : ℕ) → AlikeButDry one other → Dry one → Dry other
      → (take_of l one room).refusal ≡ (take_of l other room).refusal
  -- 'and 3 uses DOC 5000 and 2571 for types 7 and 8 in its ceiling on T'; what was sound by document 01's DOC still is.
  pub sound_by_lem : (l : Ledger) → sound l ≡ sound_by highest l
  pub still_sound : (l : Ledger) → sound_by defaults l ≡ true → sound l ≡ true
