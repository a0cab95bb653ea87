-- Where the loop over one type's column is before a record, and how a record and the end go from there.
use mathlib.Core.Path.{◌≡◌, refl, sym, ◌∙◌}
use mathlib.Core.List.{List, [], ◌∷◌, ◌++◌, append_assoc, append-nil}
use Prim.Native.Nat.{ℕ, ◌+◌, ◌-◌, ◌*◌, ◌≤◌, ◌<◌}
use native.Mathlib.Omega.{arith}
use lib.ListN.{length, take, drop, set, length-drop}
use lib.Seq.{get_or-take}
use Rattle.numbers.proofs.Lists.{length_more, write_more}
use Rattle.record.specs.Fields.{record_bytes, kind_of, climate_of, deposit_of}
use Rattle.carbon.specs.Carbon.{most_brought, entry_at}
use Rattle.ledger.specs.Step.{stock_at, held, after}
use Rattle.ledger.specs.Refusal.{refusal_of}
use Rattle.ledger.specs.Take.{accepted_of}
use Rattle.ledger.specs.declared.book.Ledger.{Ledger}
use Rattle.ledger.proofs.Accepted.{accepted_meets, fresh_stock, held_most, new_small}
use Rattle.run.specs.History.{records_of, whole_run}
use Rattle.run.proofs.History.{no_records}
use Rattle.by_type.specs.Alone.{left_alone, releases_alone, stock_alone}
use Rattle.by_type.proofs.Alone.{left_alone_lem}
use Rattle.releases.proofs.Midway.{Midway, midway_starts, next_record, records_are, next_taken, midway_on}

pub record MidColumn (file column₀ : List ℕ) (t entry : ℕ) (column : List ℕ) (stock i : ℕ) : Type 0 where
  pub here : Midway file i
  pub R : stock ≡ stock_at here.ledger t
  pub fit : refusal_of here.ledger (take record_bytes (drop (record_bytes * i) file)) here.room ≡ 0
      → entry ≡ entry_at (kind_of (take record_bytes (drop (record_bytes * i) file))) (climate_of (take record_bytes (drop (record_bytes * i) file))) t
  pub done : List ℕ
  pub placed : length done ≡ i
  pub written : column ≡ done ++ drop i column₀
  pub so_far : releases_alone t 0 (records_of file) ≡ done ++ releases_alone t stock (records_of (drop (record_bytes * i) file))
  pub end_stock : stock_alone t 0 (records_of file) ≡ stock_alone t stock (records_of (drop (record_bytes * i) file))

pub column_starts : (file column : List ℕ) (t entry : ℕ) → t < 8 → (whole_run file).refusal ≡ 0 → entry ≡ entry_at (kind_of file) (climate_of file) t
    → MidColumn file column t entry column 0 0
unfolding midway_starts
column_starts file column t entry place none fit =
    record {
      here = midway_starts file none;
      R = sym (fresh_stock t place);
      fit = λ ok. rw (get_or-take record_bytes file 2 0 (omega arith), get_or-take record_bytes file 3 0 (omega arith)) fit;
      done = [];
      placed = refl;
      written = refl;
      so_far = refl;
      end_stock = refl;
    }

-- the first record's kind and climate are every later record's
next_fit : (l : Ledger) (bytes next : List ℕ) (t entry room more : ℕ) → refusal_of l bytes room ≡ 0 → entry ≡ entry_at (kind_of bytes) (climate_of bytes) t
    → refusal_of (accepted_of l bytes).ledger next more ≡ 0 → entry ≡ entry_at (kind_of next) (climate_of next) t
unfolding accepted_of after
next_fit l bytes next t entry room more ok fit ok' =
    let same = (accepted_meets (after l bytes) next more ok').same (λ z. omega arith) in
    fit ∙ rw (same.0, same.1)

module _ {file column₀ : List ℕ} {t entry : ℕ} {column : List ℕ} {stock i : ℕ} (place : t < 8)
    (h : MidColumn file column₀ t entry column stock i) (more : record_bytes * i < length file) where
  abbrev pub record_here : List ℕ
  record_here = next_record h.here more

  abbrev l : Ledger
  l = h.here.ledger

  -- the stock with the record's deposit is small, and the entry is the record's
  pub held_small : stock + deposit_of record_here t ≤ most_brought
  unfolding held
  held_small =
      let a = accepted_meets l record_here h.here.room (next_taken h.here more) in
      rw h.R (omega (arith, held_most l record_here a t place, (new_small l record_here a t place).T))

  pub entry_is : entry ≡ entry_at (kind_of record_here) (climate_of record_here) t
  entry_is = h.fit (next_taken h.here more)

  -- a record more
  pub column_on : {left : ℕ} {column' : List ℕ} → i < length column₀ → left ≡ left_alone t stock record_here → column' ≡ set column i (stock + deposit_of record_here t - left)
      → MidColumn file column₀ t entry column' left (i + 1)
  unfolding releases_alone stock_alone midway_on accepted_of
  column_on room e c =
      let x = stock + deposit_of record_here t - left_alone t stock record_here in
      let records = records_are h.here more in
      record {
        here = midway_on h.here more;
        R = e ∙ rw h.R (left_alone_lem t place l record_here);
        fit = next_fit l record_here _ t entry h.here.room (h.here.room - record_bytes) (next_taken h.here more) entry_is;
        done = h.done ++ (x ∷ []);
        placed = omega (arith, length_more h.done x, h.placed);
        written = c ∙ rw e (write_more h.done x 0 column₀ i h.placed room h.written);
        so_far = h.so_far ∙ rw (records, e) (sym (append_assoc h.done (x ∷ []) _));
        end_stock = h.end_stock ∙ rw (records, e);
      }

-- at the end of the file
pub column_ends : {file column₀ : List ℕ} {t entry : ℕ} {column : List ℕ} {stock i : ℕ} → MidColumn file column₀ t entry column stock i → record_bytes * i ≡ length file
    → (stock ≡ stock_alone t 0 (records_of file)) × (column ≡ releases_alone t 0 (records_of file) ++ drop i column₀)
unfolding releases_alone stock_alone
column_ends {file} {t = t} {stock = stock} {i = i} h last =
    let gone : records_of (drop (record_bytes * i) file) ≡ [] = no_records (drop (record_bytes * i) file) (simp length-drop (omega arith)) in
    (sym (h.end_stock ∙ rw gone), h.written ∙ rw (h.so_far, gone, append-nil))
