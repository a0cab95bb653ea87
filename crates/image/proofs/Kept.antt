-- The image of a ledger that can be kept says that ledger again; every ledger that the library answers to one can be kept.
use mathlib.Core.Path.{◌≡◌, refl, sym, ap, ◌∙◌}
use mathlib.Core.Bool.{Bool, true, false}
use mathlib.Core.List.{List, [], ◌∷◌}
use Prim.Native.Nat.{ℕ, ◌+◌, ◌*◌, ◌^◌, ◌<◌}
use native.Mathlib.Decide.{ℕ_discrete}
use native.Mathlib.Omega.{arith}
use borrow.Author.Tests.{eq-eqb}
use lib.Dec.{eqb, lit<}
use lib.ListN.{length, replicate}
use Rattle.numbers.specs.Bytes.{number_at, bytes_of}
use Rattle.numbers.specs.Eight.{eight}
use Rattle.numbers.proofs.Bytes.{read_back}
use Rattle.numbers.proofs.Eight.{eight_at}
use Rattle.year_factors.specs.YearFactors.{no_year}
use Rattle.year_factors.proofs.Laws.{captured_most}
use Rattle.ledger.specs.Step.{fresh, brought_at, stock_at, released_at, after}
use Rattle.ledger.specs.Refusal.{sound, refusal_of}
use Rattle.ledger.specs.Take.{accepted_of, take_of}
use Rattle.ledger.specs.declared.book.Ledger.{Ledger}
use Rattle.ledger.proofs.Sound.{sound_is}
use Rattle.ledger.proofs.Accepted.{accepted_meets, fresh_sound, accepted_sound}
use Rattle.ledger.proofs.Take.{taken, refused_keeps}
use Rattle.image.specs.Image.{image_bytes, image_of, fresh_left, said_by, no_ledger, ledger_of, Kept}

-- Eight numbers are read back from their bytes.
row_back : (f : ℕ → ℕ) → ((t : ℕ) → t < 8 → f t < 2 ^ 64) → eight (λ t. number_at 8 (bytes_of 8 (f t)) 0) ≡ eight f
row_back f fits = λ i.
    read_back 8 (f 0) (fits 0 (lit< tt)) i
    ∷ read_back 8 (f 1) (fits 1 (lit< tt)) i
    ∷ read_back 8 (f 2) (fits 2 (lit< tt)) i
    ∷ read_back 8 (f 3) (fits 3 (lit< tt)) i
    ∷ read_back 8 (f 4) (fits 4 (lit< tt)) i
    ∷ read_back 8 (f 5) (fits 5 (lit< tt)) i
    ∷ read_back 8 (f 6) (fits 6 (lit< tt)) i
    ∷ read_back 8 (f 7) (fits 7 (lit< tt)) i
    ∷ []

module _ (l : Ledger) (k : Kept l) where
  n_fits : l.n < 2 ^ 16
  n_fits = omega (arith, (sound_is l k.is_sound).few)

  t_fits : (t : ℕ) → t < 8 → brought_at l t < 2 ^ 64
  t_fits t h = omega (arith, ((sound_is l k.is_sound).at t h).small)

  r_fits : (t : ℕ) → t < 8 → stock_at l t < 2 ^ 64
  r_fits t h = let w = (sound_is l k.is_sound).at t h in omega (arith, w.kept, w.small)

  released_fits : (t : ℕ) → t < 8 → released_at l t < 2 ^ 64
  released_fits t h = let w = (sound_is l k.is_sound).at t h in omega (arith, w.parted, w.small)

  captured_fits : l.year.captured < 2 ^ 16
  captured_fits = omega (arith, captured_most l.n l.kind l.year (sound_is l k.is_sound).year)

  said_again : said_by (image_of l) ≡ l
  unfolding image_of said_by
  said_again = λ i. record {
    n = read_back 2 l.n n_fits i;
    kind = l.kind;
    climate = l.climate;
    year = record { factor = l.year.factor; captured = read_back 2 l.year.captured captured_fits i; class = l.year.class };
    brought = (row_back (brought_at l) t_fits ∙ sym k.brought) i;
    stock = (row_back (stock_at l) r_fits ∙ sym k.stock) i;
    released = (row_back (released_at l) released_fits ∙ sym k.released) i;
  }

  -- What each type has released so far stands behind R.
  pub released_stands : (t : ℕ) → t < 8 → number_at 8 (image_of l) (136 + 8 * t) ≡ released_at l t
  unfolding said_by
  released_stands t h = sym (eight_at (λ u. number_at 8 (image_of l) (136 + 8 * u)) t h) ∙ ap (λ (m : Ledger). released_at m t) said_again

  -- The image of a ledger says it again.
  pub image_back : ledger_of (image_of l) ≡ l
  unfolding ledger_of image_of
  image_back = said_again

pub fresh_kept : Kept fresh
unfolding fresh
fresh_kept = record { is_sound = fresh_sound; brought = refl; stock = refl; released = refl }

-- The image of a fresh ledger is all zero.
pub fresh_zeros : image_of fresh ≡ replicate image_bytes 0
unfolding image_of fresh no_year
fresh_zeros = refl

pub fresh_keeps : (image : List ℕ) → length image ≡ image_bytes → fresh_left image ≡ image_of fresh
unfolding fresh_left
fresh_keeps image e = simp (eq-eqb (length image) image_bytes e) (sym fresh_zeros)

-- A sound ledger that bytes say can be kept.
pub said_kept : (image : List ℕ) → sound (ledger_of image) ≡ true → Kept (ledger_of image)
unfolding ledger_of said_by no_ledger
said_kept image e = by (eqb (length image) image_bytes) refl
  where
    by : (b : Bool) → eqb (length image) image_bytes ≡ b → Kept (ledger_of image)
    by true i = simp i (record { is_sound = simp i at e; brought = refl; stock = refl; released = refl })
    by false i = simp i (record { is_sound = simp i at e; brought = refl; stock = refl; released = refl })

-- The ledger after an accepted record, whatever ledger took it,
pub accepted_kept : (l : Ledger) (bytes : List ℕ) (room : ℕ) → refusal_of l bytes room ≡ 0 → Kept (accepted_of l bytes).ledger
unfolding accepted_of after
accepted_kept l bytes room e =
    record { is_sound = accepted_sound l bytes (accepted_meets l bytes room e); brought = refl; stock = refl; released = refl }

-- and so the ledger after any record, can be kept.
pub step_kept : (l : Ledger) (bytes : List ℕ) (room : ℕ) → Kept l → Kept (take_of l bytes room).ledger
step_kept l bytes room k =
    elim (ℕ_discrete (refusal_of l bytes room) 0) [
      | yes e ↦ rw (taken l bytes room e) (accepted_kept l bytes room e)
      | no e ↦ rw (refused_keeps l bytes room e) k
    ]
