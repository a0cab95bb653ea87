-- Demand 3 over the entries that C calls: a site is kept in an image, a fresh one first, and call after call works on it.
use Rattle.std.specs.Prelude.{◌≡◌, List, [], ◌∷◌, ◌++◌, ℕ, ◌+◌, ◌*◌, ◌<◌, length}
use Rattle.numbers.specs.Bytes.{number_at}
use Rattle.run.specs.History.{Offer, Turn, accepted}
use Rattle.image.specs.Image.{image_of, ledger_of}
use Rattle.calls.specs.Calls.{take_here, take_image, run_here, run_image, offer_of, offers_of}
use Rattle.promise_three.specs.Offering.{offering, released_by}

-- A call of `landfill_take` with a record, or of `landfill_run` with a file, and the buffers that are lent to it.
pub data Call : Type 0 where
  takes : (bytes out answer : List ℕ) → Call
  runs : (file out : List ℕ) → Call

-- Of one call on an image:
module _ (image : List ℕ) where
  -- what it leaves there,
  unfoldable pub image_after : Call → List ℕ
  image_after (takes bytes out answer) = take_image image bytes out answer
  image_after (runs file out) = run_image image (run_here image file (length out))

  -- the records that it offers, those of a file up to and with the first that is refused,
  unfoldable pub offers_by : Call → List Offer
  offers_by (takes bytes out answer) = offer_of bytes out answer ∷ []
  offers_by (runs file out) = offers_of file (length out) (run_here image file (length out))

  -- and the accepted ones, with what it answers to them.
  unfoldable pub accepted_by : Call → List Turn
  accepted_by (takes bytes out answer) = accepted (record { before = ledger_of image; bytes = bytes; answer = take_here image bytes out answer } ∷ [])
  accepted_by (runs file out) = (run_here image file (length out)).accepted

-- Of calls one after another, each on the image that the one before it left.
unfoldable pub image_after_all : List ℕ → List Call → List ℕ
image_after_all image [] = image
image_after_all image (call ∷ rest) = image_after_all (image_after image call) rest

unfoldable pub offers_by_all : List ℕ → List Call → List Offer
offers_by_all image [] = []
offers_by_all image (call ∷ rest) = offers_by image call ++ offers_by_all (image_after image call) rest

unfoldable pub accepted_by_all : List ℕ → List Call → List Turn
accepted_by_all image [] = []
accepted_by_all image (call ∷ rest) = accepted_by image call ++ accepted_by_all (image_after image call) rest

-- What is kept after some calls is what comes of all their offers to a fresh ledger; the next call reads it; what was answered to the
-- accepted records is what is answered there; and by request b of document 02 the releases answered, added, stand behind R.
pub record KeptSite (image : List ℕ) (calls : List Call) : Type 0 where
  pub image_kept : image_after_all image calls ≡ image_of (offering (offers_by_all image calls)).ledger
  pub ledger_kept : ledger_of (image_after_all image calls) ≡ (offering (offers_by_all image calls)).ledger
  pub answers_kept : accepted_by_all image calls ≡ (offering (offers_by_all image calls)).accepted
  pub released_kept : (t : ℕ) → t < 8 → number_at 8 (image_after_all image calls) (136 + 8 * t) ≡ released_by (accepted_by_all image calls) t
