-- The ledger as the 200 bytes that pass between the package and the library.
use Rattle.std.specs.Prelude.{◌≡◌, true, cond, List, [], ◌∷◌, ◌++◌, ℕ, ◌+◌, ◌*◌, eqb, length, get_or, replicate}
use Rattle.numbers.specs.Bytes.{number_at, bytes_of, row_of}
use Rattle.numbers.specs.Eight.{eight}
use Rattle.year_factors.specs.YearFactors.{no_year}
use Rattle.ledger.specs.Step.{brought_at, stock_at, released_at}
use Rattle.ledger.specs.Refusal.{sound}
use Rattle.ledger.specs.declared.book.Ledger.{Ledger}

abbrev pub image_bytes : ℕ
image_bytes = 200

-- n in 2 bytes, kind, climate, and of the year that is remembered the correction factor, the class, and f in 2 bytes;
abbrev pub front_of : Ledger → List ℕ
front_of l =
    bytes_of 2 l.n ++ (l.kind ∷ l.climate ∷ l.year.factor ∷ l.year.class ∷ []) ++ bytes_of 2 l.year.captured

-- then T, R and released so far of types 1 to 8 in 8 bytes each.
unfoldable pub image_of : Ledger → List ℕ
image_of l = front_of l ++ row_of (brought_at l) 8 ++ row_of (stock_at l) 8 ++ row_of (released_at l) 8

-- The image is written over 200 bytes; any other buffer keeps its bytes.
unfoldable pub imaged : Ledger → List ℕ → List ℕ
imaged l out = cond (eqb (length out) image_bytes) (image_of l) out

-- The image of a fresh ledger is all zero; a buffer of another length keeps its bytes.
unfoldable pub fresh_left : List ℕ → List ℕ
fresh_left out = cond (eqb (length out) image_bytes) (replicate image_bytes 0) out

-- The ledger that 200 bytes say.
unfoldable pub said_by : List ℕ → Ledger
said_by image =
    record {
      n = number_at 2 image 0;
      kind = get_or image 2 0;
      climate = get_or image 3 0;
      year = record { factor = get_or image 4 0; captured = number_at 2 image 6; class = get_or image 5 0 };
      brought = eight (λ t. number_at 8 image (8 + 8 * t));
      stock = eight (λ t. number_at 8 image (72 + 8 * t));
      released = eight (λ t. number_at 8 image (136 + 8 * t));
    }

-- Bytes of another length are no image, and count as an unsound ledger, one with too many records.
unfoldable pub no_ledger : Ledger
no_ledger =
    record { n = 65535; kind = 0; climate = 0; year = no_year; brought = eight (λ t. 0); stock = eight (λ t. 0); released = eight (λ t. 0) }

unfoldable pub ledger_of : List ℕ → Ledger
ledger_of image = cond (eqb (length image) image_bytes) (said_by image) no_ledger

-- A ledger that can be kept in an image: sound, with eight numbers for T, for R and for what was released.
pub record Kept (l : Ledger) : Type 0 where
  pub is_sound : sound l ≡ true
  pub brought : l.brought ≡ eight (brought_at l)
  pub stock : l.stock ≡ eight (stock_at l)
  pub released : l.released ≡ eight (released_at l)
