-- What the functions that write a listing, stretch by stretch, do; no public contract says it.
use Rattle.std.specs.Prelude.{◌≡◌, List, [], ◌++◌, ℕ, zero, suc, ◌+◌, ◌*◌, ◌≤◌, length, take, drop}
use Rattle.numbers.specs.Bytes.{number_at}
use Rattle.record.specs.Fields.{record_bytes}
use Rattle.line.specs.Line.{accepted_text}
use Rattle.lines.specs.Listing.{listing_of}

-- The line that the output record at a place says, and the lines of the first k output records.
unfoldable pub output_text : List ℕ → ℕ → List ℕ
output_text bytes at =
    accepted_text (number_at 2 bytes at) (number_at 8 bytes (at + 8)) (number_at 8 bytes (at + 16)) (number_at 8 bytes (at + 24)) (number_at 8 bytes (at + 32))

unfoldable pub output_lines : List ℕ → ℕ → List ℕ
output_lines bytes zero = []
output_lines bytes (suc k) = output_lines bytes k ++ output_text bytes (record_bytes * k)

-- The listing of a file stands at the start of the text, end is the place after it, and whatever is past it keeps its value.
pub record Lists (file text text' : List ℕ) (end : ℕ) : Type 0 where
  pub within : end ≤ length text'
  pub whole : listing_of file ≡ take end text'
  pub past : drop end text' ≡ drop end text
