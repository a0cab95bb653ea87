-- Document 01, 'Worked figures', last part: what the listing prints, as bytes. 48 is the digit 0, 32 a space.
use Rattle.std.specs.Prelude.{◌≡◌, cond, List, [], ◌∷◌, ◌++◌, ℕ, zero, suc, ◌+◌, ◌-◌, ◌*◌, ◌/◌, ◌%◌, ◌≤◌, length, take, replicate, ltb}
use Prim.Native.Char.{code}
use Prim.Native.String.{String, [] as []ˢ, ◌∷◌ as ◌∷ˢ◌}
use Rattle.line.specs.declared.form.Line.{Line}

-- A number below 10 is its digit; any other is n / 10, and then the digit n % 10. At most k digits.
unfoldable pub digits_of : ℕ → ℕ → List ℕ
digits_of zero n = []
digits_of (suc k) n = cond (ltb n 10) ((48 + n) ∷ []) (digits_of k (n / 10) ++ ((48 + n % 10) ∷ []))

-- Every number in plain decimal: n never has more than n + 1 digits.
unfoldable pub decimal_of : ℕ → List ℕ
decimal_of n = digits_of (suc n) n

-- Digits read back: each takes the number before it ten times, and adds its own value.
abbrev pub read_on : ℕ → List ℕ → ℕ
read_on n [] = n
read_on n (digit ∷ digits) = read_on (10 * n + (digit - 48)) digits

-- The bytes of a word.
abbrev pub letters : String → List ℕ
letters []ˢ = []
letters (letter ∷ˢ word) = code letter ∷ letters word

-- One space between; every line ends with a byte 10.
unfoldable pub line_text : List (List ℕ) → List ℕ
line_text [] = 10 ∷ []
line_text (word ∷ []) = word ++ (10 ∷ [])
line_text (word ∷ next ∷ words) = word ++ (32 ∷ line_text (next ∷ words))

-- For each accepted record: period, x0, figure, bound, total R.
unfoldable pub accepted_text : ℕ → ℕ → ℕ → ℕ → ℕ → List ℕ
accepted_text period x0 figure bound R =
    line_text (decimal_of period ∷ decimal_of x0 ∷ decimal_of figure ∷ decimal_of bound ∷ decimal_of R ∷ [])

-- At a refusal: `refused`, the number, `at record` and the record's place.
unfoldable pub refused_text : ℕ → ℕ → List ℕ
refused_text refusal place =
    line_text (letters "refused" ∷ decimal_of refusal ∷ letters "at" ∷ letters "record" ∷ decimal_of place ∷ [])

-- 90 bytes hold the longest line.
abbrev pub line_bytes : ℕ
line_bytes = 90

-- An array of 90 bytes and a length by value, unused bytes 0.
unfoldable pub padded : List ℕ → Line
padded text = record { bytes = text ++ replicate (line_bytes - length text) 0; len = length text }

-- What a caller needs to lend the text, `&bytes[..len]`; it follows from `padded`.
pub record Lendable (line : Line) : Type 0 where
  pub ninety : length line.bytes ≡ line_bytes
  pub within : line.len ≤ line_bytes
  pub whole : line.len ≡ length (take line.len line.bytes)
