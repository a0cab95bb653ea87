-- Laws of a record that is rewritten: its head is the old one, and each mass is the old one of the place that it comes from.
use mathlib.Core.Path.{◌≡◌, sym, ap, ◌∙◌}
use mathlib.Core.List.{List, [], ◌∷◌, ◌++◌}
use Prim.Native.Nat.{ℕ, zero, suc, ◌+◌, ◌*◌, ◌≤◌, ◌<◌}
use native.Mathlib.Omega.{arith}
use lib.ListN.{length, take, drop, get_or, length-append, length-drop}
use lib.Seq.{length-take-le, take_at, drop-append-add, drop-drop, get_or-take, get_or-drop}
use Rattle.std.proofs.Math.Seq.{drop-append_seam}
use Rattle.numbers.specs.Bytes.{number_at, bytes_of}
use Rattle.numbers.specs.Lists.{joined}
use Rattle.numbers.proofs.Bytes.{number_own, number_same, bytes_at}
use Rattle.numbers.proofs.Joined.{joined_same, joined_length, joined_part}
use Rattle.record.specs.Fields.{mass_of}
use Rattle.order.specs.Repair.{record_head, mass_bytes, rewritten, record_from, record_in, number_of_records}

pub mass_own : (bytes : List ℕ) (t : ℕ) → mass_of bytes t ≡ number_at 4 (mass_bytes bytes t) 0
unfolding mass_of
mass_own bytes t = number_own 4 (16 + 4 * t) bytes

-- A number within the record that starts at a place of a file.
pub number_in : (file : List ℕ) (at k j : ℕ) → j + k ≤ 48 → number_at k (record_from file at) j ≡ number_at k file (at + j)
number_in file at k j within =
    number_same k (record_from file at) file j (at + j)
    (λ i l. let on : at + j + i ≡ at + (j + i) = omega arith in get_or-take 48 (drop at file) (j + i) 0 (omega arith) ∙ get_or-drop at file (j + i) 0 ∙ rw on)

-- A record has 48 bytes, and where the file is bytes, so is the record.
pub whole_at : (file : List ℕ) (at : ℕ) → at + 48 ≤ length file → length (record_from file at) ≡ 48
whole_at file at room = length-take-le 48 (drop at file) (omega (arith, length-drop at file))

pub whole_record : (file : List ℕ) (q : ℕ) → q < number_of_records file → length (record_in file q) ≡ 48
whole_record file q l = whole_at file (48 * q) (omega arith)

pub bytes_in : (file : List ℕ) (at : ℕ) → ((i : ℕ) → get_or file i 0 < 256) → (i : ℕ) → get_or (record_from file at) i 0 < 256
bytes_in file at small i = part 48 (drop at file) (λ j. rw (get_or-drop at file j 0) (small (at + j))) i
  where
    part : (n : ℕ) (xs : List ℕ) → ((j : ℕ) → get_or xs j 0 < 256) → (i : ℕ) → get_or (take n xs) i 0 < 256
    part zero xs h i = omega arith
    part (suc n) [] h i = omega arith
    part (suc n) (x ∷ xs) h zero = h 0
    part (suc n) (x ∷ xs) h (suc i) = part n xs (λ j. h (suc j)) i

-- A record as the next 48 bytes of those that are left.
module _ (file : List ℕ) (q : ℕ) (bytes rest : List ℕ) (is : drop (48 * q) file ≡ bytes ++ rest) (long : length bytes ≡ 48) where
  pub next_record : bytes ≡ record_in file q
  next_record = sym (ap (take 48) is ∙ take_at bytes rest 48 long)

  pub next_within : 48 * (q + 1) ≤ length file
  next_within = omega (arith, length-drop (48 * q) file, ap length is, length-append bytes rest)

  pub next_rest : rest ≡ drop (48 * (q + 1)) file
  next_rest =
      let more : 48 * q + length bytes ≡ 48 * (q + 1) = omega (arith, long) in
      sym (drop-append_seam bytes rest) ∙ ap (drop (length bytes)) (sym is) ∙ drop-drop (length bytes) (48 * q) file
      ∙ ap (λ (k : ℕ). drop k file) more

pub rewritten_same : (from from' : ℕ → ℕ) (bytes : List ℕ) → ((t : ℕ) → t < 8 → from t ≡ from' t) → rewritten from bytes ≡ rewritten from' bytes
unfolding rewritten
rewritten_same from from' bytes h =
    ap (λ (xs : List ℕ). record_head bytes ++ xs) (joined_same _ _ 8 (λ t l. ap (mass_bytes bytes) (h t l)))

module _ (bytes : List ℕ) (size : length bytes ≡ 48) where
  head_length : length (record_head bytes) ≡ 16
  head_length = length-take-le 16 bytes (omega arith)

  pub bytes_of_mass : ((i : ℕ) → get_or bytes i 0 < 256) → (place : ℕ) → place < 8 → bytes_of 4 (mass_of bytes place) ≡ mass_bytes bytes place
  unfolding mass_of
  bytes_of_mass small place l = bytes_at 4 (16 + 4 * place) bytes (omega arith) small

  pub mass_length : (place : ℕ) → place < 8 → length (mass_bytes bytes place) ≡ 4
  mass_length place l = length-take-le 4 (drop (16 + 4 * place) bytes) (omega (arith, length-drop (16 + 4 * place) bytes))

  module _ (from : ℕ → ℕ) (near : (t : ℕ) → t < 8 → from t < 8) where
    each_four : (t : ℕ) → t < 8 → length (mass_bytes bytes (from t)) ≡ 4
    each_four t l = mass_length (from t) (near t l)

    pub rewritten_length : length (rewritten from bytes) ≡ 48
    unfolding rewritten
    rewritten_length =
        length-append (record_head bytes) (joined (λ t. mass_bytes bytes (from t)) 8)
        ∙ omega (arith, head_length, joined_length (λ t. mass_bytes bytes (from t)) 4 8 each_four 8 (omega arith))

    pub head_kept : record_head (rewritten from bytes) ≡ record_head bytes
    unfolding rewritten
    head_kept = take_at (record_head bytes) (joined (λ t. mass_bytes bytes (from t)) 8) 16 head_length

    pub mass_moved : (t : ℕ) → t < 8 → mass_bytes (rewritten from bytes) t ≡ mass_bytes bytes (from t)
    unfolding rewritten
    mass_moved t l =
        ap (λ (n : ℕ). take 4 (drop (n + 4 * t) (rewritten from bytes))) (sym head_length)
        ∙ ap (take 4) (drop-append-add (record_head bytes) (joined (λ t. mass_bytes bytes (from t)) 8) (4 * t))
        ∙ joined_part (λ t. mass_bytes bytes (from t)) 4 8 each_four 8 t (omega arith) l

    pub mass_from : (t : ℕ) → t < 8 → mass_of (rewritten from bytes) t ≡ mass_of bytes (from t)
    mass_from t l = mass_own (rewritten from bytes) t ∙ ap (λ (own : List ℕ). number_at 4 own 0) (mass_moved t l) ∙ sym (mass_own bytes (from t))
