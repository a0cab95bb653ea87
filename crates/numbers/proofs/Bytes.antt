-- Laws of numbers as bytes, over the count of bytes: a wide read is two narrow ones, and what was written is read back.
use mathlib.Core.Path.{◌≡◌, refl, sym, ap, ◌∙◌}
use mathlib.Core.List.{List, [], ◌∷◌, ◌++◌, append_assoc}
use Prim.Native.Nat.{ℕ, zero, suc, ◌+◌, ◌-◌, ◌*◌, ◌/◌, ◌%◌, ◌^◌, ◌≤◌, ◌<◌}
use native.Mathlib.Nat.{zero-add, add-zero, suc-add, pow-zero, pow-suc, div-div-eq-div-mul}
use native.Mathlib.Numerals.{add-one}
use native.Mathlib.Omega.{arith}
use lib.ListN.{length, take, drop, get_or, set, replicate, length-set, length-drop, get_or-append}
use lib.Seq.{sets, sets-eq, get_or-set_same, get_or-set_other, get_or-take, get_or-drop, drop-cons, drop-drop, get_or-append_right, length-take-le}
use borrow.Rule.Slice.PartMut.{put_mid}
use Rattle.std.specs.Int.{from_le_bytes, to_le_bytes, w64}
use Rattle.numbers.specs.Bytes.{number_at, bytes_of}

pub number_join : (j k : ℕ) (s : List ℕ) (at : ℕ) → number_at (j + k) s at ≡ number_at j s at + 256 ^ j * number_at k s (at + j)
number_join zero k s at = rw (zero-add k, add-zero at, pow-zero) (omega arith)
number_join (suc j) k s at =
    let e : at + suc j ≡ at + 1 + j = omega arith
    in rw (suc-add, e, pow-suc) (omega (arith, number_join j k s (at + 1)))

pub bytes_length : (k x : ℕ) → length (bytes_of k x) ≡ k
bytes_length zero x = refl
bytes_length (suc k) x = ap suc (bytes_length k (x / 256))

pub sets_join : (xs ys l : List ℕ) (at : ℕ) → sets (sets l at xs) (at + length xs) ys ≡ sets l at (xs ++ ys)
sets_join [] ys l at = rw add-zero
sets_join (x ∷ xs) ys l at =
    let e : at + suc (length xs) ≡ suc at + length xs = omega arith
    in rw e (sets_join xs ys (set l at x) (suc at))

-- bytes stored further on leave a byte as it is
kept : (xs l : List ℕ) (at i : ℕ) → i < at → get_or (sets l at xs) i 0 ≡ get_or l i 0
kept [] l at i h = refl
kept (x ∷ xs) l at i h =
    let ne : i ≡ at → ⊥ = λ e. omega arith
    in kept xs (set l at x) (suc at) i (omega arith) ∙ get_or-set_other l at i x 0 ne

pub read_written : (k x : ℕ) (l : List ℕ) (at : ℕ) → at + k ≤ length l → x < 256 ^ k → number_at k (sets l at (bytes_of k x)) at ≡ x
read_written zero x l at h b = let z : x < 1 = rw pow-zero at b in omega arith
read_written (suc k) x l at h b =
    let bs = bytes_of k (x / 256) in
    let small : x < 256 ^ k * 256 = rw pow-suc at b in
    let first : get_or (sets (set l at (x % 256)) (suc at) bs) at 0 ≡ x % 256
    = kept bs (set l at (x % 256)) (suc at) at (omega arith) ∙ get_or-set_same l at (x % 256) 0 (omega arith) in
    let room : suc at + k ≤ length (set l at (x % 256)) = rw length-set (omega arith) in
    let rest : number_at k (sets (set l at (x % 256)) (suc at) bs) (at + 1) ≡ x / 256
    = rw add-one (read_written k (x / 256) (set l at (x % 256)) (suc at) room (omega arith)) in
    omega arith

-- The first of some bytes written, the others are those of the number's rest.
pub byte_more : (count k at x : ℕ) (l : List ℕ) {all : List ℕ} → k < count → sets l (at + k) (bytes_of (count - k) x) ≡ all
    → sets (set l (at + k) (x % 256)) (at + (k + 1)) (bytes_of (count - (k + 1)) (x / 256)) ≡ all
byte_more count k at x l h e =
    let more : count - k ≡ suc (count - (k + 1)) = omega arith in
    let next : at + (k + 1) ≡ suc (at + k) = omega arith in
    rw next (rw more at e)

-- Two runs of bytes written from the start on, one after the other: they stand there, and what is past them stays.
pub front_written : (A B out : List ℕ) {m r : List ℕ} → m ≡ sets out 0 A → r ≡ sets m (length A) B → length (A ++ B) ≤ length out
    → r ≡ A ++ B ++ drop (length (A ++ B)) out
front_written A B out p q h =
    let from : 0 + length A ≡ length A = zero-add (length A) in
    q ∙ rw p (rw (← from) (sets_join A B out 0) ∙ sets-eq (A ++ B) out 0 (rw (zero-add (length (A ++ B))) h) ∙ rw (zero-add (length (A ++ B))))

-- A number's own bytes make it again.
number_behind : (k b : ℕ) (bytes : List ℕ) (at : ℕ) → number_at k (b ∷ bytes) (at + 1) ≡ number_at k bytes at
number_behind zero b bytes at = refl
number_behind (suc k) b bytes at = rw (add-one at) (rw (← add-one at) (ap (λ (n : ℕ). get_or bytes at 0 + 256 * n) (number_behind k b bytes (at + 1))))

pub read_back : (k x : ℕ) → x < 256 ^ k → number_at k (bytes_of k x) 0 ≡ x
read_back zero x h = let z : x < 1 = rw pow-zero at h in omega arith
read_back (suc k) x h =
    let small : x < 256 ^ k * 256 = rw pow-suc at h in
    let rest : number_at k (x % 256 ∷ bytes_of k (x / 256)) (0 + 1) ≡ x / 256
    = number_behind k (x % 256) (bytes_of k (x / 256)) 0 ∙ read_back k (x / 256) (omega arith) in
    omega arith

-- A number behind the first bytes stands in the rest of them.
pub number_drop : (k m j : ℕ) (bytes : List ℕ) → number_at k bytes (m + j) ≡ number_at k (drop m bytes) j
number_drop zero m j bytes = refl
number_drop (suc k) m j bytes =
    let next : m + j + 1 ≡ m + (j + 1) = omega arith in
    rw (next, number_drop k m (j + 1) bytes, get_or-drop m bytes j 0)

-- Numbers of the same bytes are the same; so a number is that of its own bytes.
pub number_same : (k : ℕ) (bytes other : List ℕ) (at from : ℕ) → ((i : ℕ) → i < k → get_or bytes (at + i) 0 ≡ get_or other (from + i) 0)
    → number_at k bytes at ≡ number_at k other from
number_same zero bytes other at from h = refl
number_same (suc k) bytes other at from h =
    let first : get_or bytes at 0 ≡ get_or other from 0 = rw (add-zero at, add-zero from) at (h 0 (omega arith)) in
    let next : (i : ℕ) → at + 1 + i ≡ at + suc i = λ i. omega arith in
    let there : (i : ℕ) → from + 1 + i ≡ from + suc i = λ i. omega arith in
    rw (first, number_same k bytes other (at + 1) (from + 1) (λ i l. rw (next i, there i) (h (suc i) (omega arith))))

pub number_own : (k at : ℕ) (bytes : List ℕ) → number_at k bytes at ≡ number_at k (take k (drop at bytes)) 0
number_own k at bytes =
    number_same k bytes (take k (drop at bytes)) at 0
    (λ i l. let same : 0 + i ≡ i = zero-add i in rw same (sym (get_or-take k (drop at bytes) i 0 l ∙ get_or-drop at bytes i 0)))

-- The bytes of a number that is read are those that it is read from.
pub bytes_at : (k at : ℕ) (bytes : List ℕ) → at + k ≤ length bytes → ((i : ℕ) → get_or bytes i 0 < 256)
    → bytes_of k (number_at k bytes at) ≡ take k (drop at bytes)
bytes_at zero at bytes room small = refl
bytes_at (suc k) at bytes room small =
    let rest = number_at k bytes (at + 1) in
    let low : (get_or bytes at 0 + 256 * rest) % 256 ≡ get_or bytes at 0 = omega (arith, small at) in
    let high : (get_or bytes at 0 + 256 * rest) / 256 ≡ rest = omega (arith, small at) in
    rw (low, high, drop-cons bytes at 0 (omega arith), ← add-one at) (ap (λ (bs : List ℕ). get_or bytes at 0 ∷ bs) (bytes_at k (at + 1) bytes (omega arith) small))

-- A list with a part of it overwritten has the part's numbers stored from there on.
pub part_written : (at k : ℕ) (out xs : List ℕ) → length xs ≡ k → at + k ≤ length out → put_mid at k out xs ≡ sets out at xs
part_written at k out xs long room =
    let fits : at + length xs ≤ length out = omega arith in
    let rest : drop k (drop at out) ≡ drop (at + length xs) out = rw long (drop-drop k at out) in
    ap (λ (l : List ℕ). take at out ++ (xs ++ l)) rest ∙ (sym (append_assoc (take at out) xs (drop (at + length xs) out)) ∙ sym (sets-eq xs out at fits))

-- std's eight bytes of a number are those of `bytes_of`, and the first of more bytes are those of the number's low part.
pub eight_bytes : (x : ℕ) → to_le_bytes w64 x ≡ bytes_of 8 x
eight_bytes x = simp div-div-eq-div-mul

low_bytes : (k more x : ℕ) → take k (bytes_of (k + more) x) ≡ bytes_of k x
low_bytes zero more x = refl
low_bytes (suc k) more x = rw suc-add (ap (λ (bs : List ℕ). x % 256 ∷ bs) (low_bytes k more (x / 256)))

pub few_bytes : (k x : ℕ) {wide : List ℕ} → k ≤ 8 → wide ≡ to_le_bytes w64 x → take k wide ≡ bytes_of k x
few_bytes k x few e =
    let parts : 8 ≡ k + (8 - k) = omega arith in
    rw e (ap (take k) (eight_bytes x ∙ ap (λ (n : ℕ). bytes_of n x) parts) ∙ low_bytes k (8 - k) x)

-- A number of small bytes is small, and one of zeros is 0.
pub number_small : (k at : ℕ) (bytes : List ℕ) → ((i : ℕ) → get_or bytes i 0 < 256) → number_at k bytes at < 256 ^ k
number_small zero at bytes small = rw pow-zero (omega arith)
number_small (suc k) at bytes small = rw pow-suc (omega (arith, small at, number_small k (at + 1) bytes small))

number_none : (k at : ℕ) (bytes : List ℕ) → ((i : ℕ) → at ≤ i → get_or bytes i 0 ≡ 0) → number_at k bytes at ≡ 0
number_none zero at bytes none = refl
number_none (suc k) at bytes none = omega (arith, none at (omega arith), number_none k (at + 1) bytes (λ i l. none i (omega arith)))

zero_at : (n i : ℕ) → ◌≡◌ {A = ℕ} (get_or (replicate n 0) i 0) 0
zero_at zero i = refl
zero_at (suc n) zero = refl
zero_at (suc n) (suc i) = zero_at n i

-- Eight bytes, the first k of them copied from a place and the others 0, make the number of those k.
pub number_widened : (k at : ℕ) (bytes : List ℕ) {wide : List ℕ} → k ≤ 8 → at + k ≤ length bytes
    → wide ≡ take k (drop at bytes) ++ drop k (replicate 8 0) → from_le_bytes w64 wide ≡ number_at k bytes at
number_widened k at bytes {wide} few room e =
    let parts : k + (8 - k) ≡ 8 = omega arith in
    let long : length (take k (drop at bytes)) ≡ k = length-take-le k (drop at bytes) (simp length-drop (omega arith)) in
    let copied : number_at k wide 0 ≡ number_at k bytes at
    = number_same k wide bytes 0 at
    (λ i l.
    let same : 0 + i ≡ i = zero-add i in
    rw (same, e) (get_or-append (take k (drop at bytes)) (drop k (replicate 8 0)) 0 i (omega (arith, long)) ∙ (get_or-take k (drop at bytes) i 0 l ∙ get_or-drop at bytes i 0))) in
    let others : number_at (8 - k) wide (0 + k) ≡ 0
    = number_none (8 - k) (0 + k) wide
    (λ i l.
    rw e
    (get_or-append_right (take k (drop at bytes)) (drop k (replicate 8 0)) i 0 (omega (arith, long))
    ∙ (get_or-drop k (replicate 8 0) (i - length (take k (drop at bytes))) 0 ∙ zero_at 8 (k + (i - length (take k (drop at bytes))))))) in
    let all : from_le_bytes w64 wide ≡ number_at 8 wide 0 = omega arith in
    let joined = rw parts at (number_join k (8 - k) wide 0) in
    let none : 256 ^ k * number_at (8 - k) wide (0 + k) ≡ 0 = rw others (omega arith) in
    omega (arith, all, joined, none, copied)
