-- Digits that are read one after another: one more named, and all of them.
use mathlib.Core.Path.{◌≡◌, sym, ap, ◌∙◌}
use mathlib.Core.List.{List, [], ◌∷◌, ◌++◌, append-nil, map-append}
use Prim.Native.Nat.{ℕ, suc, ◌+◌, ◌≤◌, ◌<◌}
use native.Mathlib.Numerals.{add-one}
use native.Mathlib.Omega.{arith}
use lib.ListN.{length, take, drop, get_or, set, length-map, drop_of_length-le}
use lib.Seq.{length-take-le, take_all, take-suc, drop-cons, append_snoc, set_at, get_or_at}
use Rattle.repair.specs.Digits.{type_named, types_named}

-- The types of the digits ahead of place p, and the digits from there on.
abbrev pub named_to : (p : ℕ) (word : List ℕ) → List ℕ
named_to p word = types_named (take p word) ++ drop p word

pub as_many_named : (word : List ℕ) → length (types_named word) ≡ length word
unfolding types_named
as_many_named word = length-map word type_named

pub name_next : (word : List ℕ) (p : ℕ) → p < length word → {now : List ℕ} {waste : ℕ} → now ≡ named_to p word → waste ≡ type_named (get_or now p 0)
    → set now p waste ≡ named_to (p + 1) word
unfolding types_named
name_next word p h {now} {waste} e named =
    let digit = get_or word p 0 in
    let front = types_named (take p word) in
    let rest = drop (suc p) word in
    let size : length front ≡ p = as_many_named (take p word) ∙ length-take-le p word (omega arith) in
    let here : now ≡ front ++ digit ∷ rest = e ∙ rw (drop-cons word p 0 h) in
    let its : waste ≡ type_named digit = named ∙ ap (λ (l : List ℕ). type_named (get_or l p 0)) here ∙ ap type_named (get_or_at front digit rest 0 p size) in
    let next : types_named (take (suc p) word) ≡ front ++ (type_named digit ∷ []) = rw (take-suc word p 0 h) (map-append type_named (take p word) (digit ∷ [])) in
    rw (here, its, add-one) (set_at front digit rest (type_named digit) p size ∙ sym (rw next (append_snoc front (type_named digit) rest)))

pub all_named : (word : List ℕ) (p : ℕ) → length word ≤ p → named_to p word ≡ types_named word
all_named word p h = rw (take_all p word h, drop_of_length-le word h) (append-nil (types_named word))
