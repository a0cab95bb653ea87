-- Laws of faults: where the refusal is 0, the fault with any number is not there; a fault is named by its number, not by its place,
-- also where one is inserted.
use mathlib.Core.Path.{◌≡◌, refl, sym, ◌∙◌}
use mathlib.Core.Bool.{Bool, true, false, cond, ◌&&◌, ◌||◌, and-false, or-true}
use mathlib.Core.List.{List, [], ◌∷◌, ◌++◌}
use Prim.Native.Nat.{ℕ, zero, suc, ◌≤◌}
use native.Mathlib.Omega.{arith}
use borrow.Author.Tests.{leb-true, eq-eqb, ne_eqb, le-ltb}
use lib.Dec.{eqb, leb, ltb, eqb-suc-zero}
use Rattle.numbers.specs.Fault.{Fault, ◌when◌, between, first_of, ahead, inserted}
use Rattle.numbers.proofs.Eight.{both_true}

module _ (low x high : ℕ) (e : between low x high ≡ true) where
  pub between_low : low ≤ x
  between_low = leb-true low x (both_true (leb low x) (leb x high) e).0

  pub between_high : x ≤ high
  between_high = leb-true x high (both_true (leb low x) (leb x high) e).1

-- No fault has the number 0.
abbrev pub all_numbered : List Fault → Bool
all_numbered [] = true
all_numbered ((zero, bad) ∷ rest) = false
all_numbered ((suc number, bad) ∷ rest) = all_numbered rest

-- Whether the fault with a number is there.
abbrev pub is_bad : ℕ → List Fault → Bool
is_bad k [] = false
is_bad k ((number, bad) ∷ rest) = cond (eqb number k) bad (is_bad k rest)

-- The fault with a number and those that are tested behind it.
abbrev pub onward : ℕ → List Fault → List Fault
onward k [] = []
onward k ((number, bad) ∷ rest) = cond (eqb number k) (number when bad ∷ rest) (onward k rest)

not_there : (here : Bool) {later : Bool} → later ≡ false → cond here false later ≡ false
not_there true h = refl
not_there false h = h

-- Where none is found, the fault with any number is not there.
pub clear : (k : ℕ) (faults : List Fault) → all_numbered faults ≡ true → first_of faults ≡ 0 → is_bad k faults ≡ false
clear k [] n e = refl
clear k ((zero, bad) ∷ rest) n e = cc
clear k ((suc number, true) ∷ rest) n e = absurd (omega arith)
clear k ((suc number, false) ∷ rest) n e = not_there (eqb (suc number) k) (clear k rest n e)

-- Whether a fault with a number is there, at any place; the one that refuses is.
abbrev pub is_there : ℕ → List Fault → Bool
is_there k [] = false
is_there k ((number, bad) ∷ rest) = eqb number k && bad || is_there k rest

pub refused_with : (k : ℕ) (faults : List Fault) → first_of faults ≡ suc k → is_there (suc k) faults ≡ true
refused_with k [] e = absurd (omega arith)
refused_with k ((number, true) ∷ rest) e = simp (eq-eqb number (suc k) e)
refused_with k ((number, false) ∷ rest) e = rw (and-false (eqb number (suc k))) (refused_with k rest e)

-- Where one is found ahead of a number, it is the first of all; where none is, those from the number on decide.
module _ (k : ℕ) where
  abbrev Parted : List Fault → List Fault → List Fault → Type 0
  Parted all early late =
      ((first_of early ≡ 0 → ⊥) → first_of all ≡ first_of early) × (first_of early ≡ 0 → first_of all ≡ first_of late)

  pub parted : (faults : List Fault) → all_numbered faults ≡ true → Parted faults (ahead k faults) (onward k faults)
  parted [] n = (λ h. refl, λ h. refl)
  parted ((zero, bad) ∷ rest) n = let z : ◌≡◌ {A = ℕ} 0 1 = cc in absurd (omega arith)
  parted ((suc number, bad) ∷ rest) n = by_test (eqb (suc number) k) bad (parted rest n)
    where
      by_test : (here bad : Bool) → Parted rest (ahead k rest) (onward k rest)
          → Parted (suc number when bad ∷ rest) (cond here [] (suc number when bad ∷ ahead k rest)) (cond here (suc number when bad ∷ rest) (onward k rest))
      by_test true bad on = (λ h. absurd (h refl), λ h. refl)
      by_test false true on = (λ h. refl, λ h. absurd (omega arith))
      by_test false false on = on

-- Whether all faults have numbers up to k, or all have numbers over k; then so has the first of them, where there is one.
abbrev pub all_up_to : ℕ → List Fault → Bool
all_up_to k [] = true
all_up_to k ((number, bad) ∷ rest) = leb number k && all_up_to k rest

abbrev pub all_over : ℕ → List Fault → Bool
all_over k [] = true
all_over k ((number, bad) ∷ rest) = ltb k number && all_over k rest

pub first_up_to : (k : ℕ) (faults : List Fault) → all_up_to k faults ≡ true → first_of faults ≤ k
first_up_to k [] e = omega arith
first_up_to k ((number, true) ∷ rest) e = leb-true number k (both_true (leb number k) (all_up_to k rest) e).0
first_up_to k ((number, false) ∷ rest) e = first_up_to k rest (both_true (leb number k) (all_up_to k rest) e).1

pub first_over : (k : ℕ) (faults : List Fault) → all_over k faults ≡ true → (eqb (first_of faults) 0 || ltb k (first_of faults)) ≡ true
first_over k [] e = refl
first_over k ((number, true) ∷ rest) e = simp ((both_true (ltb k number) (all_over k rest) e).0, or-true)
first_over k ((number, false) ∷ rest) e = first_over k rest (both_true (ltb k number) (all_over k rest) e).1

-- A fault that is inserted before another: the refusal is that of the faults before it where there is one, else its own number where
-- it is there, else that of the faults after it.
abbrev first_with : (number : ℕ) (bad : Bool) (early late : ℕ) → ℕ
first_with number bad early late = cond (eqb early 0) (cond bad number late) early

pub inserted_first : (k number : ℕ) (bad : Bool) (faults : List Fault) → all_numbered faults ≡ true
    → first_of (inserted k (number when bad) faults) ≡ first_with number bad (first_of (ahead k faults)) (first_of (onward k faults))
inserted_first k number bad [] n = refl
inserted_first k number bad ((zero, other) ∷ rest) n = cc
inserted_first k number bad ((suc m, other) ∷ rest) n = by_test (eqb (suc m) k) other (inserted_first k number bad rest n)
  where
    by_test : (here other : Bool)
        → first_of (inserted k (number when bad) rest) ≡ first_with number bad (first_of (ahead k rest)) (first_of (onward k rest))
        → first_of (cond here (number when bad ∷ suc m when other ∷ rest) (suc m when other ∷ inserted k (number when bad) rest))
        ≡ first_with number bad (first_of (cond here [] (suc m when other ∷ ahead k rest))) (first_of (cond here (suc m when other ∷ rest) (onward k rest)))
    by_test true other on = refl
    by_test false true on = rw (eqb-suc-zero m)
    by_test false false on = on

-- Where the faults before it have numbers up to m and those after it have numbers over m, the refusal is known from that without it.
pub inserted_turns : (k number m : ℕ) (bad : Bool) (faults : List Fault) → all_numbered faults ≡ true → all_up_to m (ahead k faults) ≡ true
    → all_over m (onward k faults) ≡ true
    → first_of (inserted k (number when bad) faults) ≡ cond (bad && (eqb (first_of faults) 0 || ltb m (first_of faults))) number (first_of faults)
inserted_turns k number m bad faults n up over =
    let p = parted k faults n in
    inserted_first k number bad faults n
    ∙ by_early (first_of (ahead k faults)) (first_of (onward k faults)) (first_of faults) (first_up_to m (ahead k faults) up) (first_over m (onward k faults) over) p.0 p.1
  where
    by_late : (b : Bool) (late : ℕ) → cond b number late ≡ cond (b && true) number late
    by_late true late = refl
    by_late false late = refl

    by_early : (early late q : ℕ) → early ≤ m → (eqb late 0 || ltb m late) ≡ true → ((early ≡ 0 → ⊥) → q ≡ early) → (early ≡ 0 → q ≡ late)
        → first_with number bad early late ≡ cond (bad && (eqb q 0 || ltb m q)) number q
    by_early zero late q small large some none = rw (none refl, large) (by_late bad late)
    by_early (suc early) late q small large some none =
        rw (some (λ z. omega arith)) (simp (ne_eqb (suc early) 0 (λ z. omega arith), le-ltb m (suc early) small, and-false))

-- One that is not there changes no refusal.
pub inserted_absent : (k number : ℕ) (bad : Bool) (faults : List Fault) → bad ≡ false → first_of (inserted k (number when bad) faults) ≡ first_of faults
inserted_absent k number bad [] e = rw e
inserted_absent k number bad ((m, other) ∷ rest) e = by_test (eqb m k) (inserted_absent k number bad rest e)
  where
    by_test : (here : Bool) → first_of (inserted k (number when bad) rest) ≡ first_of rest
        → first_of (cond here (number when bad ∷ m when other ∷ rest) (m when other ∷ inserted k (number when bad) rest)) ≡ cond other m (first_of rest)
    by_test true on = rw e
    by_test false on = rw on

-- Where none is found, none is found without it, and it is not there.
pub inserted_clear : (k number : ℕ) (bad : Bool) (faults : List Fault) → all_numbered (number when bad ∷ faults) ≡ true
    → first_of (inserted k (number when bad) faults) ≡ 0 → (first_of faults ≡ 0) × (bad ≡ false)
inserted_clear k zero bad faults n e = (cc, cc)
inserted_clear k (suc number) false faults n e = (sym (inserted_absent k (suc number) false faults refl) ∙ e, refl)
inserted_clear k (suc number) true faults n e = absurd (some (first_of (ahead k faults)) (sym (inserted_first k (suc number) true faults n) ∙ e))
  where
    some : (early : ℕ) → first_with (suc number) true early (first_of (onward k faults)) ≡ 0 → ⊥
    some zero z = omega arith
    some (suc m) z = let own : suc m ≡ 0 = rw (eqb-suc-zero m) at z in omega arith

-- With it, still none has the number 0.
pub inserted_numbered : (k number : ℕ) (bad : Bool) (faults : List Fault) → all_numbered (number when bad ∷ faults) ≡ true
    → all_numbered (inserted k (number when bad) faults) ≡ true
inserted_numbered k zero bad faults n = cc
inserted_numbered k (suc number) bad [] n = refl
inserted_numbered k (suc number) bad ((zero, other) ∷ rest) n = cc
inserted_numbered k (suc number) bad ((suc m, other) ∷ rest) n = by_test (eqb (suc m) k) (inserted_numbered k (suc number) bad rest n)
  where
    by_test : (here : Bool) → all_numbered (inserted k (suc number when bad) rest) ≡ true
        → all_numbered (cond here (suc number when bad ∷ suc m when other ∷ rest) (suc m when other ∷ inserted k (suc number when bad) rest)) ≡ true
    by_test true on = n
    by_test false on = on

-- A fault that comes last refuses where no other does.
pub first_last : (number : ℕ) (bad : Bool) (faults : List Fault) → all_numbered faults ≡ true
    → first_of (faults ++ (number when bad ∷ [])) ≡ cond (eqb (first_of faults) 0) (cond bad number 0) (first_of faults)
first_last number bad [] n = refl
first_last number bad ((zero, other) ∷ rest) n = cc
first_last number bad ((suc m, true) ∷ rest) n = rw (eqb-suc-zero m)
first_last number bad ((suc m, false) ∷ rest) n = first_last number bad rest n
