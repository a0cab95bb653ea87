-- What is known of the grams of a stretch: in std's words, how many they are, and how large together.
use mathlib.Core.Path.{◌≡◌, refl, sym, ap}
use mathlib.Core.Bool.{Bool, true, false, ◌&&◌}
use mathlib.Core.List.{List, [], ◌∷◌}
use Prim.Native.Nat.{ℕ, ◌+◌, ◌-◌, ◌*◌, ◌≤◌}
use native.Mathlib.Omega.{arith}
use borrow.Author.Tests.{leb-true, eqb-true, not-false}
use lib.Dec.{eqb, leb}
use lib.ListN.{length}
use Rattle.std.specs.List.{list_all, sum}
use Rattle.std.proofs.lemmas.List.Recursion.{is_sum_by}
use Rattle.numbers.proofs.Eight.{both_true, three_true}
use Rattle.numbers.proofs.Fault.{is_bad, clear}
use Rattle.reductions.specs.Stretch.{most_grams, grams_light, all_grams, is_stretch, stretch_faults, stretch_refusal}

-- No entries are over the limit, and so many of them are at most so many times the limit.
pub light_most : (grams : List ℕ) → grams_light grams ≡ true → all_grams grams ≤ length grams * most_grams
unfolding grams_light
light_most [] e = omega arith
light_most (one ∷ rest) e =
    let both = both_true (leb one most_grams) (grams_light rest) e in
    omega (arith, leb-true one most_grams both.0, light_most rest both.1)

-- The two words for a list of grams are std's.
pub light_all : (grams : List ℕ) → list_all (λ entry. leb entry most_grams) grams ≡ grams_light grams
unfolding grams_light
light_all [] = refl
light_all (entry ∷ rest) = ap (λ (b : Bool). leb entry most_grams && b) (light_all rest)

pub grams_sum : (grams : List ℕ) → sum grams ≡ all_grams grams
grams_sum grams = sym (is_sum_by all_grams (λ entry. entry) refl (λ _ _. refl) grams)

-- What a stretch that is not refused is known to meet.
module _ (first last years : ℕ) (electricity fuel : List ℕ) (e : stretch_refusal first last years electricity fuel ≡ 0) where
  none : (k : ℕ) → is_bad k (stretch_faults first last years electricity fuel) ≡ false
  unfolding stretch_refusal
  none k = clear k (stretch_faults first last years electricity fuel) refl e

  pub entries_light : (grams_light electricity ≡ true) × (grams_light fuel ≡ true)
  entries_light = both_true (grams_light electricity) (grams_light fuel) (not-false (grams_light electricity && grams_light fuel) (none 25))

  pub entries_count : years ≤ 1200 → (length electricity ≤ 1200) × (length fuel ≤ 1200)
  unfolding is_stretch
  entries_count few =
      let count = last + 1 - first in
      let within = leb 1 first && leb first last && leb last years in
      let both = both_true within (eqb (length electricity) count && eqb (length fuel) count) (not-false _ (none 24)) in
      let tests = three_true (leb 1 first) (leb first last) (leb last years) both.0 in
      let counts = both_true (eqb (length electricity) count) (eqb (length fuel) count) both.1 in
      let low = leb-true 1 first tests.0 in
      let high = leb-true last years tests.1.1 in
      (omega (arith, eqb-true (length electricity) count counts.0), omega (arith, eqb-true (length fuel) count counts.1))

  -- so the grams of either kind can be added
  pub addable : years ≤ 1200 → ((grams_light electricity ≡ true) × (length electricity ≤ 1200)) × ((grams_light fuel ≡ true) × (length fuel ≤ 1200))
  addable few = let count = entries_count few in ((entries_light.0, count.0), (entries_light.1, count.1))
