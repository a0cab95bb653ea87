-- How large things can be: a ceiling, an entry, what is left, and a sum; and that more carbon leaves and releases no less.
use Rattle.std.proofs.Common.{◌≡◌, ℕ, ◌+◌, ◌-◌, ◌*◌, ◌%◌, ◌^◌, ◌<◌, ◌≤◌, ap, mul-le-mul_right, mod-eq_of_lt, mul-le-mul, mul-le-mul_left, arith}
use Rattle.numbers.specs.Eight.{sum_of}
use Rattle.numbers.proofs.Eight.{sum_most}
use Rattle.decay.proofs.Rule.{entry_below}
use Rattle.waste.specs.Waste.{mass_limit, most_carbon_of, most_carbon}
use Rattle.waste.proofs.Laws.{highest_most}
use Rattle.carbon.specs.Carbon.{most_records, most_brought, entry_at, left_of, ceiling_of}

pub ceiling_most : (n t : ℕ) → n ≤ most_records → ceiling_of n t ≤ most_brought
unfolding ceiling_of
ceiling_most n t h =
    let m : n * mass_limit * most_carbon_of (t + 1) ≤ most_records * mass_limit * most_carbon
    = mul-le-mul {n₂ = most_records * mass_limit} {m₂ = most_carbon} (omega arith) (highest_most (t + 1)) in
    omega arith

pub entry_small : (kind climate t : ℕ) → entry_at kind climate t < 10 ^ 9
unfolding entry_at
entry_small kind climate t = entry_below kind _

-- What is left is at most what was held, and less where anything was.
pub left_most : (H D : ℕ) → D < 10 ^ 9 → left_of H D ≤ H
unfolding left_of
left_most H D h = omega (arith, mul-le-mul_left H h)

pub left_less : (H D : ℕ) → D < 10 ^ 9 → 0 < H → left_of H D < H
unfolding left_of
left_less H D h some = omega (arith, mul-le-mul_left H h)

-- Where more is held, no less is left, and no less is released: D is below 10^9, so what is left rises by no more than what is held.
pub left_grows : (H H' D : ℕ) → H ≤ H' → left_of H D ≤ left_of H' D
unfolding left_of
left_grows H H' D h = omega (arith, mul-le-mul_right D h)

pub release_grows : (H H' D : ℕ) → D < 10 ^ 9 → H ≤ H' → H - left_of H D ≤ H' - left_of H' D
unfolding left_of
release_grows H H' D small h = by (H' - H) (omega arith)
  where
    by : (more : ℕ) → H' ≡ H + more → H - left_of H D ≤ H' - left_of H' D
    by more e = omega (arith, ap (λ (x : ℕ). x * D) e, mul-le-mul_left more small)

-- A sum of eight small numbers is in 64 bits what it is.
pub sum_fits : (f : ℕ → ℕ) → ((t : ℕ) → t < 8 → f t ≤ most_brought) → sum_of f 8 % 2 ^ 64 ≡ sum_of f 8
sum_fits f h = mod-eq_of_lt (omega (arith, sum_most f most_brought 8 h))
