-- The factors of the chain, over their denominators, are shares of at most all.
use Prim.Native.Nat.{ℕ, ◌-◌, ◌*◌, ◌^◌, ◌≤◌}
use native.Mathlib.Nat.{mul-le-mul, sub-le}

pub kept_share : (factor captured : ℕ) → factor ≤ 100 → factor * (10000 - captured) ≤ 10 ^ 6
kept_share factor captured h = mul-le-mul h (sub-le 10000 captured)

module _ (oxidation share docf correction : ℕ) (s : share ≤ 100) where
  pub two_shares : (100 - oxidation) * share ≤ 10 ^ 4
  two_shares = mul-le-mul (sub-le 100 oxidation) s

  module _ (d : docf ≤ 100) where
    pub three_shares : (100 - oxidation) * share * docf ≤ 10 ^ 6
    three_shares = mul-le-mul two_shares d

    pub four_shares : correction ≤ 100 → (100 - oxidation) * share * docf * correction ≤ 10 ^ 8
    four_shares c = mul-le-mul three_shares c
