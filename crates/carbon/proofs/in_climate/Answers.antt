-- Each arm has the rates of its climate; what is no climate has none.
use Rattle.std.proofs.Common.{◌≡◌, ℕ, zero, suc, ◌+◌, List, replicate, refl, arith}
use Rattle.numbers.specs.Eight.{eight}
use Rattle.decay.specs.Series.{at_rate}
use Rattle.waste.specs.Waste.{rate_of}
use Rattle.carbon.proofs.in_climate.Goals as goal

no_climate : (table : List ℕ) (climate : ℕ) → (climate ≡ 1 → ⊥) → (climate ≡ 2 → ⊥) → (climate ≡ 3 → ⊥) → (climate ≡ 4 → ⊥)
    → replicate 8 0 ≡ eight (λ t. at_rate table (rate_of (t + 1) climate))
unfolding rate_of
no_climate table zero a b c d = refl
no_climate table (suc zero) a b c d = absurd (a refl)
no_climate table (suc (suc zero)) a b c d = absurd (b refl)
no_climate table (suc (suc (suc zero))) a b c d = absurd (c refl)
no_climate table (suc (suc (suc (suc zero)))) a b c d = absurd (d refl)
no_climate table (suc (suc (suc (suc (suc climate))))) a b c d = refl

pub returns-in_default : goal.returns-in_default
returns-in_default c =
    let a = c.args in
    no_climate a.table.now a.climate (λ e. omega arith) (λ e. omega arith) (λ e. omega arith) (λ e. omega arith)
