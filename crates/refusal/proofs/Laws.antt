-- The refusal is what everything before the masses decides, and else what the masses decide; records that are tested alike have the same faults.
use mathlib.Core.Path.{◌≡◌, refl, ◌∙◌}
use mathlib.Core.Bool.{Bool, true, false, not, cond}
use mathlib.Core.List.{List}
use Prim.Native.Nat.{ℕ, zero, suc}
use native.Mathlib.Omega.{arith}
use lib.Dec.{eqb, eqb-suc-zero, lit<}
use lib.ListN.{length}
use Rattle.numbers.specs.Eight.{every_of}
use Rattle.numbers.specs.Fault.{first_of, ahead}
use Rattle.numbers.proofs.Fault.{parted}
use Rattle.record.specs.Fields.{zeros_of}
use Rattle.record.specs.Ranges.{dry_in_range, light}
use Rattle.record.proofs.Front.{SameFront, same_period, same_factors, same_codes}
use Rattle.year_factors.specs.declared.YearFactors.{YearFactors}
use Rattle.year_factors.proofs.Laws.{shares_alike}
use Rattle.refusal.specs.Refusal.{continues, faults_of}

module _ (good : Bool) (n kind climate : ℕ) (year : YearFactors) (bytes : List ℕ) (room : ℕ) where
  abbrev pub early_of : ℕ
  early_of = first_of (ahead 9 (faults_of good n kind climate year bytes room))

  pub first_early : (early_of ≡ 0 → ⊥) → first_of (faults_of good n kind climate year bytes room) ≡ early_of
  unfolding faults_of
  first_early h = (parted 9 (faults_of good n kind climate year bytes room) refl).0 h

  pub first_late : early_of ≡ 0 → first_of (faults_of good n kind climate year bytes room) ≡ cond (not (every_of (light bytes) 8)) 9 0
  unfolding faults_of
  first_late h = (parted 9 (faults_of good n kind climate year bytes room) refl).1 h

  pub first_with_masses : first_of (faults_of good n kind climate year bytes room) ≡ cond (eqb early_of 0) (cond (every_of (light bytes) 8) 0 9) early_of
  first_with_masses = from early_of refl
    where
      unless : (b : Bool) → ◌≡◌ {A = ℕ} (cond (not b) 9 0) (cond b 0 9)
      unless true = refl
      unless false = refl

      from : (early : ℕ) → early_of ≡ early → first_of (faults_of good n kind climate year bytes room) ≡ cond (eqb early 0) (cond (every_of (light bytes) 8) 0 9) early
      from zero e = first_late e ∙ unless (every_of (light bytes) 8)
      from (suc m) e = rw (eqb-suc-zero m) (first_early (λ z. omega arith) ∙ e)

-- Two records that have the same bytes 0 to 11 continue a ledger alike. Where they are tested alike past these bytes, they have the same faults.
module _ (one other : List ℕ) (byte : SameFront one other) where
  pub continues_alike : (kind climate : ℕ) → continues kind climate one ≡ continues kind climate other
  unfolding continues
  continues_alike kind climate = rw (byte 2 (lit< tt), byte 3 (lit< tt))

  pub faults_alike : length one ≡ length other → zeros_of one ≡ zeros_of other → dry_in_range one ≡ dry_in_range other → every_of (light one) 8 ≡ every_of (light other) 8
      → (good : Bool) (n kind climate : ℕ) (year : YearFactors) (room : ℕ) → faults_of good n kind climate year one room ≡ faults_of good n kind climate year other room
  unfolding faults_of
  faults_alike size zeros dry lights good n kind climate year room =
      rw (
        size,
        same_codes one other byte zeros,
        same_period one other byte,
        continues_alike kind climate,
        same_factors one other byte,
        dry,
        shares_alike one other byte n year,
        lights,
      )
