-- Before place p each place passed stands at its type; no two places have one type, so none is lost.
use mathlib.Core.Path.{◌≡◌}
use mathlib.Core.List.{List}
use Prim.Native.Nat.{ℕ, ◌-◌, ◌<◌}
use lib.ListN.{length, get_or}
use Rattle.order.proofs.places.places_of.Given as goal

abbrev pub Placed : (order places : List ℕ) (p : ℕ) → Type 0
Placed order places p = (q : ℕ) → q < p → get_or places (get_or order q 0 - 1) 0 ≡ q

abbrev pub invariant-loop-p : goal.invariant-loop-p
invariant-loop-p l = (length l.places ≡ 8) × (Placed l.order l.places l.p)
