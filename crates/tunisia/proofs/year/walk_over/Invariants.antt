-- Before each place, the whole walk is the walk from here over the records that are left.
use mathlib.Core.Path.{◌≡◌}
use Prim.Native.Nat.{◌-◌, ◌*◌}
use lib.ListN.{drop}
use Rattle.record.specs.Fields.{record_bytes}
use Rattle.tunisia.specs.Walk.{walked_over, AllReady}
use Rattle.tunisia.proofs.year.walk_over.Given as goal

abbrev pub invariant-loop-place : goal.invariant-loop-place
invariant-loop-place l = (walked_over l.stretch.first l.stretch.last l.count l.initial.walked l.file l.out
    ≡ walked_over l.stretch.first l.stretch.last (l.count - l.place) l.walked (drop (record_bytes * l.place) l.file) (drop (record_bytes * l.place) l.out))
    × AllReady l.stretch.first l.stretch.last (l.count - l.place) l.walked (drop (record_bytes * l.place) l.file) (drop (record_bytes * l.place) l.out)
