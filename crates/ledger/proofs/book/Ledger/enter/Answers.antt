-- Each number is what its call ensures; the ledger after an accepted record is sound, so its numbers are small, and what is gone of T is
-- what was released.
use mathlib.Core.Path.{◌≡◌, ◌∙◌}
use Prim.Native.Nat.{◌-◌, ◌≤◌}
use native.Mathlib.Omega.{arith}
use borrow.Author.Tests.{le-leb}
use lib.ListN.{length, get_or}
use Rattle.numbers.specs.Eight.{eight}
use Rattle.record.specs.Fields.{record_bytes}
use Rattle.output.specs.Output.{written}
use Rattle.ledger.specs.Step.{new_brought, new_stock, new_released, period_of_all, after}
use Rattle.ledger.specs.Take.{accepted_of, entered_of, total_stock, total_brought, output_fields, output_record}
use Rattle.ledger.proofs.Sound.{Sound, sound_is, gone_is}
use Rattle.ledger.proofs.Settle.{none_released}
use Rattle.ledger.proofs.Accepted.{Accepted, accepted_meets, stays_sound, has_room, room_alike}
use Rattle.ledger.proofs.book.Ledger.enter.Goals as goal

pub decay_all-x0-requires : goal.decay_all-x0-requires
decay_all-x0-requires c =
    let enough : record_bytes ≤ length c.args.out.now = has_room c.args.self c.args.bytes.now (length c.args.out.now) c.requires.out_value in
    let s = c in
    record { record_bytes_value = room_alike s.args.self s.args.bytes.now record_bytes (length s.args.out.now) (omega arith) enough ∙ s.requires.out_value; entries_value = s.requires.entries_value }

pub less-released-requires : goal.less-released-requires
unfolding period_of_all after
less-released-requires c =
    let taken : Accepted c.args.self c.args.bytes.now = accepted_meets c.args.self c.args.bytes.now (length c.args.out.now) c.requires.out_value in
    let next-sound : Sound (after c.args.self c.args.bytes.now) = sound_is (after c.args.self c.args.bytes.now) (stays_sound c.args.self c.args.bytes.now taken) in
    λ t place.
    rw c.decay_all-x0.ensures (next-sound.at t place).kept

pub filed-says-requires : goal.filed-says-requires
unfolding period_of_all after
filed-says-requires c =
    let taken : Accepted c.args.self c.args.bytes.now = accepted_meets c.args.self c.args.bytes.now (length c.args.out.now) c.requires.out_value in
    let next-sound : Sound (after c.args.self c.args.bytes.now) = sound_is (after c.args.self c.args.bytes.now) (stays_sound c.args.self c.args.bytes.now taken) in
    let s = c in
    let all = c.decay_all-x0.ensures in
    record { bytes_value = taken.ranges; x0_value = rw all (none_released s.args.self s.args.bytes.now); by_index = λ t place. rw all (let w = next-sound.at t place in (w.small, omega (arith, w.kept, w.small))) }

pub returns : goal.returns
unfolding entered_of accepted_of after period_of_all output_fields output_record written total_stock total_brought
returns c =
    let enough : record_bytes ≤ length c.args.out.now = has_room c.args.self c.args.bytes.now (length c.args.out.now) c.requires.out_value in
    let taken : Accepted c.args.self c.args.bytes.now = accepted_meets c.args.self c.args.bytes.now (length c.args.out.now) c.requires.out_value in
    let released-is : let l = c.args.self in let bytes = c.args.bytes.now in
    eight (λ t. get_or (eight (new_brought l bytes)) t 0 - get_or (eight (new_stock l bytes)) t 0) ≡ eight (new_released l bytes) = gone_is (after c.args.self c.args.bytes.now) (stays_sound c.args.self c.args.bytes.now taken) in
    let says_is : let a = c.args in
    c.filed-says.result ≡ output_fields (accepted_of a.self a.bytes.now) = c.filed-says.ensures ∙ rw c.decay_all-x0.ensures in
    let f = c in
    let s = f in record { value = rw (says_is, f.less-released.ensures, f.after-year.ensures, f.decay_all-x0.ensures, released-is); out_after = (simp (le-leb record_bytes (length s.args.out.now) enough) at c.write.ensures) ∙ rw says_is }

pub overflow_add-n : goal.overflow_add-n
overflow_add-n c =
    let taken : Accepted c.args.self c.args.bytes.now = accepted_meets c.args.self c.args.bytes.now (length c.args.out.now) c.requires.out_value in
    omega (arith, taken.more)
