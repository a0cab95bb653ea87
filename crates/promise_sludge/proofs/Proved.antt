-- What request f claims, proved.
use Rattle.promise_sludge.specs.Promise.{SludgePromise}
use Rattle.promise_sludge.proofs.Sludge.{default_kept, domestic_measured, industrial_measured, over_100, dry_unseen, dry_free, sound_by_lem, still_sound}

pub sludge_promise : SludgePromise
sludge_promise =
    record {
      default_kept = default_kept;
      domestic_measured = domestic_measured;
      industrial_measured = industrial_measured;
      over_100 = over_100;
      dry_unseen = λ l one other room alike. dry_unseen one other alike l room;
      dry_free = λ l one other room alike. dry_free one other alike l room;
      sound_by_lem = sound_by_lem;
      still_sound = still_sound;
    }
