-- What request g claims, proved.
use Rattle.promise_order.specs.Promise.{OrderPromise}
use Rattle.promise_order.proofs.Shuffled.{when_passed, repair_where, repair_20, repair_21, repair_22, types_seen_lem}
use Rattle.promise_order.proofs.Righted.{put_right, brought_back, has_inverse, in_order, none_changed}

pub order_promise : OrderPromise
order_promise =
    record {
      repair_where = repair_where;
      repair_20 = repair_20;
      repair_21 = repair_21;
      repair_22 = repair_22;
      types_seen_lem = types_seen_lem;
      repair_well = λ s z. put_right s (when_passed s z);
      repair_undone = λ s back out report z inverse room. brought_back s back out report (when_passed s z) inverse room;
      has_inverse = has_inverse;
      in_order = λ s e z. in_order s (when_passed s z) e;
      none_changed = λ s z bytes. none_changed s (when_passed s z) bytes;
    }
