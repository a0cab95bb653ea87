-- A line for every 48 bytes begun, or one more than a ledger takes records.
use Rattle.std.proofs.Common.{◌≡◌, ℕ, ◌+◌, ◌≤◌, min, ap, ◌∙◌, rules, arith, le-leb}
use Rattle.std.proofs.lemmas.Bool.{lt-leb}
use native.Mathlib.Decide.{dec_le}
use Rattle.carbon.specs.Carbon.{most_records}
use Rattle.run.specs.History.{records_begun}
use Rattle.lines.specs.Listing.{most_lines}
use Rattle.lines.proofs.most_lines.Goals as goal

at_most : (records : ℕ) → min records (most_records + 1) ≡ most_lines records
unfolding most_lines
at_most records = by_size (dec_le records (most_records + 1))
  where
    by_size : Dec (records ≤ most_records + 1) → min records (most_records + 1) ≡ most_lines records
    by_size (yes few) = simp (le-leb records (most_records + 1) few) (omega arith)
    by_size (no many) = simp (lt-leb records (most_records + 1) (omega arith)) (omega arith)

pub returns : goal.returns
returns c =
    let begun : c.div_ceil.result ≡ records_begun c.args.bytes = omega arith in
    let least : c.min.result ≡ min c.div_ceil.result (most_records + 1) = search rules in
    (least ∙ ap (λ (k : ℕ). min k (most_records + 1)) begun ∙ at_most (records_begun c.args.bytes), omega arith)
