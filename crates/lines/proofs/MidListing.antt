-- Where a listing stands at the head of its loop, and how a stretch and each end go from there.
use mathlib.Core.Path.{◌≡◌, refl, sym, ap, subst, ◌∙◌}
use mathlib.Core.List.{List, [], ◌++◌, append_assoc, append-nil}
use Prim.Native.Nat.{ℕ, ◌+◌, ◌*◌, ◌≤◌, ◌<◌}
use native.Mathlib.Decide.{dec_le}
use native.Mathlib.Omega.{arith}
use borrow.Author.Tests.{ne_eqb, le-leb, lt-leb}
use lib.ListN.{length, take, drop, length-append, take-append-drop, drop_of_length-le}
use lib.Seq.{length-take-le, take_at, take_all, drop_at, drop-drop, sets-eq}
use Rattle.std.proofs.Common.{min}
use Rattle.std.proofs.lemmas.List.{nil_from_length}
use Rattle.record.specs.Fields.{record_bytes}
use Rattle.carbon.specs.Carbon.{most_records}
use Rattle.ledger.specs.Step.{fresh}
use Rattle.run.specs.History.{outputs, records_of, Run, run_of, out_of, outcome_of, whole_run}
use Rattle.stretches.specs.Stretches.{stretch_bytes, stretch_run}
use Rattle.run.specs.Outcome.{Outcome}
use Rattle.ledger.specs.declared.book.Ledger.{Ledger}
use Rattle.run.proofs.History.{no_records, run_ends, Counts, run_most}
use Rattle.stretches.proofs.Stretches.{rest_run, counts, output_fits, output_size, all_records, stretch_most, goes_on, ends_here}
use Rattle.line.specs.Line.{line_bytes, refused_text}
use Rattle.line.specs.Writing.{Writes}
use Rattle.lines.specs.Listing.{lines_of, end_text, run_text, listing_of, most_lines, room_for, listed_of, text_of, LendableText}
use Rattle.lines.specs.Outputs.{output_lines, Lists}
use Rattle.lines.specs.Listed.{Listed}
use Rattle.lines.proofs.Lines.{lines_say, text_join}

-- So many lines are no more than there can be.
lines_within : (lines records : ℕ) → lines ≤ records → lines ≤ most_records + 1 → lines ≤ most_lines records
unfolding most_lines
lines_within lines records h k = by_size (dec_le records (most_records + 1))
  where
    by_size : Dec (records ≤ most_records + 1) → lines ≤ most_lines records
    by_size (yes few) = simp (le-leb records (most_records + 1) few) h
    by_size (no many) = simp (lt-leb records (most_records + 1) (omega arith)) k

-- A text that is written from a place on stands before what was past its end.
module _ {text text' line : List ℕ} {len end : ℕ} (w : Writes text len line text' end) (fits : len + length line ≤ length text) where
  joined : text' ≡ take len text ++ line ++ drop end text
  joined =
      w.stands ∙ sets-eq line text len fits ∙ ap (λ (k : ℕ). take len text ++ line ++ drop k text) (sym w.ends)

  joined_length : length (take len text ++ line) ≡ end
  joined_length = simp length-append (omega (arith, length-take-le len text (omega arith), w.ends))

  line_stands : take end text' ≡ take len text ++ line
  line_stands = ap (take end) joined ∙ take_at (take len text ++ line) (drop end text) end joined_length

  past_line : (text₀ : List ℕ) → drop len text ≡ drop len text₀ → drop end text' ≡ drop end text₀
  past_line text₀ same =
      ap (drop end) joined ∙ drop_at (take len text ++ line) (drop end text) end joined_length
      ∙ rw (w.ends, ← drop-drop (length line) len text, ← drop-drop (length line) len text₀) (ap (drop (length line)) same)

-- What the function answers, and what it leaves in the text.
abbrev pub Answers : (file text₀ : List ℕ) → Listed → List ℕ → Type 0
Answers file text₀ listed text = (listed ≡ listed_of file (length text₀)) × ((text ≡ text_of file text₀) × LendableText listed.length text)

pub text_too_short : (file text : List ℕ) → length text < room_for file → Answers file text (record { length = 0; refusal = 2 }) text
unfolding listed_of text_of
text_too_short file text less =
    let none = lt-leb (room_for file) (length text) less in (simp none, (simp none, (omega arith, refl)))

pub whole_text : (file text₀ : List ℕ) {text : List ℕ} {len : ℕ} → room_for file ≤ length text₀ → Lists file text₀ text len
    → Answers file text₀ (record { length = len; refusal = 0 }) text
unfolding listed_of text_of
whole_text file text₀ {text} {len} enough lists =
    let size = length-take-le len text lists.within in
    let n : length (listing_of file) ≡ len = ap length lists.whole ∙ size in
    let some = le-leb (room_for file) (length text₀) enough in (
      simp some (rw n),
      (simp some (rw (n, lists.whole, ← lists.past) (sym (take-append-drop len text))), (lists.within, sym size)),
    )

-- What stands in the text is the listing so far, and there is room for every line of what is left of the file.
pub record MidListing (file text₀ text : List ℕ) (l : Ledger) (left : List ℕ) (len : ℕ) : Type 0 where
  pub few : l.n ≤ most_records
  pub room : (k : ℕ) → k ≤ length (records_of left) → l.n + k ≤ most_records + 1 → len + line_bytes * k ≤ length text
  pub as_long : length text ≡ length text₀
  pub untouched : drop len text ≡ drop len text₀
  pub so_far : listing_of file ≡ take len text ++ run_text (l.n + 1) (rest_run l left)

pub listing_starts : (file text : List ℕ) → room_for file ≤ length text → MidListing file text text fresh file 0
unfolding listing_of whole_run fresh room_for
listing_starts file text enough =
    record {
      few = omega arith;
      room = λ k h₁ h₂. omega (arith, lines_within k (length (records_of file)) h₁ (omega arith));
      as_long = refl;
      untouched = refl;
      so_far = refl;
    }

module _ {file text₀ text left : List ℕ} {l : Ledger} {len : ℕ} (h : MidListing file text₀ text l left len) where
  pub some_room : len ≤ length text
  some_room = omega (arith, h.room 0 (omega arith) (omega (arith, h.few)))

  -- where nothing is left, the listing stands
  pub listing_ends : length left ≡ 0 → Lists file text₀ text len
  unfolding run_text lines_of end_text
  listing_ends none =
      let gone : records_of left ≡ [] = no_records left none in
      let nothing : run_text (l.n + 1) (rest_run l left) ≡ [] = rw (gone, run_ends) in
      record { within = some_room; whole = h.so_far ∙ rw nothing (append-nil (take len text)); past = h.untouched }

  abbrev ran : Run
  ran = stretch_run l left

  after_it : Counts l (records_of (take stretch_bytes left)) ran
  after_it = counts l left h.few

  -- the lines of the stretch fit, and the line of a refusal after them
  stretch_fits : len + line_bytes * length ran.accepted ≤ length text
  stretch_fits = h.room (length ran.accepted) (stretch_most l left h.few) (omega (arith, after_it.n, after_it.few))

  refusal_fits : (ran.refusal ≡ 0 → ⊥) → (mid : ℕ) → mid ≤ len + line_bytes * length ran.accepted → mid + line_bytes ≤ length text
  refusal_fits some mid short =
      omega (arith, h.room (length ran.accepted + 1) (omega (arith, all_records l left h.few, after_it.fewer some)) (omega (arith, after_it.n, after_it.few)))

  room_on : (mid : ℕ) → mid ≤ len + line_bytes * length ran.accepted
      → (k : ℕ) → k ≤ length (records_of (drop stretch_bytes left)) → ran.ledger.n + k ≤ most_records + 1 → mid + line_bytes * k ≤ length text
  room_on mid short k h₁ h₂ =
      omega (arith, h.room (length ran.accepted + k) (omega (arith, all_records l left h.few, run_most l (records_of (take stretch_bytes left)) ran after_it)) (omega (arith, after_it.n)))

  place : l.n + 1 + length ran.accepted ≡ ran.ledger.n + 1
  place = omega (arith, after_it.n)

  -- what the listing has after the lines of the stretch: the text of what is left, or the line of a refusal
  rest_on : ran.refusal ≡ 0 → run_text (l.n + 1) (rest_run l left) ≡ lines_of ran.accepted ++ run_text (ran.ledger.n + 1) (rest_run ran.ledger (drop stretch_bytes left))
  rest_on none = rw (goes_on l left h.few none) (text_join (l.n + 1) ran.accepted (rest_run ran.ledger (drop stretch_bytes left)) ∙ rw place)

  rest_refused : (ran.refusal ≡ 0 → ⊥) → run_text (l.n + 1) (rest_run l left) ≡ lines_of ran.accepted ++ refused_text ran.refusal (ran.ledger.n + 1)
  unfolding run_text end_text
  rest_refused some = rw (ends_here l left h.few some) (simp (ne_eqb ran.refusal 0 some) (rw place))

  -- the output records say the lines
  lines_are : (out : List ℕ) → output_lines (out_of ran out) (length ran.accepted) ≡ lines_of ran.accepted
  unfolding out_of
  lines_are out = lines_say l (records_of (take stretch_bytes left)) stretch_bytes (drop (length (outputs ran.accepted)) out)

  -- the lines of the stretch stand after the text
  module _ {text' : List ℕ} {mid : ℕ} (w : Writes text len (lines_of ran.accepted) text' mid) (short : mid ≤ len + line_bytes * length ran.accepted) where
    lines_fit_on : len + length (lines_of ran.accepted) ≤ length text
    lines_fit_on = omega (arith, stretch_fits, w.ends)

    -- the listing goes on after the stretch
    lines_on : ran.refusal ≡ 0 → MidListing file text₀ text' ran.ledger (drop stretch_bytes left) mid
    lines_on none =
        record {
          few = after_it.few;
          room = rw w.as_many (room_on mid short);
          as_long = w.as_many ∙ h.as_long;
          untouched = past_line w lines_fit_on text₀ h.untouched;
          so_far =
              h.so_far
              ∙ rw (rest_on none, line_stands w lines_fit_on)
              (sym (append_assoc (take len text) (lines_of ran.accepted) (run_text (ran.ledger.n + 1) (rest_run ran.ledger (drop stretch_bytes left)))));
        }

    -- or ends with the line of a refusal
    refusal_on : (ran.refusal ≡ 0 → ⊥) → {text₂ : List ℕ} {end : ℕ} → Writes text' mid (refused_text ran.refusal (ran.ledger.n + 1)) text₂ end
        → end ≤ mid + line_bytes → Lists file text₀ text₂ end
    refusal_on some {text₂} {end} v near =
        let line = refused_text ran.refusal (ran.ledger.n + 1) in
        let fits : mid + length line ≤ length text' = omega (arith, refusal_fits some mid short, w.as_many, v.ends) in
        record {
          within = omega (arith, fits, v.as_many, v.ends);
          whole =
              h.so_far
              ∙ rw (rest_refused some, line_stands v fits, line_stands w lines_fit_on)
              (sym (append_assoc (take len text) (lines_of ran.accepted) line));
          past = past_line v fits text₀ (past_line w lines_fit_on text₀ h.untouched);
        }

-- The next part of what is left is the next stretch.
next_part : (n : ℕ) (part rest : List ℕ) → length part ≡ min n (length (part ++ rest)) → (part ≡ take n (part ++ rest)) × (rest ≡ drop n (part ++ rest))
next_part n part rest size = by_size (dec_le n (length (part ++ rest)))
  where
    both : length (part ++ rest) ≡ length part + length rest
    both = length-append part rest

    by_size : Dec (n ≤ length (part ++ rest)) → (part ≡ take n (part ++ rest)) × (rest ≡ drop n (part ++ rest))
    by_size (yes more) =
        let all : length part ≡ n = omega (arith, size) in (sym (take_at part rest n all), sym (drop_at part rest n all))
    by_size (no less) =
        let short : length (part ++ rest) ≤ n = omega arith in
        let none : rest ≡ [] = nil_from_length rest (omega (arith, both, size)) in
        let whole : part ++ rest ≡ part = rw none (append-nil part) in
        (sym whole ∙ sym (take_all n (part ++ rest) short), none ∙ sym (drop_of_length-le (part ++ rest) {i = n} short))

-- What the run of that part answers and leaves in the output; its lines are written from there.
module _ {file text₀ text left : List ℕ} {l : Ledger} {len : ℕ} (h : MidListing file text₀ text l left len)
    (part rest : List ℕ) (cut : left ≡ part ++ rest) {n : ℕ} (a_stretch : n ≡ stretch_bytes) (long : length part ≡ min n (length left))
    {o : Outcome} (out : List ℕ) {out' : List ℕ} (size : length out ≡ stretch_bytes)
    (answered : o ≡ outcome_of (run_of l (records_of part) (length out))) (put_out : out' ≡ out_of (run_of l (records_of part) (length out)) out) where
  its : (part ≡ take stretch_bytes left) × (rest ≡ drop stretch_bytes left)
  its = rw cut (next_part stretch_bytes part rest (rw (a_stretch, cut) at long))

  says : o ≡ outcome_of (stretch_run l left)
  says = answered ∙ λ i. outcome_of (run_of l (records_of (its.0 i)) (size i))

  puts : out' ≡ out_of (stretch_run l left) out
  puts = put_out ∙ λ i. out_of (run_of l (records_of (its.0 i)) (size i)) out

  counted : o.accepted ≡ length (stretch_run l left).accepted
  unfolding outcome_of
  counted = ap (λ (x : Outcome). x.accepted) says

  refuses : o.refusal ≡ (stretch_run l left).refusal
  unfolding outcome_of
  refuses = ap (λ (x : Outcome). x.refusal) says

  pub output_stays : length out' ≡ stretch_bytes
  output_stays = ap length puts ∙ output_size l left h.few out size

  pub lines_fit : (record_bytes * o.accepted ≤ length out') × (len + line_bytes * o.accepted ≤ length text)
  lines_fit = (omega (arith, output_stays, counted, output_fits l left h.few), omega (arith, counted, stretch_fits h))

  module _ {text' : List ℕ} {mid : ℕ} (w : Writes text len (output_lines out' o.accepted) text' mid) (short : mid ≤ len + line_bytes * o.accepted) where
    said : Writes text len (lines_of (stretch_run l left).accepted) text' mid
    said =
        let same : output_lines out' o.accepted ≡ lines_of (stretch_run l left).accepted
        = (λ i. output_lines (puts i) (counted i)) ∙ lines_are h out in
        let P : List ℕ → Type 0 = λ xs. Writes text len xs text' mid in subst P same w

    near : mid ≤ len + line_bytes * length (stretch_run l left).accepted
    near = omega (arith, short, counted)

    pub stretch_on : o.refusal ≡ 0 → MidListing file text₀ text' o.ledger rest mid
    unfolding outcome_of
    stretch_on none =
        let next = lines_on h said near (sym refuses ∙ none) in
        let P : Outcome → List ℕ → Type 0 = λ x left'. MidListing file text₀ text' x.ledger left' mid in
        subst (λ x. P x rest) (sym says) (subst (λ left'. P (outcome_of (stretch_run l left)) left') (sym its.1) next)

    pub refusal_room : (o.refusal ≡ 0 → ⊥) → mid + line_bytes ≤ length text'
    refusal_room some = omega (arith, refusal_fits h (λ z. some (refuses ∙ z)) mid near, w.as_many)

    pub stretch_ends : (o.refusal ≡ 0 → ⊥) → {text₂ : List ℕ} {end : ℕ} → Writes text' mid (refused_text o.refusal (o.ledger.n + 1)) text₂ end
        → end ≤ mid + line_bytes → Lists file text₀ text₂ end
    unfolding outcome_of
    stretch_ends some {text₂} {end} v close =
        let P : Outcome → Type 0 = λ x. Writes text' mid (refused_text x.refusal (x.ledger.n + 1)) text₂ end in
        refusal_on h said near (λ z. some (refuses ∙ z)) (subst P says v) close
