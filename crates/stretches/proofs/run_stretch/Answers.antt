-- The bytes from a place to the end of the stretch are the stretch, and the output has room for its records.
use borrow.Author.Rules.{rules}
use Rattle.stretches.proofs.Stretches.{Stretch, stretch_is}
use Rattle.stretches.proofs.run_stretch.Goals as goal

pub returns : goal.returns
returns c =
    let here : let s = c in Stretch s.args.file.now s.args.at c.stretch_end-end.result = let s = c in stretch_is s.args.file.now s.args.at s.requires.at_in_bounds c.stretch_end-end.ensures in
    let s = c in
    let end = here in
    record { value = rw (end.part, s.requires.out_len) at c.run.ensures.value; out_after = rw (end.part, s.requires.out_len) at c.run.ensures.out_after }

pub stretch_end-end-requires : goal.stretch_end-end-requires
stretch_end-end-requires c = c.requires.at_in_bounds

pub slice_bounds-run-count : goal.slice_bounds-run-count
slice_bounds-run-count c =
    let here : let s = c in Stretch s.args.file.now s.args.at c.stretch_end-end.result = let s = c in stretch_is s.args.file.now s.args.at s.requires.at_in_bounds c.stretch_end-end.ensures in
    here.on

pub slice_bounds-run-start : goal.slice_bounds-run-start
slice_bounds-run-start c =
    let here : let s = c in Stretch s.args.file.now s.args.at c.stretch_end-end.result = let s = c in stretch_is s.args.file.now s.args.at s.requires.at_in_bounds c.stretch_end-end.ensures in
    let a = here.on in let b = here.in_file in search rules

pub slice_bounds-run-end : goal.slice_bounds-run-end
slice_bounds-run-end c =
    let here : let s = c in Stretch s.args.file.now s.args.at c.stretch_end-end.result = let s = c in stretch_is s.args.file.now s.args.at s.requires.at_in_bounds c.stretch_end-end.ensures in
    let b = here.in_file in search rules
