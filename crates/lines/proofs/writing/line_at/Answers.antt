-- Each number at its place behind the start of the output record.
use mathlib.Core.Path.{◌≡◌, ◌∙◌}
use mathlib.Core.List.{List}
use Prim.Native.Nat.{ℕ, ◌+◌}
use Rattle.numbers.specs.Bytes.{number_at}
use Rattle.line.specs.declared.form.Line.{Line}
use Rattle.line.specs.Line.{accepted_text, padded}
use Rattle.lines.specs.Outputs.{output_text}
use Rattle.lines.proofs.writing.line_at.Goals as goal

says : {line : Line} {period x0 figure bound stock : ℕ} (bytes : List ℕ) (at : ℕ) → line ≡ padded (accepted_text period x0 figure bound stock)
    → period ≡ number_at 2 bytes at → x0 ≡ number_at 8 bytes (at + 8) → figure ≡ number_at 8 bytes (at + 16)
    → bound ≡ number_at 8 bytes (at + 24) → stock ≡ number_at 8 bytes (at + 32) → line ≡ padded (output_text bytes at)
unfolding output_text
says bytes at e p x f b s = e ∙ λ i. padded (accepted_text (p i) (x i) (f i) (b i) (s i))

pub returns : goal.returns
returns c =
    let s = c.args in
    record {
      value = says s.out.now s.at c.accepted.ensures.value c.read.ensures.0 c.read-2.ensures.0 c.read-3.ensures.0 c.read-4.ensures.0 c.read-5.ensures.0;
      lendable = c.accepted.ensures.lendable;
    }
