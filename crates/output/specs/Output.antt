-- Document 01, 'One step': the output record of 48 bytes.
use Rattle.std.specs.Prelude.{cond, List, [], ◌∷◌, ◌++◌, ℕ, leb, length, drop}
use Rattle.numbers.specs.Bytes.{bytes_of}
use Rattle.record.specs.Fields.{record_bytes}
use Rattle.output.specs.declared.Output.{Output}

-- Bytes 0-1 period, 2 kind, 3 climate, 4-7 zero,
abbrev pub output_head : (period kind climate : ℕ) → List ℕ
output_head period kind climate = bytes_of 2 period ++ (kind ∷ climate ∷ []) ++ bytes_of 4 0

-- then five 8-byte numbers: x0, figure, bound, total R, total T.
abbrev pub five_of : (x0 figure bound R T : ℕ) → List ℕ
five_of x0 figure bound R T = bytes_of 8 x0 ++ bytes_of 8 figure ++ bytes_of 8 bound ++ bytes_of 8 R ++ bytes_of 8 T

unfoldable pub output_of : Output → List ℕ
output_of o = output_head o.period o.kind o.climate ++ five_of o.x0 o.figure o.bound o.stock o.brought

-- It is written at the start of a buffer that has room for it; any other buffer keeps its bytes.
unfoldable pub written : Output → List ℕ → List ℕ
written o out = cond (leb record_bytes (length out)) (output_of o ++ drop record_bytes out) out
