-- What an output record says is read back from its bytes.
use mathlib.Core.Path.{◌≡◌}
use mathlib.Core.List.{List, ◌++◌}
use Prim.Native.Nat.{ℕ, ◌^◌, ◌<◌}
use Rattle.numbers.specs.Bytes.{number_at}
use Rattle.numbers.proofs.Bytes.{read_back}
use Rattle.output.specs.Output.{output_of}
use Rattle.output.specs.declared.Output.{Output}

-- An output record as the library holds it: numbers of 16 and 64 bits.
pub record Fits (o : Output) : Type 0 where
  pub period : o.period < 2 ^ 16
  pub x0 : o.x0 < 2 ^ 64
  pub figure : o.figure < 2 ^ 64
  pub bound : o.bound < 2 ^ 64
  pub stock : o.stock < 2 ^ 64

pub record Says (o : Output) (bytes : List ℕ) : Type 0 where
  pub period : number_at 2 bytes 0 ≡ o.period
  pub x0 : number_at 8 bytes 8 ≡ o.x0
  pub figure : number_at 8 bytes 16 ≡ o.figure
  pub bound : number_at 8 bytes 24 ≡ o.bound
  pub stock : number_at 8 bytes 32 ≡ o.stock

pub says : (o : Output) → Fits o → (rest : List ℕ) → Says o (output_of o ++ rest)
unfolding output_of
says o h rest =
    record {
      period = read_back 2 o.period h.period;
      x0 = read_back 8 o.x0 h.x0;
      figure = read_back 8 o.figure h.figure;
      bound = read_back 8 o.bound h.bound;
      stock = read_back 8 o.stock h.stock;
    }
