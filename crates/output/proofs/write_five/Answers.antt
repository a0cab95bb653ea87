-- Five writes, one after the other.
use mathlib.Core.Path.{◌≡◌, ◌∙◌}
use mathlib.Core.List.{List}
use Prim.Native.Nat.{ℕ}
use lib.Seq.{sets}
use Rattle.numbers.specs.Bytes.{bytes_of}
use Rattle.output.specs.Output.{five_of}
use Rattle.output.proofs.write_five.Goals as goal

in_turn_lem :
    (out : List ℕ) (x0 figure bound stock brought : ℕ) {one two three four five : List ℕ} →
    one ≡ sets out 8 (bytes_of 8 x0) →
    two ≡ sets one 16 (bytes_of 8 figure) →
    three ≡ sets two 24 (bytes_of 8 bound) →
    four ≡ sets three 32 (bytes_of 8 stock) →
    five ≡ sets four 40 (bytes_of 8 brought) →
    five ≡ sets out 8 (five_of x0 figure bound stock brought)
in_turn_lem out x0 figure bound stock brought h i j k l = l ∙ rw (k, j, i, h)

pub returns : goal.returns
returns c =
    let a = c.args in
    in_turn_lem a.out.now a.x0 a.figure a.bound a.stock a.brought c.write.ensures c.write-2.ensures c.write-3.ensures c.write-4.ensures
    c.write-5.ensures
