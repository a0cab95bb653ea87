-- The bytes that are copied, with zeros after them, make the number.
use Rattle.std.proofs.Common.{◌≡◌, ◌+◌, ◌-◌, ap, ◌∙◌, arith, take, drop, ◌++◌, List, ℕ, replicate}
use Rattle.numbers.proofs.Bytes.{number_widened, number_small}
use Rattle.numbers.proofs.le.read.Goals as goal

pub returns : goal.returns
returns g c =
    let a = c.args in
    let n = g.row.N in
    let part : a.at + n - a.at ≡ n = omega arith in
    let copied : c.copy_from_slice.new.self ≡ take n (drop a.at a.bytes.now) = rw part at c.copy_from_slice.ensures.after in
    let is = c.from_le_bytes.ensures ∙ number_widened n a.at a.bytes.now c.requires.width c.requires.room (ap (λ (l : List ℕ). l ++ drop n (replicate 8 0)) copied) in
    (is, rw is (number_small n a.at a.bytes.now (λ i. omega (arith, c.type_inv.bytes i))))
