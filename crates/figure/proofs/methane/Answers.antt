-- The four percentages are together a share of at most all.
use Rattle.std.proofs.Common.{◌-◌, ◌*◌, ◌^◌, arith, rules, lit<}
use Rattle.numbers.proofs.Split.{share_fits}
use Rattle.figure.proofs.Shares.{four_shares}
use Rattle.figure.proofs.methane.Goals as goal

pub mul_div-requires : goal.mul_div-requires
mul_div-requires c =
    let a = c.args in
    let w = share_fits a.x1 ((100 - a.oxidation) * a.share * a.docf * a.correction) (10 ^ 8) (search rules) (omega arith)
    (four_shares a.oxidation a.share a.docf a.correction c.requires.1 c.requires.2 c.requires.3) (lit< tt) in
    record { c_nonzero = w.0; b_bound = w.1.0; c_bound = w.1.1 }
