-- What request d claims, proved.
use Rattle.promise_uncertainty.specs.Promise.{UncertaintyPromise}
use Rattle.promise_uncertainty.proofs.Equation.{phi_is, v_is}
use Rattle.promise_uncertainty.proofs.Uncertainties.{factor_where, factor_well, factor_one, factor_18, codes_where, codes_18, codes_19, codes_table, codes_chosen, codes_well, factor_falls, codes_fall, factor_86}

pub uncertainty_promise : UncertaintyPromise
uncertainty_promise =
    record {
      phi_is = phi_is;
      v_is = v_is;
      factor_where = factor_where;
      factor_well = factor_well;
      factor_one = factor_one;
      codes_where = codes_where;
      codes_table = codes_table;
      codes_chosen = codes_chosen;
      codes_well = codes_well;
      factor_18 = factor_18;
      codes_18 = codes_18;
      codes_19 = codes_19;
      factor_falls = factor_falls;
      codes_fall = codes_fall;
      factor_86 = factor_86;
    }
