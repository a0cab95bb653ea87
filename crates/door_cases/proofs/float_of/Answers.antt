-- The test is that of a NaN's pattern: what stands below the sign is above an infinity's.
use Rattle.std.proofs.Common.{arith}
use Rattle.std.proofs.lemmas.Float.{not_nan_f64_bits}
use Rattle.door_cases.proofs.float_of.Goals as goal

pub float_from_bits-result : goal.float_from_bits-result
float_from_bits-result c = not_nan_f64_bits c.args.pattern (omega arith)
