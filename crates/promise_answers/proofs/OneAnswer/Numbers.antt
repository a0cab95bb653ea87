-- The public functions of `numbers`.
use native.Mathlib.Omega.{arith}
use Rattle.std.proofs.Common.{ℕ, Fits, w64}
use Rattle.numbers.proofs.mul_div.Reads as mul-div
use Rattle.numbers.proofs.read.Reads as read
use Rattle.numbers.proofs.write.Reads as write
use Rattle.numbers.proofs.read_eight.Reads as read-eight
use Rattle.numbers.proofs.write_eight.Reads as write-eight
use Rattle.numbers.proofs.write_bytes.Reads as write_bytes
use Rattle.numbers.proofs.is_between.Reads as is-between
use Rattle.promise_answers.proofs.OneAnswer.{OneAnswer, Settled, by_equation}

pub mul_div_one : OneAnswer mul-div.Learnt
mul_div_one = by_equation (λ κs a r s p. p)

-- At every width.
pub read_one : (width : ℕ) (fits : Fits w64 width) → OneAnswer (read.Learnt width fits)
read_one width fits = by_equation (λ κs a r s p. p.0)

pub write_one : (width : ℕ) (fits : Fits w64 width) → Settled (write.Learnt width fits) (λ κs r s. s.0.now)
write_one width fits = by_equation (λ κs a r s p. p)

-- At the widths that the crates above use, and at one byte.
pub one_wide : Fits w64 1
one_wide = omega arith

pub two_wide : Fits w64 2
two_wide = omega arith

pub four_wide : Fits w64 4
four_wide = omega arith

pub eight_wide : Fits w64 8
eight_wide = omega arith

pub read_u16_one : OneAnswer (read.Learnt 2 two_wide)
read_u16_one = read_one 2 two_wide

pub read_u32_one : OneAnswer (read.Learnt 4 four_wide)
read_u32_one = read_one 4 four_wide

pub read_u64_one : OneAnswer (read.Learnt 8 eight_wide)
read_u64_one = read_one 8 eight_wide

pub write_u8_one : Settled (write.Learnt 1 one_wide) (λ κs r s. s.0.now)
write_u8_one = write_one 1 one_wide

pub write_u16_one : Settled (write.Learnt 2 two_wide) (λ κs r s. s.0.now)
write_u16_one = write_one 2 two_wide

pub write_u32_one : Settled (write.Learnt 4 four_wide) (λ κs r s. s.0.now)
write_u32_one = write_one 4 four_wide

pub write_u64_one : Settled (write.Learnt 8 eight_wide) (λ κs r s. s.0.now)
write_u64_one = write_one 8 eight_wide

pub read_eight_one : OneAnswer read-eight.Learnt
read_eight_one = by_equation (λ κs a r s p. p)

pub write_eight_one : Settled write-eight.Learnt (λ κs r s. s.0.now)
write_eight_one = by_equation (λ κs a r s p. p)

pub write_bytes_one : Settled write_bytes.Learnt (λ κs r s. s.0.now)
write_bytes_one = by_equation (λ κs a r s p. p)

pub is_between_one : OneAnswer is-between.Learnt
is_between_one = by_equation (λ κs a r s p. p)
