use Rattle.std.proofs.Common.{ℕ, zero, suc, ◌<◌, ◌^◌, arith}
use Rattle.frame_fields.proofs.fields.number_of.Goals as goal

-- fewer than eight bytes
below : (i n : ℕ) → i < 8 → n < 256 ^ i → n < 2 ^ 56
below zero n lt h = omega (arith, h)
below (suc zero) n lt h = omega (arith, h)
below (suc (suc zero)) n lt h = omega (arith, h)
below (suc (suc (suc zero))) n lt h = omega (arith, h)
below (suc (suc (suc (suc zero)))) n lt h = omega (arith, h)
below (suc (suc (suc (suc (suc zero))))) n lt h = omega (arith, h)
below (suc (suc (suc (suc (suc (suc zero)))))) n lt h = omega (arith, h)
below (suc (suc (suc (suc (suc (suc (suc zero))))))) n lt h = omega (arith, h)
below (suc (suc (suc (suc (suc (suc (suc (suc i)))))))) n lt h = absurd (omega (arith, lt))

pub overflow_mul-number : goal.overflow_mul-number
overflow_mul-number c = omega (arith, below c.loop-byte.byte-index c.loop-byte.number (omega (arith, c.requires, c.loop-byte-test.true)) c.loop-byte.invariant.small)
