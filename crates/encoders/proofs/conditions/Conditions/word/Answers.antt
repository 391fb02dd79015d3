use Rattle.std.proofs.Common.{◌<◌, arith}
use Rattle.encoders.proofs.Numbering.{room_behind, byte_small}
use Rattle.encoders.proofs.conditions.Conditions.word.Goals as goal

pub overflow_mul-bits : goal.overflow_mul-bits
overflow_mul-bits g c =
    let h : c.loop-terms.bits < 32768 = room_behind _ _ _ _ _ _ _ (omega arith) c.in-Some.ensures.steps c.loop-terms.invariant in
    record { fits = omega arith }

pub overflow_add-bits : goal.overflow_add-bits
overflow_add-bits g c =
    let h : c.loop-terms.bits < 32768 = room_behind _ _ _ _ _ _ _ (omega arith) c.in-Some.ensures.steps c.loop-terms.invariant in
    record { fits = omega (arith, byte_small c.fit.result, c.from.ensures) }
