use Rattle.kob_script.proofs.Imports.{arith}
use Rattle.kob_script.proofs.RawWords.{bit_fits, few_bits}
use Rattle.kob_script.proofs.raw_words.Part.of_short.Goals as goal

pub overflow_mul-part : goal.overflow_mul-part
overflow_mul-part c =
    let few = few_bits c.args.line.now c.loop-place.place c.loop-place.part.end (omega arith) in record { fits = omega (arith, few) }

pub overflow_add-part : goal.overflow_add-part
overflow_add-part c =
    let few = few_bits c.args.line.now c.loop-place.place c.loop-place.part.end (omega arith) in
    bit_fits c.loop-place.part.blanks c.is_blank.result (omega (arith, few))
