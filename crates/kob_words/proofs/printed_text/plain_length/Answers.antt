use Rattle.std.proofs.Common.{arith, drop, length-drop, sym, ◌+◌, ◌-◌, ◌≡◌, ◌∙◌}
use Rattle.std.proofs.lemmas.List.{drop-drop}
use Rattle.kob_words.proofs.PlainRuns.{plain_passed}
use Rattle.kob_words.proofs.printed_text.plain_length.Goals as goal

pub loop-length-preserved : goal.loop-length-preserved
loop-length-preserved c =
    let at = c.loop-length.length in
    let rest = drop at c.args.bytes.now in
    let sixteen : at + 16 - at ≡ 16 = omega arith in
    let plain = rw sixteen at (sym c.are_plain.ensures ∙ c.if-are_plain.true) in
    let passed = plain_passed rest 16 (omega (arith, length-drop at c.args.bytes.now)) plain in
    record {
      within = omega arith;
      passed = rw (sym (drop-drop 16 at c.args.bytes.now)) (omega (arith, passed));
    }
