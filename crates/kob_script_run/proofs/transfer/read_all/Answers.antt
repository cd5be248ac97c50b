use Rattle.kob_script_run.proofs.Words.{Consumes-trans, Consumes-whole, ap, append-nil, arith, bytes_in, length, length-append, length-take-le, rules, script_limit, sym, take, ◌++◌, ◌∙◌, ◌≡◌}
use Rattle.kob_script_run.proofs.ReadBytes.{past_limit}
use Rattle.kob_script_run.proofs.transfer.read_all.Goals as goal

pub returns-then-count-eq0-clause-whole : goal.returns-then-count-eq0-clause-whole
returns-then-count-eq0-clause-whole g c =
    let read = bytes_in c.loop-input.input in
    let piece = take c.in_ok-count.count c.read.new.piece in
    let zero : c.in_ok-count.count ≡ 0 = omega (arith, c.if-count-eq0.true) in
    let same : read ≡ read ++ piece =
    sym (append-nil read) ∙ ap (λ n. read ++ take n c.read.new.piece) (sym zero) in
    rw c.in_ok-into_blocks.ensures.bytes
    (Consumes-whole _ _ (read ++ piece) (λ bytes. read ≡ bytes)
    (Consumes-trans _ _ _ read piece c.loop-input.invariant.read c.in_ok-count.ensures.bytes)
    (c.in_ok-count.ensures.end zero (search rules)) same)

pub returns-then-left-count-clause-too_long : goal.returns-then-left-count-clause-too_long
returns-then-left-count-clause-too_long g c = λ failed.
    let read = bytes_in c.loop-input.input in
    let piece = take c.in_ok-count.count c.read.new.piece in
    let long = length-take-le c.in_ok-count.count c.read.new.piece c.in_ok-count.ensures.bound in
    past_limit _ _ (read ++ piece) script_limit
    (Consumes-trans _ _ _ read piece c.loop-input.invariant.read c.in_ok-count.ensures.bytes)
    (omega (arith, long, length-append read piece, c.loop-input.invariant.within, c.if-left-count.true))

pub loop-input-preserved : goal.loop-input-preserved
loop-input-preserved g c =
    let read = bytes_in c.loop-input.input in
    let piece = take c.in_ok-count.count c.read.new.piece in
    let long = length-take-le c.in_ok-count.count c.read.new.piece c.in_ok-count.ensures.bound in
    let grown : length (bytes_in c.push.new.self) ≡ length (read ++ piece) = ap length c.in_ok-push.ensures.bytes in
    record {
      within = omega (arith, long, grown, length-append read piece, c.loop-input.invariant.within, c.if-left-count.false);
      lines = c.in_ok-push.ensures.lines c.loop-input.invariant.lines;
      read = rw c.in_ok-push.ensures.bytes
          (Consumes-trans _ _ _ read piece c.loop-input.invariant.read c.in_ok-count.ensures.bytes);
    }
