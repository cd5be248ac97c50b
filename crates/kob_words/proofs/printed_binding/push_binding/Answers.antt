use Rattle.kob_words.proofs.AsciiText.{on_ok, binding_ascii}
use Rattle.kob_words.proofs.printed_binding.push_binding.Goals as goal

pub returns-clause-ascii : goal.returns-clause-ascii
returns-clause-ascii c =
    let same = c.parts-parts.ensures.parts in
    let grant = rw same at c.in_ok-push_grant.ensures.ascii in
    let wrote = rw same at c.push_target.ensures.ascii in
    on_ok c.push_target.result _ _ wrote
    (λ target. binding_ascii c.args.serial c.args.binding.now c.in_ok-push_number.ensures.ascii grant target)
