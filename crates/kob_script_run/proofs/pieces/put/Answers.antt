use Rattle.kob_script_run.proofs.Words.{rules}
use Rattle.kob_script_run.proofs.Parts.{on_ok, on_err, none_held, part_after}
use Rattle.kob_script_run.proofs.pieces.put.Goals as goal

pub returns-then-text-gt-PIECE_LIMIT-clause-put : goal.returns-then-text-gt-PIECE_LIMIT-clause-put
returns-then-text-gt-PIECE_LIMIT-clause-put g c =
    on_ok c.write_all-then-text-gt-PIECE_LIMIT.result
    (none_held _ _ _ c.args.held.now.items c.args.text.now _ c.clear.ensures.items (search rules))
    c.write_all-then-text-gt-PIECE_LIMIT.ensures.whole

pub returns-then-text-gt-PIECE_LIMIT-clause-part :
    goal.returns-then-text-gt-PIECE_LIMIT-clause-part
returns-then-text-gt-PIECE_LIMIT-clause-part g c =
    on_err c.write_all-then-text-gt-PIECE_LIMIT.result
    (part_after _ _ _ c.args.held.now.items c.args.text.now (search rules))
    c.write_all-then-text-gt-PIECE_LIMIT.ensures.part
