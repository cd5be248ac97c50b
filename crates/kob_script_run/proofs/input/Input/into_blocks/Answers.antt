use Rattle.kob_script_run.proofs.Words.{AreWholeLines, List, ap, concat, subst, sym, ℕ, ◌++◌, ◌∙◌}
use Rattle.kob_script_run.proofs.InputLines.{concat_push, lines_are_whole}
use Rattle.kob_script_run.proofs.input.Input.into_blocks.Goals as goal

pub returns-clause-bytes : goal.returns-clause-bytes
returns-clause-bytes c =
    let blocks = c.args.self.blocks.items in
    ap concat c.in_ok-push.ensures.items ∙ concat_push blocks c.from_vec.result
    ∙ ap (λ (last : List ℕ). concat blocks ++ last) c.from_vec.ensures

pub returns-clause-lines : goal.returns-clause-lines
returns-clause-lines c = λ ends.
    subst AreWholeLines (sym c.in_ok-push.ensures.items) (lines_are_whole c.args.self.blocks.items c.from_vec.result ends)
