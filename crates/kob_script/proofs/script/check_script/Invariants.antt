-- The lines so far were checked: what those that are left may be read as, the text may be.
use Rattle.kob_script.proofs.Imports.{drop, lines_in_blocks, ◌++◌, ◌+◌}
use Rattle.kob_script.proofs.CheckedLines.{Stands}
use Rattle.kob_script.proofs.script.check_script.Given as goal

abbrev pub invariant-loop-line : goal.invariant-loop-line
invariant-loop-line l =
    Stands l.fn.blocks.items l.checking l.answers.items l.number
    (l.line-iterator ++ lines_in_blocks (drop (l.block-index + 1) l.fn.blocks.items))

abbrev pub invariant-loop-block : goal.invariant-loop-block
invariant-loop-block l =
    Stands l.fn.blocks.items l.checking l.answers.items l.number
    (lines_in_blocks (drop l.block-index l.fn.blocks.items))
