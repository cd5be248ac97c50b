-- What is gone from `rest` was written.
use Rattle.kob_script_run.proofs.Words.{Appends, List, length, ℕ, ◌++◌, ◌≡◌}
use Rattle.kob_script_run.proofs.transfer.write_all.Given as goal

abbrev pub invariant-loop-rest : goal.invariant-loop-rest
invariant-loop-rest g l =
    (done : List ℕ) × (l.initial.rest ≡ done ++ l.rest)
    × Appends (g.W.Write.contents l.initial.writer) (g.W.Write.contents l.writer) done

abbrev pub decreases-loop-rest : goal.decreases-loop-rest
decreases-loop-rest g l = length l.rest
