-- Of two ends neither of which is that answers differ, the worse one is not either, and a failure is
-- none. Answers that end well are as expected.
use Rattle.std.proofs.Common.{◌≡◌, ◌≢◌, Bool, Err, IfErr, IfOk, Ok, Result, true, false, inl, inr, refl}
use Rattle.kob.specs.Ending.{IsFailedStop, IsFailure, ending_of_answers, ending_of_part, worse}
use Rattle.kob.specs.declared.policy_lists.Stop.{Stop}
use Rattle.kob.specs.declared.policy_lists.Stop.TheVariants as stop
use Rattle.kob.specs.declared.ending.Ending.{Ending}
use Rattle.kob.specs.declared.ending.Ending.TheVariants.{Whole, Differs, Failed, OutOfMemory}

pub not_worse : (one other : Ending) → one ≢ Differs → other ≢ Differs → worse one other ≢ Differs
not_worse Whole other first second = second
not_worse Differs other first second = λ is. first refl
not_worse Failed Whole first second = first
not_worse Failed Differs first second = first
not_worse Failed Failed first second = first
not_worse Failed OutOfMemory first second = λ is. cc
not_worse OutOfMemory other first second = first

pub none_fails : (fails : Bool) → ending_of_answers fails ≡ Whole → fails ≡ false
none_fails true well = absurd cc
none_fails false well = refl

not_failure : (ending : Ending) → IsFailure ending → ending ≢ Differs
not_failure ending (inl is) = λ differs. cc
not_failure ending (inr is) = λ differs. cc

pub part_not_differs : (ended : Result Ending Stop) → IfErr ended IsFailedStop
    → IfOk ended (λ ending. ending ≢ Differs) → ending_of_part ended ≢ Differs
part_not_differs (Ok ending) failed well = well
part_not_differs (Err (stop.Ended ending)) failed well = not_failure ending failed
part_not_differs (Err (stop.Memory refused)) failed well = λ is. cc
