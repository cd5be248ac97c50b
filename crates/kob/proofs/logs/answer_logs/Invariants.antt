-- What was answered so far goes on to the answers about all logs.
use Rattle.std.proofs.Common.{List, drop, length, ℕ, ◌+◌, ◌≡◌}
use Rattle.kob.specs.Answers.{AreLogAnswers}
use Rattle.kob.specs.declared.ending.Ending.{Ending}
use Rattle.kob.specs.declared.ending.Ending.TheVariants.{Whole}
use Rattle.kob.proofs.logs.answer_logs.Given as goal

abbrev pub invariant-loop-file : goal.invariant-loop-file
invariant-loop-file g l = record {
  number : l.number ≡ length l.questions.asked + l.file-index;
  before : (after : List ℕ) (ending : Ending)
      → AreLogAnswers l.fn.options.form l.judge l.number (drop l.file-index l.options.logs) l.out.items after l.ending
      ending
      → AreLogAnswers l.fn.options.form l.judge (length l.questions.asked) l.options.logs l.initial.out.items after
      Whole ending;
}
