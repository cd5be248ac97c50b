-- No blank was passed.
use Rattle.kob_script.proofs.Imports.{length, ◌-◌, ◌≡◌, ◌≤◌}
use Rattle.std.specs.Prelude.{IsTrue}
use Rattle.kob_script.proofs.RawWords.{AreLetters}
use Rattle.kob_script.proofs.raw_words.RawWords.pass_blank.Given as goal

abbrev pub invariant-loop-self : goal.invariant-loop-self
invariant-loop-self l = record {
  line : l.self.line ≡ l.fn.self.line;
  from : l.fn.self.at ≤ l.self.at;
  letters : AreLetters l.self.line.now l.fn.self.at l.self.at;
  before : IsTrue l.self.is_plain → IsTrue l.fn.self.is_plain;
}

abbrev pub decreases-loop-self : goal.decreases-loop-self
decreases-loop-self l = length l.self.line.now - l.self.end
