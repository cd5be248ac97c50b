-- No word was passed.
use Rattle.kob_script.proofs.Imports.{length, ◌-◌, ◌≡◌}
use Rattle.std.specs.Prelude.{IsTrue}
use Rattle.kob_script.proofs.RawWords.{words_left}
use Rattle.kob_script.proofs.raw_words.RawWords.next.Given as goal

abbrev pub invariant-loop-start : goal.invariant-loop-start
invariant-loop-start l = record {
  line : l.self.line ≡ l.fn.self.line;
  words : words_left l.self ≡ words_left l.fn.self;
  before : IsTrue l.self.is_plain → IsTrue l.fn.self.is_plain;
}

abbrev pub decreases-loop-start : goal.decreases-loop-start
decreases-loop-start l = length l.self.line.now - l.self.at
