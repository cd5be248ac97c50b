-- The bits of the bytes from a place on are known.
use Rattle.kob_script.proofs.Imports.{length, ◌≡◌, ◌≤◌}
use Rattle.std.specs.Prelude.{IsTrue}
use Rattle.kob_script.specs.RawWords.{HasNoPercent, blank_bits}
use Rattle.kob_script.proofs.raw_words.Part.of_short.Given as goal

abbrev pub invariant-loop-place : goal.invariant-loop-place
invariant-loop-place l = record {
  from : l.at ≤ l.place;
  within : l.place ≤ length l.line;
  end : l.part.end ≡ length l.line;
  bits : l.part.blanks ≡ blank_bits l.line l.place l.part.end;
  plain : IsTrue l.part.is_plain → HasNoPercent l.line l.place l.part.end;
}

abbrev pub decreases-loop-place : goal.decreases-loop-place
decreases-loop-place l = l.place
