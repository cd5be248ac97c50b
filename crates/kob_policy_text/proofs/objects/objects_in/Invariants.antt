-- What the lines that are left make of the objects so far, all make of none.
use Rattle.kob_policy_text.proofs.Words.{length, lines_in, ◌+◌, ◌≡◌, ◌≤◌}
use Rattle.kob_policy_text.specs.Objects.{no_objects, read_lines}
use Rattle.kob_policy_text.proofs.objects.objects_in.Given as goal

abbrev pub invariant-loop-line : goal.invariant-loop-line
invariant-loop-line l = record {
  few : l.number + length l.line-iterator ≤ length l.fn.text;
  kept : read_lines l.objects (l.number + 1) l.line-iterator ≡ read_lines no_objects 1 (lines_in l.fn.text);
}
