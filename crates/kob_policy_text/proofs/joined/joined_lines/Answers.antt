use Rattle.kob_policy_text.proofs.Words.{ap, arith, length, suc, sym, ◌+◌, ◌∙◌, ◌≡◌}
use Rattle.kob_policy_text.proofs.Numbering.{joins_end, joins_none, joins_on}
use Rattle.kob_policy_text.proofs.joined.joined_lines.Goals as goal

pub loop-line-preserved-then-branch : goal.loop-line-preserved-then-branch
loop-line-preserved-then-branch c =
    let split = c.in-Some.ensures.steps in
    let fewer : length c.loop-line.line-iterator ≡ suc (length c.next.new.self) = ap length split in
    record {
      few = omega (arith, fewer, c.loop-line.invariant.few);
      kept = rw c.drop_last.ensures (joins_on _ _ _ (c.loop-line.number + 1) _ _ _ _ c.loop-line.invariant.kept split
          c.in_ok-whole.ensures (sym c.in_ok-is_continued.ensures ∙ c.if-branch.true));
    }

pub loop-line-preserved : goal.loop-line-preserved
loop-line-preserved c =
    let split = c.in-Some.ensures.steps in
    let fewer : length c.loop-line.line-iterator ≡ suc (length c.next.new.self) = ap length split in
    record {
      few = omega (arith, fewer, c.loop-line.invariant.few);
      kept = joins_none _ _ _ _ (c.loop-line.number + 1) _ _ _ _ c.loop-line.invariant.kept split
          c.in_ok-whole.ensures (sym c.in_ok-is_continued.ensures ∙ c.if-branch.false) c.in_ok-push.ensures.items;
    }

pub returns : goal.returns
returns c =
    rw (joins_end _ _ _ (c.loop-line.number + 1) _ c.loop-line.invariant.kept c.in-None.ensures.steps.0)
    at c.with_last.ensures
