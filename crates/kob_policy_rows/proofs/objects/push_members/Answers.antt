use Rattle.std.proofs.Common.{[], arith, drop, drop_of_length-le, rules, ◌≡◌, refl}
use Rattle.kob_policy_rows.proofs.Members.{members_all, members_more, members_none}
use Rattle.kob_policy_rows.proofs.objects.push_members.Goals as goal

pub loop-column-preserved : goal.loop-column-preserved
loop-column-preserved c = (
  members_more c.args.columns.now c.loop-column.column-index _ _ _ _ _ _ _ _ c.loop-column.invariant.0 (omega arith)
      refl c.in-Some.ensures.cases.0 c.in_ok-push_member.ensures.tokens,
  search rules,
)

pub returns-in_default-clause-tokens : goal.returns-in_default-clause-tokens
returns-in_default-clause-tokens c =
    let none : c.loop-column.cells.now ≡ [] = drop_of_length-le c.loop-column.cells.now {i = 0} (search rules) in
    members_none (drop c.loop-column.column-index c.args.columns.now) _ _ _ c.loop-column.invariant.0 none

pub returns-clause-tokens : goal.returns-clause-tokens
returns-clause-tokens c =
    members_all c.args.columns.now c.loop-column.column-index _ _ _ c.loop-column.invariant.0 (omega arith)
