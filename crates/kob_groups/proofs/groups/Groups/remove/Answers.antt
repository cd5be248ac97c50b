use Rattle.kob_groups.proofs.Words.{AreListed, [], ap, arith, commits_in, common_steps, groups_in, groups_of, has_commits, is_listed, lookup, not, removed_absent, same_text, subst, sym, without_group, ◌&&◌, ◌∙◌, ◌≡◌}
use Rattle.kob_groups.proofs.Listings.{listed_removed}
use Rattle.kob_groups.proofs.Maps.{seen_removed, seen_some}
use Rattle.kob_groups.proofs.groups.Groups.remove.Goals as goal

pub invariant_of-self : goal.invariant_of-self
invariant_of-self c = grind (arith, common_steps, removed_absent)

pub invariant_of-self-2 : goal.invariant_of-self-2
invariant_of-self-2 c =
    let name = c.args.name.now in let entries = c.args.self.now.by_name.entries in
    let left : groups_in c.remove.new.self.entries ≡ without_group name (groups_of c.args.self.now) =
    ap groups_in c.remove.ensures.entries ∙ seen_removed commits_in (same_text name) entries
    (ap (lookup (same_text name)) (sym c.remove.ensures.entries) ∙ c.remove.ensures.gone) in
    let found = sym c.remove.ensures.value ∙ c.in-Some.is in
    let gone = seen_some commits_in (same_text name) entries c.in-Some.commits [] found in record {
      listed = subst (λ gs. AreListed gs c.leave_lists.new.lists) (sym left)
          (listed_removed (groups_of c.args.self.now) c.args.self.now.lists c.leave_lists.new.lists name
          c.args.self.now.listed (λ t g. c.leave_lists.ensures t g
          ∙ ap (λ cs. is_listed t g c.args.self.now.lists && not (same_text name g && has_commits t cs)) (sym gone)));
    }
