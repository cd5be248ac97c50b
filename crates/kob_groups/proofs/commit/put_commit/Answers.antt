use Rattle.kob_groups.proofs.Words.{CanEnter, [], ap, commits_in, groups_in, name_at, place_at, place_of, same_text, subst, sym, topic_among, topic_in, with_commit, with_offset, ◌∙◌}
use Rattle.kob_groups.proofs.Maps.{seen, seen_changed, seen_put}
use Rattle.kob_groups.proofs.commit.put_commit.Goals as goal

pub returns-in-GroupAt : goal.returns-in-GroupAt
returns-in-GroupAt c =
    let groups = c.args.groups.now in let name = name_at groups c.in-GroupAt.place in let old = c.value_at_mut.result.now in
    let partition = c.args.partition in let offset = c.args.offset in let found = c.value_at_mut.ensures.value in
    seen_changed commits_in same_text groups.entries name old c.put.new.self []
    (with_offset (topic_in c.in-GroupAt.topic old) partition offset) found c.put.ensures
    ∙ ap (λ o. with_commit (place_of name (topic_among c.in-GroupAt.topic o) partition) offset (groups_in groups.entries))
    (sym found)
    ∙ ap (λ entry. with_commit (place_at entry partition groups) offset (groups_in groups.entries))
    (sym c.in-GroupAt.is)

pub returns-in-NewGroup : goal.returns-in-NewGroup
returns-in-NewGroup c =
    let groups = c.args.groups.now in let partition = c.args.partition in let offset = c.args.offset in
    let commits = c.into_inner-commits.result in let unboxed = c.into_inner-commits.ensures in
    let put = with_offset (topic_in c.in-NewGroup.topic commits) partition offset in
    let can = subst (λ entry. CanEnter entry partition groups) c.in-NewGroup.is c.requires in
    ap (seen commits_in) c.insert.ensures.entries
    ∙ seen_put commits_in same_text groups.entries c.in-NewGroup.group c.put-in-NewGroup.new.self [] put can.1
    (c.put-in-NewGroup.ensures ∙ ap put (ap commits_in unboxed ∙ can.2))
    ∙ ap (λ commits. with_commit (place_of c.in-NewGroup.group (topic_in c.in-NewGroup.topic commits) partition) offset
    (groups_in groups.entries)) unboxed
    ∙ ap (λ entry. with_commit (place_at entry partition groups) offset (groups_in groups.entries))
    (sym c.in-NewGroup.is)
