use Rattle.kob_groups.proofs.Words.{CanPut, [], ap, commits_in, insert_entry, name_at, nat_eq, offsets_in, refl, same_text, subst, sym, topic_in, with_offset, ◌∙◌}
use Rattle.kob_groups.proofs.Maps.{seen, seen_changed, seen_put}
use Rattle.kob_groups.specs.declared.offsets.Offsets.TheVariants.{One}
use Rattle.kob_groups.proofs.commits.Commits.put.Goals as goal

pub returns-in-TopicAt : goal.returns-in-TopicAt
returns-in-TopicAt c =
    let commits = c.args.self.now in let topic = name_at commits.by_topic c.in-TopicAt.place in
    seen_changed offsets_in same_text commits.by_topic.entries topic c.value_at_mut.result.now c.put.new.self []
    (λ offsets. insert_entry nat_eq offsets c.args.partition c.args.offset) c.value_at_mut.ensures.value
    c.put.ensures
    ∙ ap (λ entry. with_offset (topic_in entry commits) c.args.partition c.args.offset (commits_in commits))
    (sym c.in-TopicAt.is)

pub returns-in-NewTopic : goal.returns-in-NewTopic
returns-in-NewTopic c =
    let commits = c.args.self.now in let partition = c.args.partition in let offset = c.args.offset in
    let can = subst (λ entry. CanPut entry partition commits) c.in-NewTopic.is c.requires in
    ap (seen offsets_in) c.insert.ensures.entries
    ∙ seen_put offsets_in same_text commits.by_topic.entries c.in-NewTopic.topic (One partition offset) []
    (λ offsets. insert_entry nat_eq offsets partition offset) can.1 refl
    ∙ ap (λ entry. with_offset (topic_in entry commits) partition offset (commits_in commits)) (sym c.in-NewTopic.is)
