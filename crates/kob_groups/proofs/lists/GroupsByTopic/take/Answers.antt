use Rattle.kob_groups.proofs.Maps.{changes_taken, filled_without, none_left}
use Rattle.kob_groups.proofs.lists.GroupsByTopic.take.Goals as goal

pub invariant_of-self : goal.invariant_of-self
invariant_of-self c =
    let topic = c.args.topic.now in let old = c.args.self.now.by_topic.entries in let new = c.remove.new.self.entries in
    record {
      filled = filled_without topic old new (changes_taken topic old new c.remove.ensures.entries c.remove.ensures.gone)
          c.args.self.now.filled;
    }

pub returns-clause-left : goal.returns-clause-left
returns-clause-left c =
    let topic = c.args.topic.now in let old = c.args.self.now.by_topic.entries in let new = c.remove.new.self.entries in
    none_left topic old new (changes_taken topic old new c.remove.ensures.entries c.remove.ensures.gone)
