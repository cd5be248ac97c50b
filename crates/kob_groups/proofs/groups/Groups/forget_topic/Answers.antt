use Rattle.kob_groups.proofs.Words.{AreListed, Some, ap, false, groups_of, is_among, subst, sym, ◌∙◌}
use Rattle.kob_groups.proofs.Listings.{forgotten_listed, forgotten_none, listed_forgotten}
use Rattle.kob_groups.proofs.groups.Groups.forget_topic.Goals as goal

pub returns-in_default : goal.returns-in_default
returns-in_default c =
    let old = c.args.self.now in let topic = c.args.topic.now in
    sym (forgotten_none topic (groups_of old))
    ∙ forgotten_listed old.by_name.entries old.lists topic (λ name. false) old.listed c.names_differ.ensures
    (λ group. sym (ap (is_among group) c.in_default.is) ∙ c.take.ensures.names group)

pub invariant_of-self-2 : goal.invariant_of-self-2
invariant_of-self-2 c =
    let old = c.args.self.now in let topic = c.args.topic.now in
    let left = c.forget_at.ensures
    ∙ forgotten_listed old.by_name.entries old.lists topic (λ name. is_among name (Some c.in-Some.names)) old.listed
    c.names_differ.ensures (λ group. sym (ap (is_among group) c.in-Some.is) ∙ c.take.ensures.names group) in record {
      listed = subst (λ groups. AreListed groups c.take.new.self) (sym left)
          (listed_forgotten (groups_of old) old.lists c.take.new.self topic old.listed c.take.ensures.left);
    }

pub returns : goal.returns
returns c =
    let old = c.args.self.now in
    c.forget_at.ensures
    ∙ forgotten_listed old.by_name.entries old.lists c.args.topic.now (λ name. is_among name (Some c.in-Some.names))
    old.listed c.names_differ.ensures (λ group. sym (ap (is_among group) c.in-Some.is) ∙ c.take.ensures.names group)
