use Rattle.kob_groups.proofs.Words.{ap, groups_in, is_some, lookup, option_copied_mut, same_text, sym, without_topic_at, ◌∙◌}
use Rattle.kob_groups.proofs.Listings.{forgotten_absent, forgotten_first, forgotten_none, forgotten_written}
use Rattle.kob_groups.proofs.groups.forget_at.Goals as goal

pub loop-name-preserved-in-Some-get_mut : goal.loop-name-preserved-in-Some-get_mut
loop-name-preserved-in-Some-get_mut c =
    let step = rw c.in-Some.is at c.next.ensures.steps in let name = c.in-Some.name.now in let topic = c.args.topic.now in
    let entries = c.loop-name.groups.entries in let rest = c.next.new.self in
    ap (without_topic_at (λ other. is_some (lookup (same_text other) rest)) topic)
    (forgotten_written name topic entries c.in-Some-get_mut.commits.now c.forget.new.self c.get_mut.ensures.names
    (sym c.get_mut.ensures.value ∙ ap option_copied_mut c.in-Some-get_mut.is) c.forget.ensures)
    ∙ forgotten_first name topic c.in-Some.field-0-1.now rest (groups_in entries)
    ∙ ap (λ names. without_topic_at (λ other. is_some (lookup (same_text other) names)) topic (groups_in entries))
    (sym step)
    ∙ c.loop-name.invariant

pub loop-name-preserved : goal.loop-name-preserved
loop-name-preserved c =
    let step = rw c.in-Some.is at c.next.ensures.steps in let name = c.in-Some.name.now in let topic = c.args.topic.now in
    let entries = c.loop-name.groups.entries in let rest = c.next.new.self in
    ap (without_topic_at (λ other. is_some (lookup (same_text other) rest)) topic)
    (sym (forgotten_absent name topic entries (sym c.get_mut.ensures.value ∙ ap option_copied_mut c.in_default.is)))
    ∙ forgotten_first name topic c.in-Some.field-0-1.now rest (groups_in entries)
    ∙ ap (λ names. without_topic_at (λ other. is_some (lookup (same_text other) names)) topic (groups_in entries))
    (sym step)
    ∙ c.loop-name.invariant

pub returns : goal.returns
returns c =
    let ended = rw c.in-None.is at c.next.ensures.steps in
    sym (forgotten_none c.args.topic.now (groups_in c.loop-name.groups.entries))
    ∙ ap (λ rest. without_topic_at (λ other. is_some (lookup (same_text other) rest)) c.args.topic.now
    (groups_in c.loop-name.groups.entries)) (sym ended.0)
    ∙ c.loop-name.invariant
