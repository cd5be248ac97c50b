use Rattle.kob_groups.proofs.Words.{None, Some, ap, arith, common_steps, is_among, length, not, option_copied_mut, same_text, set_value, sym, ◌&&◌, ◌∙◌, ◌≡◌}
use Rattle.kob_groups.proofs.Maps.{changes_taken, changes_twice, changes_written, filled_changed, filled_without, listed_left, none_is_less, taken_less}
use Rattle.kob_groups.proofs.lists.GroupsByTopic.remove.Goals as goal

pub invariant_of-self-then-len-eq0 : goal.invariant_of-self-then-len-eq0
invariant_of-self-then-len-eq0 c =
    let topic = c.args.topic.now in let old = c.args.self.now.by_topic.entries in let final = c.remove.new.self in
    let found = sym c.get_mut.ensures.value ∙ ap option_copied_mut c.in-Some.is in
    let new = c.remove-then-len-eq0.new.self.entries in let left = c.remove-then-len-eq0.ensures in record {
      filled = filled_without topic old new
          (changes_twice topic (Some final) None old (set_value (same_text topic) old final) new
          (changes_written topic c.in-Some.names.now final old found)
          (changes_taken topic (set_value (same_text topic) old final) new left.entries left.gone))
          c.args.self.now.filled;
    }

pub invariant_of-self-else-len-eq0 : goal.invariant_of-self-else-len-eq0
invariant_of-self-else-len-eq0 c =
    grind (arith, common_steps, option_copied_mut, filled_changed, set_value, changes_written)

pub returns-then-len-eq0 : goal.returns-then-len-eq0
returns-then-len-eq0 c =
    let topic = c.args.topic.now in let old = c.args.self.now.by_topic.entries in let final = c.remove.new.self in
    let group = c.args.group.now in let was = c.in-Some.names.now in
    let found = sym c.get_mut.ensures.value ∙ ap option_copied_mut c.in-Some.is in
    let new = c.remove-then-len-eq0.new.self.entries in let left = c.remove-then-len-eq0.ensures in
    let none : length final.entries ≡ 0 = omega (arith, c.len.ensures.count, c.if-len-eq0.true) in
    listed_left topic group None old new
    (changes_twice topic (Some final) None old (set_value (same_text topic) old final) new
    (changes_written topic was final old found)
    (changes_taken topic (set_value (same_text topic) old final) new left.entries left.gone))
    (λ g. none_is_less group was final c.remove.ensures.entries c.remove.ensures.gone none g
    ∙ ap (λ o. is_among g o && not (same_text group g)) (sym found))

pub returns-else-len-eq0 : goal.returns-else-len-eq0
returns-else-len-eq0 c =
    let topic = c.args.topic.now in let old = c.args.self.now.by_topic.entries in let final = c.remove.new.self in
    let group = c.args.group.now in let was = c.in-Some.names.now in
    let found = sym c.get_mut.ensures.value ∙ ap option_copied_mut c.in-Some.is in
    listed_left topic group (Some final) old (set_value (same_text topic) old final)
    (changes_written topic was final old found)
    (λ g. taken_less group was final c.remove.ensures.entries c.remove.ensures.gone g
    ∙ ap (λ o. is_among g o && not (same_text group g)) (sym found))
