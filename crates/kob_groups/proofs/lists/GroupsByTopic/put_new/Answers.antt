use Rattle.kob_groups.proofs.Words.{HasRoomFor, List, ap, arith, common_steps, false, group_of, is_among, is_listed, is_pair, is_some, lookup, name_at, same_text, set_value, subst, sym, topic_of, ℕ, ◌||◌, ◌∙◌, ◌≡◌}
use Rattle.kob_groups.proofs.Maps.{changes_to, changes_written, filled_changed, listed_put, one_more_filled, pushed_more}
use Rattle.kob_groups.proofs.lists.GroupsByTopic.put_new.Goals as goal

pub invariant_of-self : goal.invariant_of-self
invariant_of-self c = grind (arith, common_steps, filled_changed, set_value, changes_written, one_more_filled)

pub invariant_of-self-in-NewList : goal.invariant_of-self-in-NewList
invariant_of-self-in-NewList c =
    let lists = c.args.self.now in let topic = c.in-NewList.topic in let old = lists.by_topic.entries in
    let final = c.insert-in-NewList.new.self in
    let can = subst (λ listing. HasRoomFor listing lists) c.in-NewList.is c.requires in record {
      filled = filled_changed topic final old c.insert-in-NewList-2.new.self.entries
          (changes_to topic final old _ c.insert-in-NewList-2.ensures.entries can.1)
          (one_more_filled c.in-NewList.group _ c.into_inner-names.result final c.insert-in-NewList.ensures.entries)
          lists.filled;
    }

pub returns-in-InList : goal.returns-in-InList
returns-in-InList c topic group at t g =
    let lists = c.args.self.now in let there = name_at lists.by_topic c.in-InList.place in
    let old = lists.by_topic.entries in let was = c.value_at_mut.result.now in let final = c.insert.new.self in
    let name = c.in-InList.group in let found = c.value_at_mut.ensures.value in
    let can = subst (λ listing. HasRoomFor listing lists) c.in-InList.is c.requires in
    let absent = subst (λ o. is_among name o ≡ false) found can.1 in
    listed_put there name final old (set_value (same_text there) old final) (changes_written there was final old found)
    (λ g. pushed_more name _ was final c.insert.ensures.entries absent g
    ∙ ap (λ o. same_text name g || is_among g o) (sym found)) t g
    ∙ ap (λ n. is_pair n name t g || is_listed t g lists)
    (ap (λ listing. topic_of listing lists) (sym c.in-InList.is) ∙ at.topic_is)
    ∙ ap (λ n. is_pair topic n t g || is_listed t g lists) (ap group_of (sym c.in-InList.is) ∙ at.group_is)

pub returns-in-NewList : goal.returns-in-NewList
returns-in-NewList c topic group at t g =
    let lists = c.args.self.now in let own = c.in-NewList.topic in let old = lists.by_topic.entries in
    let final = c.insert-in-NewList.new.self in let name = c.in-NewList.group in
    let can = subst (λ listing. HasRoomFor listing lists) c.in-NewList.is c.requires in
    let none = λ (g : List ℕ). ap (λ es. is_some (lookup (same_text g) es))
    (ap (λ names. names.entries) c.into_inner-names.ensures ∙ can.2) in
    listed_put own name final old c.insert-in-NewList-2.new.self.entries
    (changes_to own final old _ c.insert-in-NewList-2.ensures.entries can.1)
    (λ g. pushed_more name _ c.into_inner-names.result final c.insert-in-NewList.ensures.entries (none name) g
    ∙ ap (λ b. same_text name g || b) (none g ∙ sym (ap (is_among g) can.1))) t g
    ∙ ap (λ n. is_pair n name t g || is_listed t g lists)
    (ap (λ listing. topic_of listing lists) (sym c.in-NewList.is) ∙ at.topic_is)
    ∙ ap (λ n. is_pair topic n t g || is_listed t g lists) (ap group_of (sym c.in-NewList.is) ∙ at.group_is)
