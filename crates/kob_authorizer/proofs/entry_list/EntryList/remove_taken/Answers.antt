use Rattle.kob_authorizer.proofs.Words.{ap, bindings_left, filter_same, rules, ◌∙◌, ◌≡◌}
use Rattle.kob_authorizer.proofs.entry_list.EntryList.remove_taken.Goals as goal

pub returns-clause-entries : goal.returns-clause-entries
returns-clause-entries c =
    let left : c.retain.new.self.items ≡ bindings_left c.args.filter.now c.remove_first.new.slots.items =
    filter_same _ _ _ (λ x b f' k. search rules) _ _ c.retain.ensures.filtered in
    left ∙ ap (bindings_left c.args.filter.now) (c.remove_first.ensures.items ∙ ap (λ list. list.entries) c.self.view_is)
