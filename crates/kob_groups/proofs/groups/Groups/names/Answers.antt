use Rattle.kob_groups.proofs.Words.{ap, append-nil, commits_in, keys_of, keys_of-map_values, sym, ◌++◌, ◌∙◌}
use Rattle.kob_groups.proofs.groups.Groups.names.Goals as goal

pub returns : goal.returns
returns c =
    let ended = rw c.in-None.is at c.next.ensures.steps in
    c.from_vec.ensures ∙ sym (append-nil c.loop-name.names.items)
    ∙ ap (λ rest. c.loop-name.names.items ++ keys_of rest) (sym ended.0)
    ∙ c.loop-name.invariant ∙ sym (keys_of-map_values commits_in c.args.self.now.by_name.entries)
