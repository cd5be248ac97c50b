use Rattle.kob_groups.proofs.Words.{ap, lookup, offsets_in, same_text, sym, ◌∙◌}
use Rattle.kob_groups.proofs.Maps.{seen, seen_removed}
use Rattle.kob_groups.proofs.commits.Commits.forget.Goals as goal

pub returns : goal.returns
returns c =
    let test = same_text c.args.topic.now in let entries = c.remove.ensures.entries in
    ap (seen offsets_in) entries
    ∙ seen_removed offsets_in test c.args.self.now.by_topic.entries
    (ap (lookup test) (sym entries) ∙ c.remove.ensures.gone)
