use Rattle.kob_prefix_tree.proofs.Words.{ap, contents, held, held_in, ◌∙◌}
use Rattle.kob_prefix_tree.proofs.WayLemmas.{held_everywhere}
use Rattle.kob_prefix_tree.proofs.tree.PrefixTree.whole.Goals as goal

pub returns : goal.returns
returns c =
    c.of.ensures ∙ (λ i key. held_in key (c.place.ensures i))
    ∙ held_everywhere (contents c.self.inside.root) c.self.invariant ∙ ap held c.self.view_is
