use Rattle.kob_prefix_tree.proofs.Words.{◌++◌, ◌∙◌, ◌∷◌}
use Rattle.kob_prefix_tree.proofs.tree.PrefixTree.behind.Goals as goal

pub returns : goal.returns
returns c = c.behind.ensures ∙ (λ i key. c.whole.ensures i (c.args.text.now ++ c.args.byte ∷ key))
