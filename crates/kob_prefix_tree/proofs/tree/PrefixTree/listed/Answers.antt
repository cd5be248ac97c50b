use Rattle.kob_prefix_tree.proofs.Words.{Held, List, ap, serials_of, ℕ, ◌∙◌}
use Rattle.kob_prefix_tree.proofs.tree.PrefixTree.listed.Goals as goal

pub returns : goal.returns
returns c = c.listed.ensures ∙ ap (λ (held : List ℕ → Held). serials_of c.args.kind (held c.args.key.now)) c.whole.ensures
