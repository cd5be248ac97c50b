use Rattle.kob_prefix_tree.proofs.Words.{held_in, seen, ◌∙◌, ◌∷◌}
use Rattle.kob_prefix_tree.proofs.WalkLemmas.{from_match}
use Rattle.kob_prefix_tree.proofs.part.Part.behind.Goals as goal

pub returns-in-None : goal.returns-in-None
returns-in-None c = λ i key. c.in-None.ensures (c.args.byte ∷ key) i

pub returns-in-Some : goal.returns-in-Some
returns-in-Some c = λ i key.
    (from_match c.child.result (λ key. held_in (c.args.byte ∷ key) (seen c.in-Some.place)) c.child.ensures.held key
    ∙ c.in-Some.ensures (c.args.byte ∷ key)) i
