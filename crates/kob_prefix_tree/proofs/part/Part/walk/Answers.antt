use Rattle.kob_prefix_tree.proofs.Words.{Option, Place, ap, arith, common_steps, held_from, serials_along, sym, ◌∙◌}
use Rattle.kob_prefix_tree.proofs.WalkLemmas.{serials_along_first, serials_along_nothing}
use Rattle.kob_prefix_tree.proofs.part.Part.walk.Goals as goal

pub returns-in-None : goal.returns-in-None
returns-in-None c =
    c.over.ensures ∙ c.nothing.ensures ∙ sym (serials_along_nothing c.args.name.now)
    ∙ ap (λ (place : Option Place). serials_along (held_from place) c.args.name.now) (sym c.in-None.is)

pub returns-in-Some : goal.returns-in-Some
returns-in-Some c = grind (arith, common_steps, serials_along_first)
