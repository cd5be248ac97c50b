use Rattle.kob_prefix_tree.proofs.in_place.Link+Item.+add_in_place.Given as goal

abbrev pub decreases-add_in_place : goal.decreases-add_in_place
decreases-add_in_place l = l.levels
