use Rattle.kob_prefix_tree.proofs.in_place.Link+Item.+grow_in_place.Given as goal

abbrev pub decreases-grow_in_place : goal.decreases-grow_in_place
decreases-grow_in_place l = l.levels
