use Rattle.kob_prefix_tree.proofs.Words.{◌+◌}
use Rattle.kob_prefix_tree.proofs.in_place.+remove_in_place.Given as goal

abbrev pub decreases-Link+Item::remove_in_place : goal.decreases-Link+Item::remove_in_place
decreases-Link+Item::remove_in_place l = l.levels + l.levels + 1

abbrev pub decreases-remove_behind : goal.decreases-remove_behind
decreases-remove_behind l = l.levels + l.levels
