use Rattle.kob_prefix_tree.proofs.Words.{◌++◌, ◌≡◌}
use Rattle.kob_prefix_tree.specs.Contents.{serials_behind}
use Rattle.kob_prefix_tree.proofs.BelowLemmas.{left_in, steps_in}
use Rattle.kob_prefix_tree.proofs.place.Place.serials_behind.Given as goal

abbrev pub invariant-loop-link : goal.invariant-loop-link
invariant-loop-link l = serials_behind l.fn.self ≡ l.serials.items ++ left_in l.links.items

abbrev pub decreases-loop-link : goal.decreases-loop-link
decreases-loop-link l = steps_in l.links.items
