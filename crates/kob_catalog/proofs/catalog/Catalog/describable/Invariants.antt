use Rattle.kob_catalog.proofs.Words.{listed_where, topics_of, ◌++◌, ◌≡◌}
use Rattle.kob_catalog.proofs.catalog.Catalog.describable.Given as goal

abbrev pub invariant-loop-name : goal.invariant-loop-name
invariant-loop-name g l =
    l.listed.items ++ l.name-iterator ≡ listed_where (g.D.Decider.granted l.fn.decider) (topics_of l.self)
