use Rattle.kob_prefix_tree.proofs.Words.{ChangedAt, Contents, Held, bare, count, end_of, key_of, led_by, unwound, ◌++◌, ◌≡◌, ◌≢◌}
use Rattle.kob_prefix_tree.proofs.branch.Branch.along.Given as goal

abbrev pub invariant-loop-path : goal.invariant-loop-path
invariant-loop-path l = record {
  inner : end_of l.here ≡ bare;
  changed : (f : Held → Held) (c : Contents) → ChangedAt (key_of l.path.nodes) f bare c → c ≢ bare
      → ChangedAt (l.fn.tail ++ key_of l.initial.path.nodes) f bare (unwound l.above.nodes (led_by l.here.tail c));
}

abbrev pub decreases-loop-path : goal.decreases-loop-path
decreases-loop-path l = count l.path.nodes
