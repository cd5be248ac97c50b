use Rattle.kob_script.proofs.Imports.{flat_map, take, ◌++◌, ◌≡◌}
use Rattle.kob_words.specs.Words.{IsKept}
use Rattle.kob_script.proofs.printed.push_list.Given as goal

abbrev pub invariant-loop-item : goal.invariant-loop-item
invariant-loop-item g l = record {
  text : l.out.items ≡ l.initial.out.items ++ flat_map g.T.Item.text (take l.item-index l.items);
  kept : IsKept l.fn.out.items l.out.items;
}
