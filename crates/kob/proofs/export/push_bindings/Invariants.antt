use Rattle.std.proofs.Common.{◌≡◌, ◌++◌, flat_map, take}
use Rattle.kob_scene_export.specs.Bindings.{binding_line}
use Rattle.kob.proofs.export.push_bindings.Given as goal

abbrev pub invariant-loop-binding : goal.invariant-loop-binding
invariant-loop-binding l =
    l.out.items ≡ l.initial.out.items ++ flat_map binding_line (take l.binding-index l.bindings)
