use Rattle.std.proofs.Common.{◌≡◌, ◌++◌, flat_map, take}
use Rattle.kob_scene_export.specs.Server.{super_text}
use Rattle.kob_scene_export.proofs.server.push_supers.Given as goal

abbrev pub invariant-loop-principal : goal.invariant-loop-principal
invariant-loop-principal l =
    l.out.items ≡ l.initial.out.items ++ flat_map (super_text l.written) (take l.principal-index l.supers)
