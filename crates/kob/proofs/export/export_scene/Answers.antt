use Rattle.kob.proofs.Exported.{exported_whole}
use Rattle.kob.specs.Standing.{seen}
use Rattle.kob.proofs.export.export_scene.Goals as goal

pub returns-in-Ok : goal.returns-in-Ok
returns-in-Ok c =
    exported_whole c.args.scene.now (seen c.in_ok-end.end) c.deref.result.now c.args.out.now.items
    c.push_end-made.new.out.items c.in_ok-end.ensures c.deref.ensures.value c.in-Ok.ensures
