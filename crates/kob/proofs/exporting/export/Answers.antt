use Rattle.kob.proofs.exporting.export.Goals as goal

pub returns-in-Ok-clause-whole : goal.returns-in-Ok-clause-whole
returns-in-Ok-clause-whole g c = λ whole. (c.in-Ok.scene, c.in-Ok.ensures.read, c.export_read.ensures.whole whole)
