use Rattle.std.proofs.Common.{arith, eqb, w8}
use Rattle.std.proofs.lemmas.Simd.{bitmask_splat}
use Rattle.kob_script.proofs.raw_words.percents.Goals as goal

pub returns : goal.returns
returns c = bitmask_splat w8 eqb c.args.lanes 16 37 c.fits-lanes.0 (omega arith)
