use Rattle.kob_router.proofs.Words.{YieldsList-from_str_split, map_from_collect}
use Rattle.kob_router.proofs.placement.cut_at.Goals as goal

-- all that `split` at one ASCII byte yields
pub returns : goal.returns
returns c =
    let cut = YieldsList-from_str_split c.args.separator c.args.text.now c.requires c.split.ensures.text
    c.split.ensures.has_more c.split.ensures.pattern in
    map_from_collect _ c.collect.ensures.ran cut
