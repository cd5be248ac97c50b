use Rattle.kob_groups.proofs.Words.{offsets_in}
use Rattle.kob_groups.proofs.Maps.{seen_written}
use Rattle.kob_groups.proofs.commits.Commits.reserve.Goals as goal

pub returns-in_err-reserve-in-Some-clause-commits : goal.returns-in_err-reserve-in-Some-clause-commits
returns-in_err-reserve-in-Some-clause-commits c =
    seen_written offsets_in _ c.args.self.now.by_topic.entries _ _ c.value_at_mut.ensures.value
    c.reserve.ensures.entries

pub returns-in_ok-reserve-in-Some-clause-commits : goal.returns-in_ok-reserve-in-Some-clause-commits
returns-in_ok-reserve-in-Some-clause-commits c =
    seen_written offsets_in _ c.args.self.now.by_topic.entries _ _ c.value_at_mut.ensures.value
    c.reserve.ensures.entries
