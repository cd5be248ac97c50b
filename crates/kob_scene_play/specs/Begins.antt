-- How a consumer begins that begins at the end of a partition where its group has no commit.
use Rattle.std.specs.Prelude.{◌≡◌, ℕ, List, Option, None, option_map}
use Rattle.kob_delivery_check.specs.Starts.{start_due}
use Rattle.kob_inbox.specs.declared.fetcher.Fetcher.{Fetcher}
use Rattle.kob_inbox.specs.declared.tick.Tick.{Tick}
use Rattle.kob_router.specs.declared.line.Loss.{Loss}
use Rattle.kob_rights.specs.declared.event.Event.{Event}
use Rattle.kob_rights.specs.declared.on_groups.OffsetCommit.{OffsetCommit as CommitRequest}
use Rattle.kob_rights.specs.declared.reply.Reply.{Reply}
use Rattle.kob_rights.specs.declared.request.Request.TheVariants.{OffsetCommit}
use Rattle.kob_scene_text.specs.declared.scene.Start.{Start}
use Rattle.kob_scene_text.specs.declared.scene.Start.TheVariants.{Earliest, Latest}
use Rattle.kob_scene_play.specs.Asked.{IsAsked, committed_by}
use Rattle.kob_shared.specs.Journals.{Record}
use Rattle.kob_shared.specs.declared.journal.Entry.{Entry}

abbrev pub event_by : List ℕ → List ℕ → CommitRequest → Event
event_by principal host asked =
    record { principal = principal; host = host; request = OffsetCommit asked }

-- the commit of the end of the first partition on which the consumer knows no position and its group
-- has no commit
abbrev pub commit_event : List ℕ → List ℕ → Fetcher → List Entry → Option Event
commit_event principal host consumer journal =
    option_map (event_by principal host)
    (start_due journal consumer consumer.subscription.assignment)

-- where it begins at the end
abbrev pub start_event : Start → List ℕ → List ℕ → Fetcher → List Entry → Option Event
start_event Earliest principal host consumer journal = None
start_event Latest principal host consumer journal = commit_event principal host consumer journal

-- the commit is asked for, of which a message may be lost
abbrev pub IsBegun : Loss → ℕ → Event → Record → Record → Tick → Type 0
IsBegun loss worker event before after tick =
    (heard : Option Reply)
    × IsAsked loss worker event before after heard × (tick ≡ committed_by heard)
