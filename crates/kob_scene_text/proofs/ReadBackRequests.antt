-- The words of each request that a script can write ask for it.
use Rattle.kob_scene_text.proofs.Words.{Event, List, [], ◌∷◌}
use Rattle.kob_names.specs.declared.draft.Draft.{Draft}
use Rattle.kob_rights.specs.declared.request.Request.{Request}
use Rattle.kob_rights.specs.declared.request.Request.TheVariants as ask
use Rattle.kob_scene_text.proofs.ReadBackBindings.{create_acl}
use Rattle.kob_scene_text.proofs.ReadBackCommands.{commit, committed, create_topic, delete_group, delete_records, delete_topic, fetch, groups, init_producer, list_offsets, metadata}
use Rattle.kob_scene_text.proofs.ReadBackEvents.{IsAsked, event_back}
use Rattle.kob_scene_text.proofs.ReadBackFilters.{delete_acls, describe_acls}
use Rattle.kob_scene_text.proofs.ReadBackRecords.{produce}
use Rattle.kob_scene_text.specs.Rereading.{IsLine, IsOneDraft, IsWritten, ReadsBack}

one_draft : (drafts : List Draft) → IsOneDraft drafts → IsAsked (ask.CreateAcls (record { drafts = drafts }))
one_draft [] is = absurd is
one_draft (draft ∷ []) is = create_acl draft is
one_draft (draft ∷ other ∷ drafts) is = absurd is

pub is_asked : (request : Request) → IsWritten request → IsAsked request
is_asked (ask.Produce p) is = produce p is.0 is.1 is.2 is.3
is_asked (ask.Fetch f) is = fetch f is.0 is.1 is.2 is.3
is_asked (ask.ListOffsets o) is = list_offsets o is.0 is.1
is_asked (ask.Metadata m) is = metadata m.topic is
is_asked (ask.OffsetCommit c) is = commit c is.0 is.1 is.2 is.3
is_asked (ask.OffsetFetch c) is = committed c is.0 is.1 is.2
is_asked ask.ListGroups is = groups
is_asked (ask.DeleteGroups d) is = delete_group d is
is_asked (ask.CreateTopics t) is = create_topic t is.0 is.1
is_asked (ask.DeleteTopics t) is = delete_topic t is
is_asked (ask.DeleteRecords r) is = delete_records r is.0 is.1 is.2
is_asked ask.InitProducerId is = init_producer
is_asked (ask.DescribeAcls d) is = describe_acls d is
is_asked (ask.CreateAcls c) is = one_draft c.drafts is
is_asked (ask.DeleteAcls d) is = delete_acls d is

pub line_back : (event : Event) → IsLine event → ReadsBack event
line_back event is = event_back event is.principal is.host (is_asked event.request is.request)
