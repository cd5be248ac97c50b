-- Requests on groups: offsets committed and read back, groups listed and deleted.
use Rattle.std.specs.Prelude.{ℕ, Bool, not, nat_lt, List, [], ◌∷◌, ◌++◌, Option, is_some, if◌then◌else◌}
use Rattle.std.specs.List.{filter}
use Rattle.kob_rights.specs.declared.on_groups.DeleteGroups.{DeleteGroups}
use Rattle.kob_rights.specs.declared.on_groups.OffsetCommit.{OffsetCommit}
use Rattle.kob_rights.specs.declared.on_groups.OffsetFetch.{OffsetFetch}
use Rattle.kob_rights.specs.declared.reason.Reason.TheVariants as reasons
use Rattle.kob_broker.specs.Denial.{describes_cluster, describes_group, named_reasons}
use Rattle.kob_broker.specs.State.{Contents, Event, Reason, State, Groups, committed_at, has_group, is_full_for, place_of, with_commit, group_fault, offset_limit}

module _ {P : Type 0} where
  abbrev pub offset_commit_reasons : State P → Option P → OffsetCommit → List (Bool × Reason)
  offset_commit_reasons s found commit =
      (is_some (group_fault commit.group), reasons.BadGroupName)
      ∷ named_reasons commit.topic s.topics found
      ++ (nat_lt offset_limit commit.offset, reasons.BadOffset)
      ∷ (is_full_for commit.group s.groups, reasons.TooManyGroups)
      ∷ []

  -- a new group is put last, and the offset stands at its place
  abbrev pub offset_commit_after : State P → OffsetCommit → State P
  offset_commit_after s commit =
      record s {
        groups =
            with_commit (place_of commit.group commit.topic commit.partition) commit.offset
            s.groups;
      }

-- only the group's name is looked at
abbrev pub offset_fetch_reasons : OffsetFetch → List (Bool × Reason)
offset_fetch_reasons asked = (is_some (group_fault asked.group), reasons.BadGroupName) ∷ []

abbrev pub offset_committed : Groups → OffsetFetch → Option ℕ
offset_committed groups asked =
    committed_at (place_of asked.group asked.topic asked.partition) groups

-- all groups for one who may describe the cluster, and else those that the principal may describe
abbrev pub groups_shown : Contents → Event → List (List ℕ) → List (List ℕ)
groups_shown access event names =
    if describes_cluster access event then names else filter (describes_group access event) names

abbrev pub delete_groups_reasons : Groups → DeleteGroups → List (Bool × Reason)
delete_groups_reasons groups delete =
    (is_some (group_fault delete.group), reasons.BadGroupName)
    ∷ (not (has_group delete.group groups), reasons.GroupNotFound)
    ∷ []
