-- How many there are of what a policy has.
use Rattle.std.specs.Prelude.{ℕ, Bool, List, ◌++◌, codes, filter, is_some, length}
use Rattle.std.specs.Fmt.{decimal}
use Rattle.kob_names.specs.declared.kinds.ResourceKind.TheVariants.{Topic, Group, TransactionalId}
use Rattle.kob_policy_review.specs.Redundancy.{unused_in}
use Rattle.kob_policy_review.specs.Shadows.{shadowed_in}
use Rattle.kob_policy_review.specs.declared.redundant.Unneeded.{Unneeded}
use Rattle.kob_policy_text.specs.AtHand.{each_once, hosts_named, names_named, principals_named}
use Rattle.kob_policy_text.specs.Policy.{Policy, contents_of, place_of}

unfoldable pub count_line : List ℕ → ℕ → List ℕ
count_line what count = codes "  " ++ what ++ codes " " ++ decimal count ++ codes "\n"

-- nothing is said of what a left out binding closes
abbrev pub is_told : Policy → Unneeded → Bool
is_told policy one = is_some (place_of policy one.serial)

abbrev pub unused_count : Policy → ℕ
unused_count policy = length (filter (is_told policy) (unused_in (contents_of policy)))

-- who is named
unfoldable pub parties_text : Policy → List ℕ
parties_text policy =
    count_line (codes "super-users") (length (each_once policy.supers))
    ++ count_line (codes "principals") (length (principals_named policy.bindings))
    ++ count_line (codes "hosts") (length (hosts_named policy.bindings))

-- what patterns name
unfoldable pub patterns_text : Policy → List ℕ
patterns_text policy =
    count_line (codes "topics") (length (names_named Topic policy.bindings))
    ++ count_line (codes "groups") (length (names_named Group policy.bindings))
    ++ count_line (codes "transactional-ids") (length (names_named TransactionalId policy.bindings))

unfoldable pub summary_text : Policy → List ℕ
summary_text policy =
    count_line (codes "bindings") (length policy.bindings) ++ parties_text policy
    ++ patterns_text policy ++ count_line (codes "left-out") (length policy.omissions)
    ++ count_line (codes "skipped-lines") (length policy.skipped)
    ++ count_line (codes "unused") (unused_count policy)
    ++ count_line (codes "shadowed") (length (shadowed_in (contents_of policy)))
