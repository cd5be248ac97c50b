-- What is read of a group's commit after another one, and after commits went.
use Rattle.kob_groups.proofs.Words.{Bool, CommitPlace, Commits, Groups, List, None, Option, Some, [], ap, arith, cases_Bool, commits_of, committed_at, cond, equal_names, false, inl, inr, lookup, lookup-map_values, lookup_without, nat_eq, nat_eq_equiv, nat_list_eq_equiv, nat_tests, offsets_on, option_map, refl, same_text, true, unwrap_or, with_commit, with_offset, without_group, without_offsets, without_topic, ℕ, ◌&&◌, ◌∙◌, ◌≡◌}
use Rattle.kob_groups.proofs.Maps.{found_inserted}

-- the value that is read, or none
or_none : {X : Type 0} (b : Bool) (x : List X) (found : Option (List X))
    → unwrap_or (cond b (Some x) found) [] ≡ cond b x (unwrap_or found [])
or_none b x found = grind (arith, nat_tests)

none_or : {X Y : Type 0} (read : List X → Option Y) (b : Bool) (found : Option (List X)) → read [] ≡ None
    → read (unwrap_or (cond b None found) []) ≡ cond b None (read (unwrap_or found []))
none_or read b found nothing = grind (arith, nat_tests)

-- the test of equality of places
abbrev pub same_place : CommitPlace → CommitPlace → Bool
same_place a b =
    same_text a.group b.group && (same_text a.topic b.topic && nat_eq a.partition b.partition)

-- what is read after a commit
pub read_committed : (groups : Groups) (place : CommitPlace) (offset : ℕ) (q : CommitPlace)
    → committed_at q (with_commit place offset groups) ≡ cond (same_place place q) (Some offset) (committed_at q groups)
read_committed groups place offset q =
    let commits = commits_of place.group groups in
    let made = with_offset place.topic place.partition offset commits in
    rw (
      found_inserted nat_list_eq_equiv groups place.group q.group made,
      or_none (same_text place.group q.group) made (lookup (same_text q.group) groups),
    )
    (elim (cases_Bool (same_text place.group q.group)) [
      | inl on ↦
          rw (
            on,
            found_inserted nat_list_eq_equiv commits place.topic q.topic _,
            or_none (same_text place.topic q.topic) _ (lookup (same_text q.topic) commits),
          )
          (elim (cases_Bool (same_text place.topic q.topic)) [
            | inl hit ↦
                rw (
                  hit,
                  found_inserted nat_eq_equiv (offsets_on place.topic commits) place.partition q.partition offset,
                  equal_names place.group q.group on,
                  equal_names place.topic q.topic hit,
                ) refl
            | inr miss ↦ rw (miss, equal_names place.group q.group on) refl
          ])
      | inr off ↦ rw off refl
    ])

-- and after a group went with its commits
pub read_without_group : (groups : Groups) (name : List ℕ) (q : CommitPlace)
    → committed_at q (without_group name groups) ≡ cond (same_text name q.group) None (committed_at q groups)
read_without_group groups name q = grind (arith, nat_tests, unwrap_or, lookup_without name q.group groups, none_or)

-- and after the commits on a topic went
pub read_without_topic : (groups : Groups) (name : List ℕ) (q : CommitPlace)
    → committed_at q (without_topic name groups) ≡ cond (same_text name q.topic) None (committed_at q groups)
read_without_topic groups name q =
    ap (λ found. lookup (nat_eq q.partition) (offsets_on q.topic (unwrap_or found [])))
    (lookup-map_values (without_offsets name) (same_text q.group) groups)
    ∙ by (lookup (same_text q.group) groups)
  where
    nothing : (b : Bool) → ◌≡◌ {A = Option ℕ} None (cond b None None)
    nothing true = refl
    nothing false = refl

    by : (found : Option Commits)
        → lookup (nat_eq q.partition)
        (offsets_on q.topic (unwrap_or (option_map (without_offsets name) found) []))
        ≡ cond (same_text name q.topic) None
        (lookup (nat_eq q.partition) (offsets_on q.topic (unwrap_or found [])))
    by None = nothing (same_text name q.topic)
    by (Some commits) =
        ap (λ found. lookup (nat_eq q.partition) (unwrap_or found [])) (lookup_without name q.topic commits)
        ∙ none_or (lookup (nat_eq q.partition)) (same_text name q.topic) (lookup (same_text q.topic) commits) refl
