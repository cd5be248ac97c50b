-- How each change of the groups keeps those listed for a topic that have commits on it.
use Rattle.kob_groups.proofs.Words.{AllByRecursion, AreListed, Bool, CommitPlace, Commits, Groups, GroupsByTopic, IsDistinct, IsDistinct-head, IsDistinct-tail, List, None, Option, Some, [], ap, arith, commits_of, cond, equal_names, false, has_commits, is_listed, is_pair, is_some, keys_of, lookup, lookup-map_values, lookup_without, nat_list_eq_equiv, nat_tests, not, option_map, refl, same_name, same_text, slice_get, suc, sym, true, unwrap_or, with_commit, with_offset, without_group, without_offsets, without_topic, zero, ℕ, ◌&&◌, ◌||◌, ◌∙◌, ◌∷◌, ◌≡◌, commits_in, groups_in, keys_of-map_values, none_of, removed_absent, removed_others, set_value, subst, without_topic_at}
use Rattle.kob_groups.proofs.Maps.{found_inserted}
use Rattle.kob_groups.specs.declared.commits.Commits.{Commits as CommitsKept}

abbrev pub Group : Type 0
Group = List ℕ × Commits

-- commits after an offset is put in
put_commits : (topic t : List ℕ) (partition offset : ℕ) (commits : Commits)
    → has_commits t (with_offset topic partition offset commits) ≡ (same_text topic t || has_commits t commits)
put_commits topic t partition offset commits = grind (arith, nat_tests, found_inserted nat_list_eq_equiv commits topic t)

pub listed_committed : (groups : Groups) (old new : GroupsByTopic) (place : CommitPlace) (offset : ℕ)
    → AreListed groups old
    → ((t g : List ℕ) → is_listed t g new ≡ (is_pair place.topic place.group t g || is_listed t g old))
    → AreListed (with_commit place offset groups) new
listed_committed groups old new place offset listed put topic group =
    let found = found_inserted nat_list_eq_equiv groups place.group group in
    let commits = put_commits place.topic topic place.partition offset (commits_of place.group groups) in
    let same = equal_names place.group group in grind (arith, nat_tests, unwrap_or)

pub listed_removed : (groups : Groups) (old new : GroupsByTopic) (name : List ℕ) → AreListed groups old
    → ((t g : List ℕ) → is_listed t g new
    ≡ (is_listed t g old && not (same_text name g && has_commits t (commits_of name groups))))
    → AreListed (without_group name groups) new
listed_removed groups old new name listed left topic group =
    grind (arith, nat_tests, left topic group, listed topic group, lookup_without name group groups, equal_names name group)

pub listed_forgotten : (groups : Groups) (old new : GroupsByTopic) (topic : List ℕ) → AreListed groups old
    → ((t g : List ℕ) → is_listed t g new ≡ (not (same_text topic t) && is_listed t g old))
    → AreListed (without_topic topic groups) new
listed_forgotten groups old new topic listed left t g =
    left t g ∙ ap (λ b. not (same_text topic t) && b) (listed t g) ∙ by (lookup (same_text g) groups)
    ∙ sym (ap (λ found. has_commits t (unwrap_or found [])) (lookup-map_values (without_offsets topic) (same_text g) groups))
  where
    fewer : (commits : Commits)
        → (not (same_text topic t) && has_commits t commits) ≡ has_commits t (without_offsets topic commits)
    fewer commits = one (same_text topic t) ∙ sym (ap is_some (lookup_without topic t commits))
      where
        one : (b : Bool) → (not b && has_commits t commits) ≡ is_some (cond b None (lookup (same_text t) commits))
        one true = refl
        one false = refl

    nothing : (b : Bool) → (b && false) ≡ false
    nothing true = refl
    nothing false = refl

    by : (found : Option Commits) → (not (same_text topic t) && has_commits t (unwrap_or found []))
        ≡ has_commits t (unwrap_or (option_map (without_offsets topic) found) [])
    by None = nothing (not (same_text topic t))
    by (Some commits) = fewer commits

names_apart : {X : Type 0} (P : List ℕ → Type 0) (entries : List (List ℕ × X)) (place : ℕ) (e : List ℕ × X)
    → AllByRecursion P (keys_of entries) → slice_get entries place ≡ Some e → P e.0
names_apart P [] place e all there = cc
names_apart P (head ∷ entries) zero e all there = grind (arith, nat_tests)
names_apart P (head ∷ entries) (suc place) e all there = names_apart P entries place e all.1 there

-- an entry is found by its name
own_entry : {X : Type 0} (entries : List (List ℕ × X)) (place : ℕ) (e : List ℕ × X)
    → IsDistinct same_text (keys_of entries) → slice_get entries place ≡ Some e
    → lookup (same_text e.0) entries ≡ Some e.1
own_entry [] place e distinct there = cc
own_entry {X} (head ∷ entries) zero e distinct there = grind (arith, nat_tests, same_name)
own_entry {X} (head ∷ entries) (suc place) e distinct there =
    let apart = names_apart (λ k. same_text head.0 k ≡ false) entries place e
    (IsDistinct-head same_text head.0 (keys_of entries) distinct) there in
    let later = own_entry entries place e (IsDistinct-tail same_text head.0 (keys_of entries) distinct) there in
    grind (arith, nat_tests, nat_list_eq_equiv.symm e.0 head.0)

-- a group with commits on a topic is listed for it
pub each_listed : (groups : Groups) (lists : GroupsByTopic) (topic : List ℕ) → AreListed groups lists
    → IsDistinct same_text (keys_of groups) → (place : ℕ) (group : Group) → slice_get groups place ≡ Some group
    → has_commits topic group.1 ≡ true → is_listed topic group.0 lists ≡ true
each_listed groups lists topic listed distinct place group there some =
    let own = own_entry groups place group distinct there in grind (arith, nat_tests, listed topic group.0)

-- where no list is left to leave
pub none_to_leave : (listed here : Bool) → listed ≡ (listed && not (here && false))
none_to_leave listed here = grind (arith, nat_tests)

-- What is left when the commits on a topic go from the groups of some names.

abbrev pub Entries : Type 0
Entries = List (List ℕ × CommitsKept)

-- commits of which none are on the topic
absent_stay : (topic : List ℕ) (commits : Commits) → lookup (same_text topic) commits ≡ None
    → without_offsets topic commits ≡ commits
absent_stay topic commits none = grind (arith, nat_tests, removed_absent topic commits none, removed_others)

gone_stay : (topic : List ℕ) (commits : Commits)
    → without_offsets topic (without_offsets topic commits) ≡ without_offsets topic commits
gone_stay topic [] = refl
gone_stay topic (on ∷ commits) = grind (arith, nat_tests, gone_stay topic commits)

-- first from some groups, and then from others
pub forgotten_twice : (first second : List ℕ → Bool) (topic : List ℕ) (groups : Groups)
    → without_topic_at second topic (without_topic_at first topic groups)
    ≡ without_topic_at (λ name. first name || second name) topic groups
forgotten_twice first second topic [] = refl
forgotten_twice first second topic (group ∷ groups) =
    grind (arith, nat_tests, forgotten_twice first second topic groups, gone_stay)

-- from one name, and then from those of a list
pub forgotten_first : {V : Type 0} (name topic : List ℕ) (value : V) (names : List (List ℕ × V)) (groups : Groups)
    → without_topic_at (λ other. is_some (lookup (same_text other) names)) topic
    (without_topic_at (same_text name) topic groups)
    ≡ without_topic_at (λ other. is_some (lookup (same_text other) ((name, value) ∷ names))) topic groups
forgotten_first name topic value names groups = grind (arith, nat_tests, forgotten_twice, is_some, nat_list_eq_equiv)

pub forgotten_none : (topic : List ℕ) (groups : Groups) → without_topic_at (λ other. false) topic groups ≡ groups
forgotten_none topic [] = refl
forgotten_none topic (group ∷ groups) = ap (λ gs. group ∷ gs) (forgotten_none topic groups)

none_pass : (name topic : List ℕ) (entries : Entries)
    → AllByRecursion (λ key. same_text name key ≡ false) (keys_of entries)
    → without_topic_at (same_text name) topic (groups_in entries) ≡ groups_in entries
none_pass name topic [] none = refl
none_pass name topic (e ∷ entries) none = grind (arith, nat_tests, none_pass name topic entries none.1)

-- a name that is not there
pub forgotten_absent : (name topic : List ℕ) (entries : Entries) → lookup (same_text name) entries ≡ None
    → without_topic_at (same_text name) topic (groups_in entries) ≡ groups_in entries
forgotten_absent name topic [] none = refl
forgotten_absent name topic (e ∷ entries) none = grind (arith, nat_tests, forgotten_absent name topic entries)

-- a name that is there, whose commits on the topic went
pub forgotten_written : (name topic : List ℕ) (entries : Entries) (old final : CommitsKept)
    → IsDistinct same_text (keys_of entries) → lookup (same_text name) entries ≡ Some old
    → commits_in final ≡ without_offsets topic (commits_in old)
    → groups_in (set_value (same_text name) entries final) ≡ without_topic_at (same_text name) topic (groups_in entries)
forgotten_written name topic [] old final distinct found changed = cc
forgotten_written name topic (e ∷ entries) old final distinct found changed =
    by (same_text name e.0) refl found (forgotten_written name topic entries old final
    (IsDistinct-tail same_text e.0 (keys_of entries) distinct))
  where
    rest : Groups
    rest = without_topic_at (same_text name) topic (groups_in entries)

    apart : (n : List ℕ) → e.0 ≡ n → AllByRecursion (λ key. same_text n key ≡ false) (keys_of entries)
    apart n is =
        subst (λ m. AllByRecursion (λ key. same_text m key ≡ false) (keys_of entries)) is
        (IsDistinct-head same_text e.0 (keys_of entries) distinct)

    by : (hit : Bool) → same_text name e.0 ≡ hit → cond hit (Some e.1) (lookup (same_text name) entries) ≡ Some old
        → (lookup (same_text name) entries ≡ Some old → commits_in final ≡ without_offsets topic (commits_in old)
        → groups_in (set_value (same_text name) entries final) ≡ rest)
        → groups_in (cond hit ((e.0, final) ∷ entries) (e ∷ set_value (same_text name) entries final))
        ≡ (e.0, cond hit (without_offsets topic (commits_in e.1)) (commits_in e.1)) ∷ rest
    by true is here later =
        let same : old ≡ e.1 = cc in
        ap (λ cs. (e.0, cs) ∷ groups_in entries) (changed ∙ ap (λ c. without_offsets topic (commits_in c)) same)
        ∙ ap (λ gs. (e.0, without_offsets topic (commits_in e.1)) ∷ gs)
        (sym (none_pass name topic entries (apart name (sym (equal_names name e.0 is)))))
    by false is here later = ap (λ gs. (e.0, commits_in e.1) ∷ gs) (later here changed)

-- where all groups with commits on the topic pass
forgotten_all : (passes : List ℕ → Bool) (topic : List ℕ) (groups : Groups)
    → ((place : ℕ) (group : Group) → slice_get groups place ≡ Some group → has_commits topic group.1 ≡ true
    → passes group.0 ≡ true)
    → without_topic_at passes topic groups ≡ without_topic topic groups
forgotten_all passes topic [] all = refl
forgotten_all passes topic (group ∷ groups) all =
    let rest = forgotten_all passes topic groups (λ place. all (suc place)) in let first = all 0 group in
    grind (arith, nat_tests, absent_stay topic group.1, none_of (lookup (same_text topic) group.1))

-- where those pass that are listed for the topic
pub forgotten_listed : (entries : Entries) (lists : GroupsByTopic) (topic : List ℕ) (passes : List ℕ → Bool)
    → AreListed (groups_in entries) lists → IsDistinct same_text (keys_of entries)
    → ((group : List ℕ) → passes group ≡ is_listed topic group lists)
    → without_topic_at passes topic (groups_in entries) ≡ without_topic topic (groups_in entries)
forgotten_listed entries lists topic passes listed distinct same =
    grind (arith, nat_tests, forgotten_all, each_listed, keys_of-map_values commits_in entries)
