-- What an entry leaves of one partition, and of what a group committed there.
use Rattle.kob_delivery.proofs.Words.{Accepts, Batch, Commits, DeleteGroups, DeleteTopics, Deletes, Denied, Done, Fetch, InitProducerId, IsSameView, Judgement, List, Next, None, OffsetCommit, OffsetFetch, OldEpoch, OutOfOrder, Place, Produce, Produces, Refused, Repeat, Reply, Request, Step, View, [], and_parts, append-nil, arith, cond-false, inr, nat_tests, refl, subst, sym, with_batch, ℕ, ◌++◌, ◌∙◌, ◌≡◌, ◌⊎◌}
use Rattle.kob_delivery.proofs.Lists.{AreAmong, among_more, among_same, bytes_are, place_cases, places_are, same_here}

module _ (group : List ℕ) (q : Place) where
  -- The log grows, by a PRODUCE to the topic alone. What is committed stays or goes, or it is a commit of the group.
  pub record Leaves (v w : View) (request : Request) (reply : Reply) : Type 0 where
    pub more : List Batch
    pub log : w.log q ≡ v.log q ++ more
    pub grows : (Produces q.topic request reply → ⊥) → more ≡ []
    pub commit : (Commits group q.topic request reply → ⊥)
        → (w.committed group q ≡ None) ⊎ (w.committed group q ≡ v.committed group q)
    pub later : AreAmong v.given w.given

  -- the same by what the new view shows
  leaves_as : {v x w : View} {request : Request} {reply : Reply} → IsSameView w x → Leaves v x request reply
      → Leaves v w request reply
  leaves_as {v} same l = record {
    more = l.more;
    log = same.log q ∙ l.log;
    grows = l.grows;
    commit = λ none. rw (same.committed group q) (l.commit none);
    later = subst (λ (ids : List ℕ). AreAmong v.given ids) (sym same.given) l.later;
  }

  -- nothing is appended there
  no_batch : {v x : View} {request : Request} {reply : Reply} → x.log q ≡ v.log q
      → ((Commits group q.topic request reply → ⊥)
      → (x.committed group q ≡ None) ⊎ (x.committed group q ≡ v.committed group q))
      → AreAmong v.given x.given → Leaves v x request reply
  no_batch {v} log commit later =
      record { more = []; log = log ∙ sym (append-nil (v.log q)); grows = λ _. refl; commit = commit; later = later }

  leaves_all : {v w : View} {request : Request} {reply : Reply} → IsSameView w v → Leaves v w request reply
  leaves_all {v} same = leaves_as same (no_batch refl (λ _. inr refl) (among_same v.given))

  appended : (v : View) (place : Place) (b : Batch) {request : Request} {reply : Reply}
      → (place.topic ≡ q.topic → Produces q.topic request reply)
      → Leaves v (with_batch v place b) request reply
  appended v place b produces = grind (arith, nat_tests, among_same, place_cases, same_here, no_batch, cond-false)

  accepted : {v w : View} {request : Request} {reply : Reply} (place : Place) (b : Batch) (j : Judgement)
      → (place.topic ≡ q.topic → Produces q.topic request reply) → Accepts j v place b w → Leaves v w request reply
  accepted {v} place b Next produces a = leaves_as a (appended v place b produces)
  accepted place b (Repeat offset) produces a = leaves_all a
  accepted place b OutOfOrder produces a = absurd a
  accepted place b OldEpoch produces a = absurd a

  pub leaves : (v w : View) (request : Request) (reply : Reply) → (Deletes q.topic request reply → ⊥)
      → Step v request reply w → Leaves v w request reply
  leaves v w request (Denied code verdicts) kept step = leaves_all step
  leaves v w request (Refused code reason) kept step = leaves_all step
  leaves v w InitProducerId (Done body) kept step =
      leaves_as step.then_given (no_batch refl (λ _. inr refl) (among_more v.given step.id))
  leaves v w (Produce asked) (Done body) kept step = grind (arith, nat_tests, accepted)
  leaves v w (Fetch asked) (Done body) kept step = leaves_all step.1
  leaves v w (OffsetFetch asked) (Done body) kept step = leaves_all step.1
  leaves v w (OffsetCommit asked) (Done body) kept step = grind (arith, nat_tests, append-nil, among_same, and_parts, bytes_are, places_are, cond-false)
  leaves v w (DeleteGroups asked) (Done body) kept step = grind (arith, nat_tests, among_same, append-nil)
  leaves v w (DeleteTopics asked) (Done body) kept step = grind (arith, nat_tests, among_same, bytes_are, append-nil, cond-false)
  leaves v w _ (Done body) kept step = leaves_all step
