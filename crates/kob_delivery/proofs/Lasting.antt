-- A name that the opening bindings reserve stays reserved while no entry opens it.
use Rattle.kob_delivery.proofs.Words.{AllByRecursion, Binding, Body, Bool, Entry, IsReserved, IsReservedFor, List, Reply, Request, Settings, Some, [], arith, cond, false, filter, fold, length, length-append, list_any, list_any-append, nat_tests, refl, slice_get, suc, sym, take, true, zero, ℕ, ◌&&◌, ◌++◌, ◌<◌, ◌==◌, ◌∙◌, ◌∷◌, ◌≡◌, ◌≤◌}
use Rattle.std.proofs.Common.{ap, not, true≢false}
use Rattle.kob_rights.specs.declared.request.Request.TheVariants.{CreateAcls, CreateTopics, DeleteAcls, DeleteGroups, DeleteRecords, DeleteTopics, DescribeAcls, Fetch, InitProducerId, ListGroups, ListOffsets, Metadata, OffsetCommit, OffsetFetch, Produce}
use Rattle.kob_names.specs.declared.kinds.Operation.{Operation}
use Rattle.kob_names.specs.declared.kinds.ResourceKind.{ResourceKind}
use Rattle.kob_rights.specs.declared.reply.Reply.TheVariants.{Denied, Done, Refused}
use Rattle.kob_shared.specs.Journals.{bindings_after}
use Rattle.kob_delivery.specs.Reserved.{LeavesReserved, after_done, after_reply, allows_others, bindings_on, is_on, is_open_to_others, with_created}
use Rattle.kob_delivery.proofs.Lists.{all_at}
use Rattle.kob_delivery.proofs.OnNames.{both_false, closed_if, neither}
use Rattle.kob_delivery.proofs.Following.{on_next, reserved_at}

-- ---- one more entry

module _ (t : Binding → Bool) where
  -- a binding that is put last, or not
  one_more : (bindings : List Binding) (b : Binding) (on known : Bool) → list_any t bindings ≡ false
      → (on && t b) ≡ false → list_any t (cond (on && not known) (bindings ++ b ∷ []) bindings) ≡ false
  one_more bindings b on known none other = grind (arith, nat_tests, list_any-append t bindings (b ∷ []))

  fewer : (p : Binding → Bool) (bindings : List Binding) → list_any t bindings ≡ false
      → list_any t (filter p bindings) ≡ false
  fewer p [] none = refl
  fewer p (x ∷ xs) none = grind (arith, nat_tests, fewer p xs)

not_emptied : (bindings : List Binding) (b : Binding) (on known : Bool) → (length bindings == 0) ≡ false
    → (length (cond (on && not known) (bindings ++ b ∷ []) bindings) == 0) ≡ false
not_emptied bindings b on known some = grind (arith, nat_tests, length-append bindings (b ∷ []))

module _ (principal : List ℕ) (operation : Operation) (resource : ResourceKind) (name : List ℕ) where
  -- the binding is not one on the name that allows others
  abbrev OpensNothing : Binding → Type 0
  OpensNothing b = (is_on resource name b && allows_others principal operation b) ≡ false

  created_opens_nothing : (drafts bindings : List Binding) → list_any (allows_others principal operation) bindings ≡ false
      → AllByRecursion OpensNothing drafts
      → list_any (allows_others principal operation) (fold (with_created resource name) bindings drafts) ≡ false
  created_opens_nothing [] bindings none all = none
  created_opens_nothing (b ∷ bs) bindings none all =
      created_opens_nothing bs (with_created resource name bindings b)
      (one_more (allows_others principal operation) bindings b (is_on resource name b) _ none all.0) all.1

  created_stays : (drafts bindings : List Binding) → (length bindings == 0) ≡ false
      → (length (fold (with_created resource name) bindings drafts) == 0) ≡ false
  created_stays [] bindings some = some
  created_stays (b ∷ bs) bindings some =
      created_stays bs (with_created resource name bindings b)
      (not_emptied bindings b (is_on resource name b) _ some)

  created_closed : (everyone : Bool) (drafts bindings : List Binding)
      → is_open_to_others principal operation everyone bindings ≡ false → AllByRecursion OpensNothing drafts
      → is_open_to_others principal operation everyone (fold (with_created resource name) bindings drafts) ≡ false
  created_closed false drafts bindings closed all =
      both_false _ _ (created_opens_nothing drafts bindings (neither _ _ closed).0 all) refl
  created_closed true drafts bindings closed all =
      both_false _ _ (created_opens_nothing drafts bindings (neither _ _ closed).0 all)
      (created_stays drafts bindings (neither _ _ closed).1)

  deleted_closed : (everyone : Bool) (p : Binding → Bool) (bindings : List Binding)
      → is_open_to_others principal operation everyone bindings ≡ false → everyone ≡ false
      → is_open_to_others principal operation everyone (filter p bindings) ≡ false
  deleted_closed false p bindings closed off =
      both_false _ _ (fewer (allows_others principal operation) p bindings (neither _ _ closed).0) refl
  deleted_closed true p bindings closed off = absurd (true≢false off)

  done_closed : (everyone : Bool) (request : Request) (body : Body) (bindings : List Binding)
      → is_open_to_others principal operation everyone bindings ≡ false
      → LeavesReserved principal operation resource name everyone request (Done body)
      → is_open_to_others principal operation everyone (after_done resource name request bindings) ≡ false
  done_closed everyone (CreateAcls asked) body bindings closed leaves =
      created_closed everyone asked.drafts bindings closed leaves
  done_closed everyone (DeleteAcls asked) body bindings closed leaves =
      deleted_closed everyone _ bindings closed leaves
  done_closed everyone (Produce asked) body bindings closed leaves = closed
  done_closed everyone (Fetch asked) body bindings closed leaves = closed
  done_closed everyone (ListOffsets asked) body bindings closed leaves = closed
  done_closed everyone (Metadata asked) body bindings closed leaves = closed
  done_closed everyone (OffsetCommit asked) body bindings closed leaves = closed
  done_closed everyone (OffsetFetch asked) body bindings closed leaves = closed
  done_closed everyone ListGroups body bindings closed leaves = closed
  done_closed everyone (DeleteGroups asked) body bindings closed leaves = closed
  done_closed everyone (CreateTopics asked) body bindings closed leaves = closed
  done_closed everyone (DeleteTopics asked) body bindings closed leaves = closed
  done_closed everyone (DeleteRecords asked) body bindings closed leaves = closed
  done_closed everyone InitProducerId body bindings closed leaves = closed
  done_closed everyone (DescribeAcls asked) body bindings closed leaves = closed

  reply_closed : (everyone : Bool) (request : Request) (reply : Reply) (bindings : List Binding)
      → is_open_to_others principal operation everyone bindings ≡ false
      → LeavesReserved principal operation resource name everyone request reply
      → is_open_to_others principal operation everyone (after_reply resource name reply request bindings) ≡ false
  reply_closed everyone request (Done body) bindings closed leaves = done_closed everyone request body bindings closed leaves
  reply_closed everyone request (Denied code verdicts) bindings closed leaves = closed
  reply_closed everyone request (Refused code reason) bindings closed leaves = closed

-- ---- over a journal

entry_there : (xs : List Entry) (k : ℕ) → k < length xs → (x : Entry) × (slice_get xs k ≡ Some x)
entry_there [] k below = absurd (omega (arith, below))
entry_there (x ∷ xs) zero below = (x, refl)
entry_there (x ∷ xs) (suc k) below = entry_there xs k (omega (arith, below))

module _ (opening : Settings) (principal : List ℕ) (operation : Operation) (resource : ResourceKind) (name : List ℕ)
    (journal : List Entry)
    (first : IsReservedFor principal operation resource name (bindings_after opening []))
    (leave : AllByRecursion (λ (e : Entry). LeavesReserved principal operation resource name opening.everyone
    e.event.request e.reply) journal) where
  -- the bindings in force on the name at a place
  abbrev on_at : ℕ → List Binding
  on_at k = bindings_on resource name (bindings_after opening (take k journal))

  closed_at : (k : ℕ) → k ≤ length journal
      → is_open_to_others principal operation opening.everyone (on_at k) ≡ false
  closed_at zero within = closed_if principal operation resource name (bindings_after opening []) first
  closed_at (suc k) within =
      let (x, there) = entry_there journal k (omega (arith, within)) in
      let next = on_next opening resource name journal k (suc k) x (on_at k)
      (after_reply resource name x.reply x.event.request (on_at k)) refl there refl refl in
      ap (is_open_to_others principal operation opening.everyone) (sym next)
      ∙ reply_closed principal operation resource name opening.everyone x.event.request x.reply (on_at k)
      (closed_at k (omega (arith, within)))
      (all_at (λ (e : Entry). LeavesReserved principal operation resource name opening.everyone e.event.request e.reply)
      journal k x there leave)

  all_reserved : IsReserved opening journal principal operation resource name
  all_reserved k below =
      reserved_at opening principal operation resource name journal k (on_at k)
      (is_open_to_others principal operation opening.everyone (on_at k)) refl refl
      (closed_at k (omega (arith, below)))

pub stays_reserved : (opening : Settings) (journal : List Entry) (principal : List ℕ) (operation : Operation)
    (resource : ResourceKind) (name : List ℕ)
    → IsReservedFor principal operation resource name (bindings_after opening [])
    → AllByRecursion (λ (e : Entry). LeavesReserved principal operation resource name opening.everyone
    e.event.request e.reply) journal → IsReserved opening journal principal operation resource name
stays_reserved opening journal principal operation resource name first leave =
    all_reserved opening principal operation resource name journal first leave
