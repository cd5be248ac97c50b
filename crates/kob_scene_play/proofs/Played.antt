-- The steps of a scene, one after another.
use Rattle.kob_scene_play.proofs.Words.{Appends, Appends-trans, ArePlayed, Consumer, ConsumerStep, EndsAs, EndsScene, EndsSteps, Entry, Err, IsAnswered, IsChecked, IsConsumerChange, IsConsumerStep, IsRead, IsReady, IsServed, IsServiceChange, IsServiceStep, IsShown, IsStep, Leaves, List, None, Ok, OnOk, Option, OthersStay, PlayFault, PlayedConsumer, PlayedService, Record, Result, Scene, Service, ServiceStep, Show, Shown, Some, Stage, Step, StopsIn, Tells, Writes, WritesSteps, [], ap, append-nil, append_assoc, arith, inl, inr, length, one_more, refl, set, show_of, slice_get, stopped_shown, subst, suc, sym, ℕ, ◌++◌, ◌+◌, ◌∙◌, ◌∷◌, ◌≡◌}
use Rattle.kob_scene_play.proofs.Places.{put_at}
use Rattle.kob_scene_play.specs.Expectations.{IsExpected}
use Rattle.kob_scene_play.specs.Scenes.{EndsWhole}
use Rattle.kob_scene_play.specs.Stops.{MayNotOpen, MayStop}
use Rattle.kob_scene_play.specs.declared.stage.Unmet.{Unmet}
use Rattle.kob_scene_play.specs.declared.playing.Played.TheVariants as played
use Rattle.kob_scene_play.specs.declared.text.Ended.TheVariants as ended
use Rattle.kob_scene_text.specs.declared.scene.Expected.{Expected}
use Rattle.kob_scene_text.specs.declared.scene.ConsumerStep.TheVariants as consumer_steps
use Rattle.kob_scene_text.specs.declared.scene.ServiceStep.TheVariants as service_steps
use Rattle.kob_scene_text.specs.declared.scene.Step.TheVariants as steps

-- one step more behind others
played_behind : (show : Show) (place : ℕ) (before : List Step) (step : Step) (old mid new : Stage)
    (told mid_told then_told : ℕ) (front back : List ℕ) → ArePlayed show place before old mid told mid_told front
    → IsShown show (place + length before) step mid new mid_told then_told back
    → ArePlayed show place (before ++ step ∷ []) old new told then_told (front ++ back)
played_behind show place [] step old mid new told mid_told then_told front back (same, none, empty) is =
    let here : place + 0 ≡ place = omega arith in (
      new,
      then_told,
      back,
      [],
      subst (λ n. IsShown show n step old new told then_told back) here
          (subst (λ (from : Stage). IsShown show (place + 0) step from new told then_told back) same
          (subst (λ n. IsShown show (place + 0) step mid new n then_told back) none is)),
      (refl, refl, refl),
      ap (λ xs. xs ++ back) empty ∙ sym (append-nil back),
    )
played_behind show place (first ∷ before) step old mid new told mid_told then_told front back
    (between, between_told, text, rest, is, are, joined) last =
    let there : place + suc (length before) ≡ (place + 1) + length before = omega arith in (
      between,
      between_told,
      text,
      rest ++ back,
      is,
      played_behind show (place + 1) before step between mid new between_told mid_told then_told rest back are
          (subst (λ n. IsShown show n step mid new mid_told then_told back) there last),
      ap (λ xs. xs ++ back) joined ∙ append_assoc text rest back,
    )

-- one text, another behind it, and a piece is written
written_both : (a b c : Option (List ℕ)) (held mid then_mid then_held one two : List ℕ)
    → Writes a held b mid one → then_mid ≡ mid ++ two → Writes b then_mid c then_held []
    → Writes a held c then_held (one ++ two)
written_both a b c held mid then_mid then_held one two (front, is_front, appended) more (back, is_back, then_appended) = (
  front ++ back,
  sym (append_assoc held one two) ∙ ap (λ xs. xs ++ two) is_front ∙ append_assoc front mid two
      ∙ ap (λ xs. front ++ xs) (sym more ∙ sym (append-nil then_mid) ∙ is_back)
      ∙ sym (append_assoc front back then_held),
  Appends-trans a b c front back appended then_appended,
)

-- one step more
pub one_step_more : (show : Show) (place : ℕ) (before : List Step) (step : Step) (old mid new : Stage)
    (told mid_told then_told : ℕ) (first second third : Option (List ℕ)) (held mid_held then_mid_held then_held : List ℕ)
    → length before ≡ place
    → WritesSteps show before old mid told mid_told first held second mid_held
    → Tells (IsShown show place step mid new mid_told then_told) mid_held then_mid_held
    → Writes second then_mid_held third then_held []
    → WritesSteps show (before ++ step ∷ []) old new told then_told first held third then_held
one_step_more show place before step old mid new told mid_told then_told first second third held mid_held then_mid_held
    then_held here (front, are, written) (back, is, more) then_written =
    let behind : place ≡ 0 + length before = omega (arith, here) in (
      front ++ back,
      played_behind show 0 before step old mid new told mid_told then_told front back are
          (subst (λ n. IsShown show n step mid new mid_told then_told back) behind is),
      written_both first second third held mid_held then_mid_held then_held front back written more then_written,
    )

-- a step that stopped
pub one_step_stops : (show : Show) (all before later : List Step) (step : Step) (old mid new : Stage)
    (told mid_told then_told : ℕ) (first second : Option (List ℕ)) (held mid_held then_held : List ℕ) (fault : PlayFault)
    (place : ℕ) → all ≡ before ++ step ∷ later → place ≡ length before
    → WritesSteps show before old mid told mid_told first held second mid_held
    → MayStop step mid fault
    → Tells (Leaves show place step mid new.recorded.journal mid_told then_told) mid_held then_held
    → EndsSteps show all old new told then_told first held second then_held (Some fault)
one_step_stops show all before later step old mid new told mid_told then_told first second held mid_held then_held fault
    place split at (front, are, (ahead, is_front, appended)) may (back, leaves, more) = (
      front ++ back,
      (
        before,
        later,
        step,
        mid,
        mid_told,
        new.recorded.journal,
        front,
        back,
        split,
        are,
        may,
        subst (λ n. Leaves show n step mid new.recorded.journal mid_told then_told back) at leaves,
        refl,
      ),
      (
        ahead,
        sym (append_assoc held front back) ∙ ap (λ xs. xs ++ back) is_front ∙ append_assoc ahead mid_held back
            ∙ ap (λ xs. ahead ++ xs) (sym more),
        appended,
      ),
    )

-- the answers to a step are shown behind what was held
pub step_shown : (show : Show) (place before : ℕ) (step : Step) (old new : Stage) (journal : List Entry)
    (told begun then_told shown_told : ℕ) (begin answers held then_held : List ℕ) → begun ≡ told → begin ≡ []
    → before ≡ length old.recorded.journal → journal ≡ new.recorded.journal
    → Tells (IsStep step (show.line place) old new begun then_told) begin answers → shown_told ≡ then_told
    → then_held ≡ held ++ show.text place before journal answers
    → Tells (IsShown show place step old new told shown_told) held then_held
step_shown show place before step old new journal told begun then_told shown_told begin answers held then_held counted empty
    entries now (text, is, printed) same added =
    let whole : text ≡ answers = sym (printed ∙ ap (λ xs. xs ++ text) empty) in
    let first = subst (λ n. IsStep step (show.line place) old new n then_told text) counted is in
    let last = subst (λ n. IsStep step (show.line place) old new told n text) (sym same) first in (
      show.text place (length old.recorded.journal) new.recorded.journal answers,
      (answers, subst (λ xs. IsStep step (show.line place) old new told shown_told xs) whole last, refl),
      added ∙ ap (λ n. held ++ show.text place n journal answers) entries
          ∙ ap (λ entries. held ++ show.text place (length old.recorded.journal) entries answers) now,
    )

-- a scene whose stage was not opened
pub scene_unopened : (shown : Shown) (scene : Scene) (told : ℕ) (first : Option (List ℕ)) (held : List ℕ)
    (fault : PlayFault) → MayNotOpen scene.settings fault → told ≡ 0 → held ≡ [] → Appends first first []
    → EndsScene shown scene told first first held (played.Stopped fault)
scene_unopened shown scene told first held fault may none empty nothing =
    ([], inl (may, none, refl), ([], sym empty, nothing))

-- the steps of a scene
pub scene_whole : (shown : Shown) (scene : Scene)
    (opened closed : Stage) (told then_told : ℕ) (first second : Option (List ℕ)) (held then_held : List ℕ)
    → told ≡ 0 → held ≡ [] → IsReady scene opened
    → EndsSteps (show_of shown scene) scene.steps.items opened closed told then_told first held second then_held None
    → EndsScene shown scene then_told first second then_held (played.Whole closed.unmet)
scene_whole shown scene opened closed told then_told first second held then_held none empty ready
    (text, are, written) = (
      text,
      (
        opened,
        closed,
        then_told,
        ready,
        subst (λ n. ArePlayed (show_of shown scene) 0 scene.steps.items opened closed n then_told text) none are,
        refl,
      ),
      subst (λ xs. Writes first xs second then_held text) empty written,
    )

-- up to one that stopped
pub scene_cut : (shown : Shown) (scene : Scene)
    (opened closed : Stage) (told then_told : ℕ) (first second : Option (List ℕ)) (held then_held : List ℕ)
    (fault : PlayFault) → told ≡ 0 → held ≡ [] → IsReady scene opened
    → EndsSteps (show_of shown scene) scene.steps.items opened closed told then_told first held second then_held (Some fault)
    → EndsScene shown scene then_told first second then_held (played.Stopped fault)
scene_cut shown scene opened closed told then_told first second held then_held fault none empty ready
    (text, stops, written) = (
      text,
      inr (
        opened,
        ready,
        subst (λ n. StopsIn (show_of shown scene) scene.steps.items opened fault n then_told text) none stops,
      ),
      subst (λ xs. Writes first xs second then_held text) empty written,
    )

-- what was held is written at the end
pub scene_written : (shown : Shown) (scene : Scene) (unmet : Unmet) (told : ℕ)
    (first second third : Option (List ℕ)) (held : List ℕ)
    → EndsScene shown scene told first second held (played.Whole unmet) → Appends second third held
    → EndsWhole shown scene first third unmet
scene_written shown scene unmet told first second third held (text, is, (front, split, appended)) rest =
    (text, is, subst (λ xs. Appends first third xs) (sym split) (Appends-trans first second third front held appended rest))

-- and after it that the scene stopped
pub scene_stopped : (shown : Shown) (scene : Scene) (told : ℕ)
    (first second third : Option (List ℕ)) (held : List ℕ) (fault : PlayFault)
    → EndsScene shown scene told first second held (played.Stopped fault)
    → Appends second third (held ++ stopped_shown shown told) → EndsAs shown scene first third (ended.Stopped fault)
scene_stopped shown scene told first second third held fault (text, is, (front, split, appended)) rest =
    let last = stopped_shown shown told in (
      told,
      text,
      is,
      subst (λ xs. Appends first third xs) (sym (append_assoc front held last) ∙ ap (λ xs. xs ++ last) (sym split))
          (Appends-trans first second third front (held ++ last) appended rest),
    )

-- a step of a service
pub service_played : {E : Type 0} (result : Result (Unit {0}) E) (line which : ℕ) (step : ServiceStep) (old new : Stage)
    (told then_told : ℕ) (held then_held : List ℕ) → new.consumers ≡ old.consumers → new.unmet ≡ old.unmet
    → OthersStay which old.services.items new.services.items
    → OnOk result (Tells (IsServed which step old.services.items new.services.items old.recorded new.recorded told
    then_told) held then_held)
    → OnOk result (Tells (IsStep (steps.Service which step) line old new told then_told) held then_held)
service_played (Ok done) line which step old new told then_told held then_held consumers unmet others (text, made, prints) =
    (text, (consumers, unmet, others, made), prints)
service_played (Err fault) line which step old new told then_told held then_held consumers unmet others made = tt

-- a step of a consumer
pub consumer_played : {E : Type 0} (result : Result (Unit {0}) E) (line which : ℕ) (step : ConsumerStep) (old new : Stage)
    (told then_told : ℕ) (held then_held : List ℕ) → new.services ≡ old.services → new.unmet ≡ old.unmet
    → OthersStay which old.consumers.items new.consumers.items
    → OnOk result (Tells (IsRead which step old.consumers.items new.consumers.items old.recorded new.recorded told
    then_told) held then_held)
    → OnOk result (Tells (IsStep (steps.Consumer which step) line old new told then_told) held then_held)
consumer_played (Ok done) line which step old new told then_told held then_held services unmet others (text, made, prints) =
    (text, (services, unmet, others, made), prints)
consumer_played (Err fault) line which step old new told then_told held then_held services unmet others made = tt

-- a question about the laws
pub law_played : {E : Type 0} (result : Result (Unit {0}) E) (line service consumer : ℕ) (old new : Stage) (told then_told : ℕ)
    (held then_held : List ℕ) → new.recorded ≡ old.recorded → new.services ≡ old.services
    → new.consumers.items ≡ old.consumers.items → new.unmet ≡ old.unmet → OnOk result (then_told ≡ one_more told)
    → OnOk result (Tells (IsAnswered service consumer old told) held then_held)
    → OnOk result (Tells (IsStep (steps.Law service consumer) line old new told then_told) held then_held)
law_played (Ok done) line service consumer old new told then_told held then_held recorded services consumers unmet counted (text, answered, prints) =
    (text, (recorded, services, consumers, unmet, counted, answered), prints)
law_played (Err fault) line service consumer old new told then_told held then_held recorded services consumers unmet counted answered = tt

-- a question about where the events are
pub check_played : {E : Type 0} (result : Result (Unit {0}) E) (line service consumer : ℕ) (old new : Stage) (told then_told : ℕ)
    (held then_held : List ℕ) → new.recorded ≡ old.recorded → new.services.items ≡ old.services.items
    → new.consumers.items ≡ old.consumers.items → new.unmet ≡ old.unmet → OnOk result (then_told ≡ one_more told)
    → OnOk result (Tells (IsChecked service consumer old told) held then_held)
    → OnOk result (Tells (IsStep (steps.Check service consumer) line old new told then_told) held then_held)
check_played (Ok done) line service consumer old new told then_told held then_held recorded services consumers unmet counted (text, checked, prints) =
    (text, (recorded, services, consumers, unmet, counted, checked), prints)
check_played (Err fault) line service consumer old new told then_told held then_held recorded services consumers unmet counted checked = tt

-- a question whether they are where they are expected to be
pub expect_played : {E : Type 0} (result : Result (Unit {0}) E) (line service consumer : ℕ) (what : Expected) (old new : Stage)
    (told then_told : ℕ) (held then_held : List ℕ) → new.recorded ≡ old.recorded → new.services.items ≡ old.services.items
    → new.consumers.items ≡ old.consumers.items → OnOk result (then_told ≡ one_more told)
    → OnOk result (Tells (IsExpected service consumer what line old new.unmet told) held then_held)
    → OnOk result (Tells (IsStep (steps.Expect service consumer what) line old new told then_told) held then_held)
expect_played (Ok done) line service consumer what old new told then_told held then_held recorded services consumers counted (text, expected, prints) =
    (text, (recorded, services, consumers, counted, expected), prints)
expect_played (Err fault) line service consumer what old new told then_told held then_held recorded services consumers counted expected = tt

-- the service at a place made its step
pub served_at : {E : Type 0} (result : Result (Unit {0}) E) (which : ℕ) (step : ServiceStep) (old : List PlayedService)
    (was is : PlayedService) (before after : Record) (told then_told : ℕ) (held then_held : List ℕ)
    → slice_get old which ≡ Some was → is.name ≡ was.name
    → OnOk result (Tells (IsServiceStep step was.service is.service before after told then_told) held then_held)
    → OnOk result (Tells (IsServed which step old (set old which is) before after told then_told) held then_held)
served_at (Ok done) which step old was is before after told then_told held then_held stood name (text, made, prints) =
    (text, (was, is, stood, put_at old which was is stood, name, made), prints)
served_at (Err fault) which step old was is before after told then_told held then_held stood name made = tt

-- the consumer at a place made its step
pub read_at : {E : Type 0} (result : Result (Unit {0}) E) (which : ℕ) (step : ConsumerStep) (old : List PlayedConsumer)
    (was is : PlayedConsumer) (before after : Record) (told then_told : ℕ) (held then_held : List ℕ)
    → slice_get old which ≡ Some was → is.name ≡ was.name
    → OnOk result (Tells (IsConsumerStep step was.consumer is.consumer before after told then_told) held then_held)
    → OnOk result (Tells (IsRead which step old (set old which is) before after told then_told) held then_held)
read_at (Ok done) which step old was is before after told then_told held then_held stood name (text, made, prints) =
    (text, (was, is, stood, put_at old which was is stood, name, made), prints)
read_at (Err fault) which step old was is before after told then_told held then_held stood name made = tt

-- a step of a service that makes no tick, where the journal stays
pub service_changed : {E : Type 0} (result : Result (Unit {0}) E) (step : ServiceStep) (old new : Service)
    (r : Record) (told then_told : ℕ) (held then_held : List ℕ)
    → OnOk result (Tells (IsServiceChange step old new told then_told) held then_held)
    → OnOk result (Tells (IsServiceStep step old new r r told then_told) held then_held)
service_changed (Ok done) (service_steps.Record change event recording) old new r told then_told held then_held (text, is, prints) =
    (text, (refl, is), prints)
service_changed (Ok done) (service_steps.Tick lost) old new r told then_told held then_held (text, is, prints) = absurd is
service_changed (Ok done) service_steps.Run old new r told then_told held then_held (text, is, prints) = absurd is
service_changed (Ok done) service_steps.Restart old new r told then_told held then_held (text, is, prints) =
    (text, (refl, is), prints)
service_changed (Ok done) service_steps.Sweep old new r told then_told held then_held (text, is, prints) =
    (text, (refl, is), prints)
service_changed (Ok done) service_steps.Outbox old new r told then_told held then_held (text, is, prints) =
    (text, (refl, is), prints)
service_changed (Ok done) (service_steps.Business kind key) old new r told then_told held then_held (text, is, prints) =
    (text, (refl, is), prints)
service_changed (Ok done) service_steps.Visible old new r told then_told held then_held (text, is, prints) =
    (text, (refl, is), prints)
service_changed (Err fault) step old new r told then_told held then_held made = tt

-- and one of a consumer
pub consumer_changed : {E : Type 0} (result : Result (Unit {0}) E) (step : ConsumerStep) (old new : Consumer)
    (r : Record) (told then_told : ℕ) (held then_held : List ℕ)
    → OnOk result (Tells (IsConsumerChange step old new told then_told) held then_held)
    → OnOk result (Tells (IsConsumerStep step old new r r told then_told) held then_held)
consumer_changed (Ok done) (consumer_steps.Tick lost) old new r told then_told held then_held (text, is, prints) = absurd is
consumer_changed (Ok done) consumer_steps.Run old new r told then_told held then_held (text, is, prints) = absurd is
consumer_changed (Ok done) consumer_steps.Restart old new r told then_told held then_held (text, is, prints) =
    (text, (refl, is), prints)
consumer_changed (Ok done) consumer_steps.Inbox old new r told then_told held then_held (text, is, prints) =
    (text, (refl, is), prints)
consumer_changed (Err fault) step old new r told then_told held then_held made = tt
