use Rattle.kob_scene_play.proofs.Words.{Call, Consumer, LosesFirst, List, Record, Tick, ap, refl, rules, subst, sym, ◌∙◌, ◌≡◌}
use Rattle.kob_inbox.specs.Contents.{Contents}
use Rattle.kob_scene_text.specs.declared.scene.Taking.{Taking}
use Rattle.kob_scene_text.specs.declared.scene.Taking.TheVariants as takings
use Rattle.kob_scene_play.proofs.Ticking.{consumer_ticked, journaled_below}
use Rattle.kob_scene_play.specs.Steps.{IsCalled}
use Rattle.kob_scene_play.specs.Takings.{inbox_by}
use Rattle.kob_scene_play.proofs.consumer_worker.ConsumerWorker.tick_over.Goals as goal

pub returns-clause-called : goal.returns-clause-called
returns-clause-called c =
    let was = c.self.inside in
    let ticked = c.take_over-tick in
    let opened = c.open-below in
    let below = c.new-line.result.server.line in
    let begun = ap (λ s. s.line) c.new-line.ensures.server in
    let old : Consumer =
    record {
      worker = was.worker;
      principal = was.principal;
      host = was.host;
      start = was.start;
      taking = was.taking;
      fetcher = was.receiver.fetcher;
      own = was.receiver.inbox;
      holding = was.holding;
      inbox = inbox_by was.taking was.receiver.inbox was.every;
    } in
    let new : Consumer =
    record {
      worker = was.worker;
      principal = was.principal;
      host = was.host;
      start = was.start;
      taking = was.taking;
      fetcher = ticked.new.receiver.fetcher;
      own = ticked.new.receiver.inbox;
      holding = was.holding;
      inbox = inbox_by was.taking ticked.new.receiver.inbox was.every;
    } in
    let calls = ticked.new.line.calls.made.items in
    let after = ticked.new.line.server.line.server.recorded.now in
    let lost = subst (λ all. LosesFirst c.args.loss all) c.deref.ensures.value (c.loses_first-is_lost.ensures c.in_ok-told.ensures.lost) in
    let journaled =
    journaled_below was.worker below.server.worker was.principal below.server.principal was.host below.server.host
    c.new-line.result.calls.made.items calls below.calls.made.items ticked.new.line.server.line.calls.made.items
    c.args.recorded.now below.server.recorded.now after (ap (λ l. l.server.worker) begun ∙ opened.ensures.worker)
    (ap (λ l. l.server.principal) begun ∙ opened.ensures.asker.0 ∙ c.in_ok-principal.ensures)
    (ap (λ l. l.server.host) begun ∙ opened.ensures.asker.1 ∙ c.in_ok-host.ensures)
    (ap (λ l. l.server.recorded.now) begun ∙ opened.ensures.recorded) c.new-line.ensures.made
    (ap (λ l. l.calls.made.items) begun ∙ opened.ensures.made) ticked.ensures.passed ticked.ensures.journaled in
    let done =
    consumer_ticked c.args.loss old new ticked.result c.new-line.result.calls.made.items calls
    c.new-line.result.calls.unmade
    ticked.new.line.calls.unmade c.args.recorded.now after lost
    (record { worker = refl; principal = refl; host = refl; start = refl; taking = refl; subscription = ticked.ensures.same }) refl
    c.new-line.ensures.made c.new-line.ensures.unmade journaled ticked.ensures.done in
    let ends : after ≡ c.recorded-1.given.0 = search rules in
    let told = c.in_ok-told.told in
    let is = c.in_ok-told.ensures.same in
    subst (λ (r : Record). IsCalled c.args.loss c.args.self.now new c.args.recorded.now r told.1.items told.0) ends
    (subst (λ (from : Consumer). IsCalled c.args.loss from new c.args.recorded.now after told.1.items told.0) c.self.view_is
    (subst (λ (all : List Call). IsCalled c.args.loss old new c.args.recorded.now after all told.0) (sym (ap (λ t. t.1.items) is ∙ c.close-below.ensures.calls))
    (subst (λ (tick : Tick). IsCalled c.args.loss old new c.args.recorded.now after calls tick) (sym (ap (λ t. t.0) is)) done)))

-- what is noted of each record stays, whatever the inbox of the consumer itself becomes
inbox_again : (taking : Taking) (was now every : Contents)
    → inbox_by taking now every ≡ inbox_by taking now (inbox_by taking was every)
inbox_again takings.Proved was now every = refl
inbox_again takings.CommitsBefore was now every = refl
inbox_again takings.NoDedup was now every = refl

pub returns-in_err-told-clause-inbox : goal.returns-in_err-told-clause-inbox
returns-in_err-told-clause-inbox c =
    let was = c.self.inside in
    let now = c.take_over-tick.new.receiver.inbox in
    subst (λ (from : Consumer). inbox_by was.taking now was.every ≡ inbox_by from.taking now from.inbox) c.self.view_is
    (inbox_again was.taking was.receiver.inbox now was.every)
