use Rattle.kob_endpoints.proofs.Words.{ArePrivate, AreServed, Fetcher, ap, refl, rules, served_to, subst, ◌∙◌}
use Rattle.kob_endpoints.proofs.InTurn.{are_a_history}
use Rattle.kob_endpoints.proofs.Reachings.{delivered, private_in_it, served_in_it}
use Rattle.kob_delivery.specs.View.{IsBreach}
use Rattle.kob_delivery.specs.InTurn.{entries_of}
use Rattle.std.specs.Prelude.{MatchOption}
use Rattle.kob_endpoints.proofs.reaching.reaches_in_turn.Goals as goal

pub returns-in-None-clause-premises : goal.returns-in-None-clause-premises
returns-in-None-clause-premises c =
    let s = c.args.sent.now in
    let t = c.args.taken.now in
    let sender = c.part-sender.result.now in
    let taker = c.part-taker.result.now in
    let one = c.part-sender.ensures in
    let two = c.part-taker.ensures in
    let all = entries_of c.args.journals.now in
    let own = c.subscription-subscription.result.now in
    let subscribed = c.subscription-subscription.ensures ∙ ap (λ (f : Fetcher). f.subscription) c.consumer.ensures in
    let first : AreServed sender.calls.items (served_to sender.worker all) = search rules in
    let second : AreServed taker.calls.items (served_to taker.worker all) = search rules in
    record {
      sent = served_in_it sender.calls.items s.calls sender.worker s.worker all all one.calls one.worker refl
          first;
      taken = served_in_it taker.calls.items t.calls taker.worker t.worker all all two.calls two.worker refl
          second;
      private = private_in_it sender.worker s.worker taker.worker t.worker own t.fetcher.subscription
          c.as_slice-places.result.now all all one.worker two.worker subscribed c.as_slice-places.ensures
          refl
          (subst (λ o. MatchOption o (ArePrivate sender.worker taker.worker own.group c.as_slice-places.result.now all)
          (IsBreach sender.worker taker.worker own.group c.as_slice-places.result.now all)) c.in-None.is
          c.in_ok-found.ensures);
    }

pub returns-in-None-clause-history : goal.returns-in-None-clause-history
returns-in-None-clause-history c view history =
    delivered (entries_of c.args.journals.now) view c.args.sent.now c.args.taken.now history (returns-in-None-clause-premises c)
    c.part-sender.ensures.run c.part-taker.ensures.run

pub returns-in-None-clause-in_turn : goal.returns-in-None-clause-in_turn
returns-in-None-clause-in_turn c opening now in_turn =
    returns-in-None-clause-history c _ (are_a_history opening c.args.journals.now now in_turn)
