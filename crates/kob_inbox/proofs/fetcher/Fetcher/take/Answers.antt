use Rattle.kob_inbox.proofs.Words.{arith, inr, length, refl, state_of, ◌<◌, ◌≡◌}
use Rattle.kob_inbox.proofs.Ticking.{all_passed, cut_short, took}
use Rattle.kob_inbox.proofs.fetcher.Fetcher.take.Goals as goal

pub returns-in-None-clause-done : goal.returns-in-None-clause-done
returns-in-None-clause-done c =
    let rs = c.args.records.now in let passed = c.take_all-passed.result in
    let all : passed.count ≡ length rs = all_passed passed.fault _ c.take_all-passed.ensures.whole c.in-None.is in
    took c.args.self.now.subscription (state_of c.args.self.now c.args.inbox.now) c.args.place.now c.args.position
    passed.count _ _ rs _ _ (omega arith) (omega arith) c.take_all-passed.ensures.taken c.advance.ensures.moved
    c.take_all-passed.ensures.behind c.advance.ensures.turn (_, rs, refl, all, omega arith)

pub returns-in-Some-Memory-clause-done : goal.returns-in-Some-Memory-clause-done
returns-in-Some-Memory-clause-done c =
    let rs = c.args.records.now in let passed = c.take_all-passed.result in
    let cut : passed.count < length rs = cut_short passed.fault _ _ c.take_all-passed.ensures.cut c.in-Some-Memory.is in
    took c.args.self.now.subscription (state_of c.args.self.now c.args.inbox.now) c.args.place.now c.args.position
    passed.count _ _ rs _ _ (omega arith) (omega arith) c.take_all-passed.ensures.taken c.advance.ensures.moved
    c.take_all-passed.ensures.behind c.advance.ensures.turn (inr (_, rs, passed.count, refl, cut))

pub returns-in-Some-Store-clause-done : goal.returns-in-Some-Store-clause-done
returns-in-Some-Store-clause-done c =
    let rs = c.args.records.now in let passed = c.take_all-passed.result in
    let cut : passed.count < length rs = cut_short passed.fault _ _ c.take_all-passed.ensures.cut c.in-Some-Store.is in
    took c.args.self.now.subscription (state_of c.args.self.now c.args.inbox.now) c.args.place.now c.args.position
    passed.count _ _ rs _ _ (omega arith) (omega arith) c.take_all-passed.ensures.taken c.advance.ensures.moved
    c.take_all-passed.ensures.behind c.advance.ensures.turn (_, rs, passed.count, refl, cut)
