use Rattle.kob_inbox.proofs.Words.{due}
use Rattle.kob_inbox.proofs.Ticking.{is_due, ticks_heard, ticks_lost, ticks_rejected}
use Rattle.kob_inbox.proofs.fetcher.Fetcher.tick.Goals as goal

pub returns-in_default-send-clause-done : goal.returns-in_default-send-clause-done
returns-in_default-send-clause-done g c =
    ticks_lost c.reserve.ensures.items
    (is_due c.in-Ok.place c.standing_of-stood.result c.in-Ok-due.request c.as_slice.ensures c.in-Some.ensures
    c.in-Ok.ensures c.deref.ensures.value c.standing_of-stood.ensures c.in-Ok-due.ensures)
    c.in_default-send.ensures.added

pub returns-in-Done-clause-done : goal.returns-in-Done-clause-done
returns-in-Done-clause-done g c =
    ticks_heard c.reserve.ensures.items
    (is_due c.in-Ok.place c.standing_of-stood.result c.in-Ok-due.request c.as_slice.ensures c.in-Some.ensures
    c.in-Ok.ensures c.deref.ensures.value c.standing_of-stood.ensures c.in-Ok-due.ensures)
    (due c.args.self.now.subscription c.in-Ok.place c.standing_of-stood.result) c.in-Done.body
    c.in-Ok-due.ensures c.in-Done.is c.in-Delivered.ensures.added c.hear.ensures.done

pub returns-in_default-reply-clause-done : goal.returns-in_default-reply-clause-done
returns-in_default-reply-clause-done g c =
    ticks_rejected c.reserve.ensures.items
    (is_due c.in-Ok.place c.standing_of-stood.result c.in-Ok-due.request c.as_slice.ensures c.in-Some.ensures
    c.in-Ok.ensures c.deref.ensures.value c.standing_of-stood.ensures c.in-Ok-due.ensures)
    c.in-Delivered.reply c.in_default-reply.not-Done c.in-Delivered.ensures.added
