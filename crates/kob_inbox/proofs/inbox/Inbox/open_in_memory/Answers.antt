use Rattle.kob_inbox.proofs.Words.{Ok, ap, creates, database, length, opened, refl, sym}
use Rattle.kob_inbox.proofs.Reading.{opens}
use Rattle.kob_inbox.proofs.Texts.{create_inbox}
use Rattle.kob_inbox.proofs.inbox.Inbox.open_in_memory.Goals as goal

pub invariant_of-result : goal.invariant_of-result
invariant_of-result c =
    let blank = opened _ c.open_in_memory.result (Ok c.in_ok-conn.conn) c.in_ok-conn.conn refl
    c.open_in_memory.ensures.empty c.open_in_memory.ensures.fresh c.in_ok-conn.ensures.cases
    c.in_ok-conn.ensures.variant in
    let made = opens (database c.execute.new.self) (Ok c.in_ok-execute.field-0)
    (creates create_inbox c.in_ok-conn.conn c.execute.new.self (Ok c.in_ok-execute.field-0) blank
    c.execute.ensures.survives.limit c.in_ok-execute.ensures.runs) in
    record { inbox = made.0; last_is = sym (ap length made.1) }

pub returns : goal.returns
returns c =
    let blank = opened _ c.open_in_memory.result (Ok c.in_ok-conn.conn) c.in_ok-conn.conn refl
    c.open_in_memory.ensures.empty c.open_in_memory.ensures.fresh c.in_ok-conn.ensures.cases
    c.in_ok-conn.ensures.variant in
    (opens (database c.execute.new.self) (Ok c.in_ok-execute.field-0)
    (creates create_inbox c.in_ok-conn.conn c.execute.new.self (Ok c.in_ok-execute.field-0) blank
    c.execute.ensures.survives.limit c.in_ok-execute.ensures.runs)).1
