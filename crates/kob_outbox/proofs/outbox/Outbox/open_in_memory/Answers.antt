use Rattle.kob_outbox.proofs.statements.Words.{Ok, refl}
use Rattle.kob_outbox.proofs.Texts.{create_business, create_mark, create_outbox, create_spent}
use Rattle.kob_outbox.proofs.statements.Steps.{creates, opened}
use Rattle.kob_outbox.proofs.outbox.Outbox.open_in_memory.Goals as goal

pub insert_mark-requires : goal.insert_mark-requires
insert_mark-requires c =
    let blank = opened _ c.open_in_memory.result (Ok c.in_ok-conn.conn) c.in_ok-conn.conn refl
    c.open_in_memory.ensures.empty c.open_in_memory.ensures.fresh c.in_ok-conn.ensures.cases
    c.in_ok-conn.ensures.variant in
    let one = creates create_business c.in_ok-conn.conn c.execute.new.self (Ok c.in_ok-execute.field-0) blank
    c.execute.ensures.survives.limit c.in_ok-execute.ensures.runs in
    let two = creates create_spent c.execute.new.self c.execute-2.new.self (Ok c.in_ok-execute-2.field-0) one
    c.execute-2.ensures.survives.limit c.in_ok-execute-2.ensures.runs in
    let three = creates create_mark c.execute-2.new.self c.execute-3.new.self (Ok c.in_ok-execute-3.field-0) two
    c.execute-3.ensures.survives.limit c.in_ok-execute-3.ensures.runs in
    creates create_outbox c.execute-3.new.self c.execute-4.new.self (Ok c.in_ok-execute-4.field-0) three
    c.execute-4.ensures.survives.limit c.in_ok-execute-4.ensures.runs
