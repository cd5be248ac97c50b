use Rattle.kob_outbox.proofs.statements.Words.{database, memory_is_clean, rules}
use Rattle.kob_outbox.proofs.Holding.{committed, failed_commit, undone}
use Rattle.kob_outbox.proofs.writes.write_business.Goals as goal

pub returns-in_err-replace_business : goal.returns-in_err-replace_business
returns-in_err-replace_business c =
    let back = undone c.args.conn.now _ c.requires.service c.transaction-tx.ensures.begun
    c.replace_business.new.tx.conn.now
    c.drop-tx.new.self.0 c.replace_business.ensures.kept c.drop-tx.ensures.survives.limit c.drop-tx.ensures.undone in
    grind (rules, back)

pub returns-in_err-commit : goal.returns-in_err-commit
returns-in_err-commit c =
    let mid = c.replace_business.new.tx.conn.now in
    let back = undone c.args.conn.now _ c.requires.service c.transaction-tx.ensures.begun mid c.commit.new.self.0
    c.replace_business.ensures.kept c.commit.ensures.survives.limit
    (λ clean. failed_commit (database mid) (database c.commit.new.self.0) _
    c.in_ok-replace_business.ensures.changing.begun (c.in_err-commit.ensures.err clean)) in grind (rules, back)

pub returns : goal.returns
returns c =
    let made = committed c.replace_business.new.tx.conn.now c.commit.new.self.0 c.in_ok-replace_business.ensures.changing
    c.commit.ensures.survives.limit (c.in_ok-commit.ensures.ok (memory_is_clean c.commit.new.self.0)).1 in
    grind (rules, made)
