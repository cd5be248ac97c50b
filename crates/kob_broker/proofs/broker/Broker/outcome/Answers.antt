use Rattle.kob_broker.proofs.Words.{written_is_read}
use Rattle.kob_broker.proofs.BatchOutcomes.{outcome_left, outcome_makes, outcome_takes, refusal_none, state_stays, written}
use Rattle.kob_broker.proofs.broker.Broker.outcome.Goals as goal

pub returns-in-Ok-clause-state : goal.returns-in-Ok-clause-state
returns-in-Ok-clause-state c =
    state_stays c.args.self.now c.args.produce.now c.in-Ok.log.now c.outcome_in.new.log c.in-Ok.ensures.log
    c.outcome_in.ensures.kept

pub returns-in-Ok-clause-ok : goal.returns-in-Ok-clause-ok
returns-in-Ok-clause-ok c =
    let produce = c.args.produce.now in let log = c.outcome_in.new.log in
    outcome_makes (written c.args.self.now produce log) produce log
    (written_is_read produce.topic produce.partition log c.in-Ok.log.now c.args.self.now.catalog.logs
    c.in-Ok.ensures.log)
    c.outcome_in.result c.outcome_in.ensures.ok

pub returns-in-Ok-clause-memory : goal.returns-in-Ok-clause-memory
returns-in-Ok-clause-memory c =
    let produce = c.args.produce.now in let log = c.outcome_in.new.log in
    refusal_none (written c.args.self.now produce log) produce log
    (written_is_read produce.topic produce.partition log c.in-Ok.log.now c.args.self.now.catalog.logs
    c.in-Ok.ensures.log) c.args.self.now c.outcome_in.result
    (state_stays c.args.self.now produce c.in-Ok.log.now log c.in-Ok.ensures.log c.outcome_in.ensures.kept)
    c.outcome_in.ensures.memory

pub returns-in-Ok-clause-left : goal.returns-in-Ok-clause-left
returns-in-Ok-clause-left c =
    let produce = c.args.produce.now in let log = c.outcome_in.new.log in
    outcome_left (written c.args.self.now produce log) produce log
    (written_is_read produce.topic produce.partition log c.in-Ok.log.now c.args.self.now.catalog.logs
    c.in-Ok.ensures.log) c.args.self.now c.outcome_in.result
    (state_stays c.args.self.now produce c.in-Ok.log.now log c.in-Ok.ensures.log c.outcome_in.ensures.kept)
    c.outcome_in.ensures.ok

pub returns-in-Ok-clause-taken : goal.returns-in-Ok-clause-taken
returns-in-Ok-clause-taken c =
    let produce = c.args.produce.now in let log = c.outcome_in.new.log in
    outcome_takes (written c.args.self.now produce log) produce log
    (written_is_read produce.topic produce.partition log c.in-Ok.log.now c.args.self.now.catalog.logs
    c.in-Ok.ensures.log) c.args.self.now c.outcome_in.result
    (state_stays c.args.self.now produce c.in-Ok.log.now log c.in-Ok.ensures.log c.outcome_in.ensures.kept)
    c.outcome_in.ensures.ok
