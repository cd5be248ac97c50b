use Rattle.kob_broker.proofs.Words.{Ok}
use Rattle.kob_broker.proofs.Decisions.{made_for_ok}
use Rattle.kob_broker.proofs.broker.Broker.prepare_effect.Goals as goal

pub returns-in-ListOffsets-clause-ok : goal.returns-in-ListOffsets-clause-ok
returns-in-ListOffsets-clause-ok c =
    made_for_ok {E = Unit {0}} c.args.self.now _ c.args.event.now (Ok c.prepare_list_offsets.result)
    c.in-ListOffsets.is c.prepare_list_offsets.ensures

pub returns-in-InitProducerId-clause-ok : goal.returns-in-InitProducerId-clause-ok
returns-in-InitProducerId-clause-ok c =
    made_for_ok {E = Unit {0}} c.args.self.now _ c.args.event.now (Ok c.prepare_init_producer_id.result)
    c.in-InitProducerId.is c.prepare_init_producer_id.ensures

pub returns-in-OffsetFetch-clause-ok : goal.returns-in-OffsetFetch-clause-ok
returns-in-OffsetFetch-clause-ok c =
    made_for_ok {E = Unit {0}} c.args.self.now _ c.args.event.now (Ok c.prepare_offset_fetch.result)
    c.in-OffsetFetch.is c.prepare_offset_fetch.ensures
