-- A consumer, and the inbox into which it takes records.
use Rattle.kob_inbox.specs.Contents.{Contents}
use Rattle.kob_inbox.specs.Run.{State}
use Rattle.kob_inbox.specs.Tick.{state_of}
use Rattle.kob_inbox.specs.declared.fetcher.Fetcher.{Fetcher}

-- a consumer with its inbox
pub record Received : Type 0 where
  pub fetcher : Fetcher
  pub inbox : Contents

-- both, as a run has them
abbrev pub received_state : Received → State
received_state r = state_of r.fetcher r.inbox
