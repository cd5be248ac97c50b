-- The stage as a scene opens it: its broker, and its workers as they are declared. How its journal is
-- printed.
use Rattle.std.specs.List.{find, enumerate_from}
use Rattle.std.specs.Prelude.{◌≡◌, ◌==◌, ℕ, List, [], Option, None, Some, codes, ◌++◌, flat_map, length}
use Rattle.kob_broker.specs.State.{settings_of}
use Rattle.kob_inbox.specs.Contents.{Contents as InboxContents}
use Rattle.kob_inbox.specs.declared.fetcher.Subscription.{Subscription}
use Rattle.kob_names.specs.declared.settings.Settings.{Settings}
use Rattle.kob_outbox.specs.Contents.{empty}
use Rattle.kob_scene_play.specs.Steps.{Service, consumer_state}
use Rattle.kob_scene_play.specs.declared.holding.Holding.{Holding}
use Rattle.kob_scene_play.specs.declared.holding.Holding.TheVariants.{Nothing}
use Rattle.kob_scene_play.specs.declared.stage.PlayedConsumer.{PlayedConsumer}
use Rattle.kob_scene_play.specs.declared.stage.PlayedService.{PlayedService}
use Rattle.kob_scene_play.specs.declared.stage.Stage.{Stage}
use Rattle.kob_scene_text.specs.declared.scene.Consumer.{Consumer as DeclaredConsumer}
use Rattle.kob_scene_text.specs.declared.scene.Service.{Service as DeclaredService}
use Rattle.kob_scene_text.specs.declared.scene.Start.{Start}
use Rattle.kob_scene_text.specs.declared.scene.Taking.{Taking}
use Rattle.kob_shared.specs.Journals.{opened_by}
use Rattle.std.specs.Fmt.{decimal}
use Rattle.kob_scene_text.specs.PrintedRequest.{entry_text}
use Rattle.kob_shared.specs.declared.journal.Entry.{Entry}
use Rattle.kob_inbox.specs.Run as consuming

-- the broker is as these settings open it, and its journal is empty
pub record IsOpened (settings : Settings) (stage : Stage) : Type 0 where
  pub broker : stage.recorded.broker ≡ opened_by settings
  pub opening : stage.recorded.opening ≡ settings_of (opened_by settings)
  pub journal : stage.recorded.journal ≡ []
  pub limit : stage.recorded.limit ≡ 1000000

-- a service by its name, with an empty outbox and a router that has made no call
pub record NamedService : Type 0 where
  pub name : List ℕ
  pub service : Service

abbrev pub declared_service : DeclaredService → NamedService
declared_service declared = record {
  name = declared.name;
  service =
      record {
        worker = declared.worker;
        principal = declared.principal;
        host = declared.host;
        sending = declared.sending;
        sender = record { target = declared.routed; producer = None; sequences = []; hand = None };
        outbox = empty;
        recorded = [];
        unwritten = [];
        hidden = [];
      };
}

abbrev pub named_service : PlayedService → NamedService
named_service played = record { name = played.name; service = played.service }

-- a consumer by its name, who it is, where it begins, how it takes in, what it reads, how far it has
-- come, what it holds, and what it has taken in
pub record NamedConsumer : Type 0 where
  pub name : List ℕ
  pub worker : ℕ
  pub principal : List ℕ
  pub host : List ℕ
  pub start : Start
  pub taking : Taking
  pub subscription : Subscription
  pub state : consuming.State
  pub holding : Holding
  pub inbox : InboxContents

-- one that knows no position and holds nothing, with an empty inbox
abbrev pub declared_consumer : DeclaredConsumer → NamedConsumer
declared_consumer declared = record {
  name = declared.name;
  worker = declared.worker;
  principal = declared.principal;
  host = declared.host;
  start = declared.start;
  taking = declared.taking;
  subscription = declared.subscription;
  state = consuming.start;
  holding = Nothing;
  inbox = [];
}

abbrev pub named_consumer : PlayedConsumer → NamedConsumer
named_consumer played = record {
  name = played.name;
  worker = played.consumer.worker;
  principal = played.consumer.principal;
  host = played.consumer.host;
  start = played.consumer.start;
  taking = played.consumer.taking;
  subscription = played.consumer.fetcher.subscription;
  state = consumer_state played.consumer;
  holding = played.consumer.holding;
  inbox = played.consumer.inbox;
}

-- the first service with this number
abbrev pub service_numbered : ℕ → List PlayedService → Option PlayedService
service_numbered worker services = find (λ played. played.service.worker == worker) services

-- the first consumer with this number
abbrev pub consumer_numbered : ℕ → List PlayedConsumer → Option PlayedConsumer
consumer_numbered worker consumers = find (λ played. played.consumer.worker == worker) consumers

-- the service's name, or else the consumer's; `-` where there is neither
abbrev pub name_by : Option PlayedService → Option PlayedConsumer → List ℕ
name_by (Some played) consumer = played.name
name_by None (Some played) = played.name
name_by None None = codes "-"

-- the name of a worker of the stage by its number
abbrev pub worker_name : Stage → ℕ → List ℕ
worker_name stage worker =
    name_by (service_numbered worker stage.services.items)
    (consumer_numbered worker stage.consumers.items)

-- How the journal is printed.

-- the line of the entry at a place, with the name of its worker
abbrev pub line_of : Stage → ℕ × Entry → List ℕ
line_of stage placed =
    entry_text placed.0 (worker_name stage placed.1.worker) placed.1.event placed.1.reply

-- how many entries there are
abbrev pub head_text : ℕ → ℕ → List ℕ
head_text number entries =
    decimal number ++ (codes " ok journal " ++ (decimal entries ++ codes "\n"))

-- the line of each, one behind the other
abbrev pub entries_text : Stage → List ℕ
entries_text stage =
    flat_map (λ placed. line_of stage placed) (enumerate_from 0 stage.recorded.journal)

abbrev pub journal_text : ℕ → Stage → List ℕ
journal_text number stage =
    head_text number (length stage.recorded.journal) ++ entries_text stage
