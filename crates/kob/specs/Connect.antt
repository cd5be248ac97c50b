-- A service's router as a document for Kafka Connect, and its table.
use Rattle.std.specs.Char.{is_ascii_digit, is_ascii_lowercase}
use Rattle.std.specs.List.{list_all}
use Rattle.std.specs.Prelude.{ℕ, ◌==◌, ◌&&◌, ◌||◌, Bool, List, [], ◌++◌, Option, Some, None, Result, Ok, Err, bytes_eq, codes, if◌then◌else◌, length, nat_le, slice_get}
use Rattle.kob.specs.declared.connect.Database.{Database}
use Rattle.kob.specs.declared.connect.Database.TheVariants.{Postgresql, Mysql}
use Rattle.kob.specs.declared.exporting.ExportFault.{ExportFault}
use Rattle.kob_router.specs.declared.settings.RouteBy.{RouteBy}
use Rattle.kob_router.specs.declared.settings.RouteBy.TheVariants.{AggregateType, AggregateId}
use Rattle.kob_router.specs.declared.settings.RouteSettings.{RouteSettings}
use Rattle.kob_scene_play.specs.Json.{json_string}
use Rattle.kob_scene_text.specs.declared.scene.Service.{Service}

-- a connector: its name, and what it is configured by
unfoldable pub opening_text : List ℕ
opening_text = codes "{\n  \"name\": "

unfoldable pub config_text : List ℕ
config_text = codes ",\n  \"config\": {\n"

unfoldable pub slot_key_text : List ℕ
slot_key_text = codes "    \"slot.name\": "

unfoldable pub publication_key_text : List ℕ
publication_key_text = codes "    \"publication.name\": "

unfoldable pub prefix_key_text : List ℕ
prefix_key_text = codes "    \"topic.prefix\": "

-- the outbox event router
unfoldable pub transform_text : List ℕ
transform_text = codes ",\n    \"transforms\": \"outbox\",\n    \"transforms.outbox.type\": \"io.debezium.transforms.outbox.EventRouter\",\n"

unfoldable pub replacement_key_text : List ℕ
replacement_key_text = codes "    \"transforms.outbox.route.topic.replacement\": "

unfoldable pub placement_key_text : List ℕ
placement_key_text = codes "    \"transforms.outbox.table.fields.additional.placement\": "

-- keys and values as they are
unfoldable pub closing_text : List ℕ
closing_text = codes "    \"key.converter\": \"org.apache.kafka.connect.storage.StringConverter\",\n    \"value.converter\": \"org.apache.kafka.connect.storage.StringConverter\"\n  }\n}\n"

-- Debezium's connector for the database; what is in angle brackets is to be filled in
unfoldable pub connector_of : Database → List ℕ
connector_of Postgresql = codes "    \"connector.class\": \"io.debezium.connector.postgresql.PostgresConnector\",\n    \"plugin.name\": \"pgoutput\",\n    \"database.hostname\": \"<DATABASE_HOST>\",\n    \"database.user\": \"<DATABASE_USER>\",\n    \"database.password\": \"<DATABASE_PASSWORD>\",\n    \"database.dbname\": \"<DATABASE_NAME>\",\n    \"table.include.list\": \"public.outbox\",\n"
connector_of Mysql = codes "    \"connector.class\": \"io.debezium.connector.mysql.MySqlConnector\",\n    \"database.hostname\": \"<DATABASE_HOST>\",\n    \"database.user\": \"<DATABASE_USER>\",\n    \"database.password\": \"<DATABASE_PASSWORD>\",\n    \"database.server.id\": \"<A_NUMBER_THAT_NO_OTHER_REPLICA_HAS>\",\n    \"schema.history.internal.kafka.bootstrap.servers\": \"<BOOTSTRAP_SERVERS>\",\n    \"schema.history.internal.kafka.topic\": \"<A_TOPIC_THAT_NO_OTHER_CONNECTOR_HAS>\",\n    \"table.include.list\": \"<DATABASE_NAME>.outbox\",\n"

-- the column that names the topic, where it is not Debezium's default
unfoldable pub by_property : RouteBy → List ℕ
by_property AggregateType = []
by_property AggregateId = codes "    \"transforms.outbox.route.by.field\": \"aggregateid\",\n"

-- Debezium's default for the topic of a row
unfoldable pub default_replacement : List ℕ
default_replacement = codes "outbox.event.${routedByValue}"

abbrev pub property : List ℕ → List ℕ → List ℕ
property name value = name ++ json_string value ++ codes ",\n"

-- a property, unless it has Debezium's default
abbrev pub property_unless : List ℕ → List ℕ → List ℕ → List ℕ
property_unless default name value =
    if bytes_eq value default then [] else property name value

-- the name of a replication slot of PostgreSQL: at most 63 lower-case letters, digits and underscores
abbrev pub is_slot_byte : ℕ → Bool
is_slot_byte byte = is_ascii_lowercase byte || is_ascii_digit byte || byte == 95

abbrev pub is_slot_name : List ℕ → Bool
is_slot_name name = nat_le (length name) 63 && list_all is_slot_byte name

-- any other name is to be filled in
abbrev pub slot_name : List ℕ → List ℕ → List ℕ
slot_name name other = if is_slot_name name then name else other

-- each connector of a server of PostgreSQL needs a replication slot and a publication of its own
abbrev pub slot_text : Database → List ℕ → List ℕ
slot_text Postgresql name =
    property slot_key_text (slot_name name (codes "<SLOT_NAME>"))
    ++ property publication_key_text (slot_name name (codes "<PUBLICATION_NAME>"))
slot_text Mysql name = []

abbrev pub route_properties : RouteSettings → List ℕ
route_properties settings =
    by_property settings.by
    ++ property_unless default_replacement replacement_key_text settings.replacement
    ++ property_unless [] placement_key_text settings.placement

-- the document for a service, with its name as the connector's and as the prefix of its topics
abbrev pub connect_text : Database → Service → List ℕ
connect_text database service =
    opening_text ++ json_string service.name ++ config_text ++ connector_of database
    ++ slot_text database service.name ++ prefix_key_text
    ++ json_string service.name ++ transform_text ++ route_properties service.settings
    ++ closing_text

abbrev pub connector_at : Database → Option Service → List ℕ
connector_at database None = []
connector_at database (Some service) = connect_text database service

-- the document for the service at the place that was chosen
abbrev pub connector_text : Database → Result ℕ ExportFault → List Service → List ℕ
connector_text database (Ok place) services = connector_at database (slice_get services place)
connector_text database (Err why) services = []

-- the table that the properties expect
unfoldable pub table_of : Database → List ℕ
table_of Postgresql = codes "CREATE TABLE outbox (\n  id uuid PRIMARY KEY,\n  aggregatetype varchar(255) NOT NULL,\n  aggregateid varchar(255) NOT NULL,\n  type varchar(255) NOT NULL,\n  payload text NOT NULL\n);\n"
table_of Mysql = codes "CREATE TABLE outbox (\n  id char(36) PRIMARY KEY,\n  aggregatetype varchar(255) NOT NULL,\n  aggregateid varchar(255) NOT NULL,\n  type varchar(255) NOT NULL,\n  payload longtext NOT NULL\n);\n"
