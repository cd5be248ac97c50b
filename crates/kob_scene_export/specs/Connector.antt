-- The router of a service, as Debezium's outbox event router takes it.
use Rattle.std.specs.Prelude.{ℕ, List, ◌++◌, codes}
use Rattle.kob_router.specs.declared.settings.RouteBy.{RouteBy}
use Rattle.kob_router.specs.declared.settings.RouteBy.TheVariants.{AggregateType, AggregateId}
use Rattle.kob_router.specs.declared.settings.RouteSettings.{RouteSettings}
use Rattle.kob_words.specs.Words.{bytes_text}
use Rattle.kob_scene_export.specs.Plain.{comment_unless, is_value}

abbrev pub by_text : RouteBy → List ℕ
by_text AggregateType = codes "transforms.outbox.route.by.field=aggregatetype\n"
by_text AggregateId = codes "transforms.outbox.route.by.field=aggregateid\n"

-- a property, as a comment where its value is empty or has to be escaped
unfoldable pub property_text : List ℕ → List ℕ → List ℕ
property_text name value =
    comment_unless (is_value value) ++ name ++ bytes_text value ++ codes "\n"

-- the transform
unfoldable pub router_text : List ℕ
router_text =
    codes "transforms=outbox\n"
    ++ codes "transforms.outbox.type=io.debezium.transforms.outbox.EventRouter\n"

unfoldable pub field_text : List ℕ
field_text = codes "transforms.outbox.table.field.event."

-- the column that has a field of an event
unfoldable pub column_text : List ℕ → List ℕ
column_text column = field_text ++ column ++ codes "\n"

-- the columns of an event
unfoldable pub columns_text : List ℕ
columns_text =
    column_text (codes "id=id") ++ column_text (codes "key=aggregateid")
    ++ column_text (codes "type=type") ++ column_text (codes "payload=payload")

-- keys and values as they are
unfoldable pub converters_text : List ℕ
converters_text =
    codes "key.converter=org.apache.kafka.connect.storage.StringConverter\n"
    ++ codes "value.converter=org.apache.kafka.connect.storage.StringConverter\n"

-- the table that is read
unfoldable pub table_text : List ℕ
table_text =
    codes "# CREATE TABLE outbox (id uuid PRIMARY KEY,\n"
    ++ codes "#   aggregatetype varchar(255) NOT NULL,\n"
    ++ codes "#   aggregateid varchar(255) NOT NULL,\n"
    ++ codes "#   type varchar(255) NOT NULL,\n"
    ++ codes "#   payload text NOT NULL);\n"

-- what Kafka does otherwise
abbrev pub producer_note : List ℕ
producer_note =
    codes "# Here the first batch of its producer on a partition has base 0; "
    ++ codes "in Kafka it may have any.\n"

unfoldable pub name_text : List ℕ → List ℕ
name_text name = codes "# service " ++ bytes_text name ++ codes "\n" ++ producer_note

-- the properties of a route
unfoldable pub replacement_text : List ℕ
replacement_text = codes "transforms.outbox.route.topic.replacement="

unfoldable pub placement_text : List ℕ
placement_text = codes "transforms.outbox.table.fields.additional.placement="

unfoldable pub route_text : RouteSettings → List ℕ
route_text settings =
    router_text ++ by_text settings.by
    ++ property_text replacement_text settings.replacement
    ++ property_text placement_text settings.placement

abbrev pub connector_text : List ℕ → RouteSettings → List ℕ
connector_text name settings =
    name_text name ++ route_text settings ++ columns_text ++ converters_text ++ table_text
