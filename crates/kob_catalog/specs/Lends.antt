-- What a topic and a catalog end as, where the borrow r of one of their partitions ends.
use Rattle.std.specs.Prelude.{ℕ, List, Option, Result, slice_set}
use Rattle.std.specs.Borrow.{Fml, LendsIf, LendsIfOk, MutBor}
use Rattle.kob_partition.specs.Retained.{LogKept}
use Rattle.kob_partition.specs.contracts.log.PartitionLog.{the_row as log_row}
use Rattle.kob_catalog.specs.Kept.{CatalogKept, with_log}
use Rattle.kob_catalog.specs.contracts.catalog.Catalog.{the_row as catalog_row}
use Rattle.kob_catalog.specs.contracts.topic.Topic.{the_row as topic_row}
use Rattle.kob_catalog.specs.declared.fault.PartitionFault.{PartitionFault}

-- the partition is what was left behind r, and at `None` the topic stays as it is
abbrev pub lends_log : MutBor (List LogKept) → ℕ → Option (MutBor LogKept) → Fml
lends_log topic partition r =
    LendsIf topic_row log_row topic r (slice_set topic.now partition) topic.now

-- the partition is what was left behind r, and after a refusal the catalog stays as it is
abbrev pub lends_named : MutBor CatalogKept → List ℕ → ℕ → Result (MutBor LogKept) PartitionFault
    → Fml
lends_named catalog name partition r =
    LendsIfOk catalog_row log_row catalog r (with_log catalog.now name partition) catalog.now
