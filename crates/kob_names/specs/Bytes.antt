-- What contracts see of bytes.
use Rattle.std.specs.Prelude.{List, ℕ}
use Rattle.std.specs.Arc.{arc_slice_items}
use Rattle.kob_names.specs.declared.bytes.Content.{Content}
use Rattle.kob_names.specs.declared.bytes.Content.TheVariants.{Own, Shared}

abbrev pub content_bytes : Content → List ℕ
content_bytes (Own bytes) = bytes.items
content_bytes (Shared bytes) = arc_slice_items bytes
