-- What a text holds.
use Rattle.std.specs.Prelude.{List, ℕ, string_bytes}
use Rattle.kob_names.specs.declared.text.Content.{Content}
use Rattle.kob_names.specs.declared.text.Content.TheVariants.{Short, Long}

-- the bytes of a text, held in place or behind a string
abbrev pub content_bytes : Content → List ℕ
content_bytes (Short bytes) = bytes
content_bytes (Long content) = string_bytes content
