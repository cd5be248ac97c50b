-- What is printed of a list of bindings is ASCII.
use Rattle.std.proofs.Common.{◌≡◌, ◌+◌, ◌<◌, ℕ, List, [], ◌∷◌, length, get_or, take, sym, append-nil}
use Rattle.std.specs.Str.{IsAscii}
use Rattle.std.proofs.lemmas.Grind.{flat_map-append}
use Rattle.std.proofs.lemmas.List.{take_more}
use Rattle.std.proofs.lemmas.Str.{IsAscii-append}
use Rattle.kob_names.specs.Binding.{Binding}
use Rattle.kob_acl_cli.specs.Lines.{binding_line, list_text}

-- one line more
pub list_ascii_more : (bindings : List (ℕ × Binding)) (i : ℕ) (item : ℕ × Binding) → i < length bindings
    → item ≡ get_or bindings i item → IsAscii (list_text (take i bindings))
    → IsAscii (binding_line item) → IsAscii (list_text (take (i + 1) bindings))
list_ascii_more bindings i item below is before more =
    rw (
      take_more bindings i item below,
      flat_map-append binding_line (take i bindings) (get_or bindings i item ∷ []),
      append-nil (binding_line (get_or bindings i item)),
      sym is,
    )
    (IsAscii-append (list_text (take i bindings)) (binding_line item) before more)
