-- The names of commands.
use Rattle.std.specs.Prelude.{ℕ, Bool, List, [], ◌∷◌, codes}
use Rattle.std.specs.List.{list_any}
use Rattle.std.specs.Str.{bytes_eq}

abbrev pub command_names : List (List ℕ)
command_names =
    codes "create-topic" ∷ codes "delete-topic" ∷ codes "metadata" ∷ codes "produce"
    ∷ codes "fetch" ∷ codes "list-offsets" ∷ codes "delete-records" ∷ codes "init-producer"
    ∷ codes "commit" ∷ codes "committed" ∷ codes "groups" ∷ codes "delete-group"
    ∷ codes "create-acl" ∷ codes "describe-acls" ∷ codes "delete-acls" ∷ codes "acl" ∷ []

unfoldable pub is_command : List ℕ → Bool
is_command word = list_any (λ name. bytes_eq name word) command_names
