-- How the bindings are printed that one policy has and another lacks.
use Rattle.std.specs.Prelude.{ℕ, Bool, false, List, [], ◌∷◌, ◌++◌, Option, None, Some, codes, flat_map, if◌then◌else◌}
use Rattle.kob_names.specs.Binding.{Binding, same_binding}
use Rattle.kob_policy_text.specs.Answers.{line_by}
use Rattle.kob_policy_text.specs.Policy.{Policy, contents_of}
use Rattle.kob_policy_text.specs.Steps.{is_among}

-- what stands at a place is equal to a binding
abbrev pub is_equal : Binding → Option (ℕ × Binding) → Bool
is_equal binding None = false
is_equal binding (Some entry) = same_binding binding entry.1

-- the line of a binding, unless the others have an equal one
unfoldable pub moved_line : Policy → List (ℕ × Binding) → ℕ × Binding → List ℕ
moved_line policy others entry =
    if is_among others entry.1 then [] else line_by policy (Some entry.0)

-- lines below a word, if there are any
abbrev pub headed : List ℕ → List ℕ → List ℕ
headed what [] = []
headed what (byte ∷ lines) = what ++ byte ∷ lines

-- the bindings of one policy alone
abbrev pub alone_text : List ℕ → Policy → Policy → List ℕ
alone_text what policy others =
    headed what
    (flat_map (moved_line policy (contents_of others).entries) (contents_of policy).entries)

-- the bindings that are removed, and those that are added
abbrev pub moved_text : Policy → Policy → List ℕ
moved_text before after =
    alone_text (codes "removed\n") before after ++ alone_text (codes "added\n") after before
