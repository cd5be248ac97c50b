-- The cells of rows: decisions, bindings, parties and names.
use Rattle.std.specs.Prelude.{ℕ, List, [], ◌∷◌, ◌++◌, Option, Some, None, codes, slice_get, unwrap_or}
use Rattle.kob_names.specs.Binding.{Binding, is_granted}
use Rattle.kob_names.specs.declared.kinds.PatternKind.TheVariants.{Literal, Prefixed}
use Rattle.kob_names.specs.declared.verdict.Verdict.{Verdict}
use Rattle.kob_names.specs.declared.verdict.Verdict.TheVariants as verdict
use Rattle.kob_policy_review.specs.declared.class.Names.{Names}
use Rattle.kob_policy_review.specs.declared.class.Names.TheVariants.{Exactly, Below}
use Rattle.kob_policy_review.specs.declared.class.Target.{Target}
use Rattle.kob_policy_review.specs.declared.redundant.Reason.{Reason}
use Rattle.kob_policy_review.specs.declared.redundant.Reason.TheVariants as reason
use Rattle.kob_policy_text.specs.Answers.{origin_by}
use Rattle.kob_policy_text.specs.Policy.{Policy, deciding, place_of, serials_of}
use Rattle.kob_policy_text.specs.declared.origin.Origin.{Origin}
use Rattle.kob_policy_rows.specs.declared.cell.Cell.{Cell}
use Rattle.kob_policy_rows.specs.declared.cell.Cell.TheVariants.{Flag, Nothing, Number, Words}
use Rattle.kob_words.specs.Words.{operation_name, pattern_name, permission_name, resource_name}

-- a number, if there is one
abbrev pub number_cell : Option ℕ → Cell
number_cell None = Nothing
number_cell (Some number) = Number number

-- file and line
abbrev pub origin_cells : Option Origin → List Cell
origin_cells None = Nothing ∷ Nothing ∷ []
origin_cells (Some origin) = Words origin.file ∷ Number origin.line ∷ []

abbrev pub reason_word : Verdict → List ℕ
reason_word verdict.Super = codes "super"
reason_word (verdict.AllowedBy serial) = codes "allow"
reason_word (verdict.DeniedBy serial) = codes "deny"
reason_word verdict.NoAllow = codes "no-allow"
reason_word verdict.NoAclFound = codes "no-acl-found"

-- the answer, why, the binding that decides, and from where it comes
unfoldable pub verdict_cells : Policy → Verdict → List Cell
verdict_cells policy verdict =
    Flag (is_granted verdict) ∷ Words (reason_word verdict) ∷ number_cell (deciding verdict)
    ∷ origin_cells (origin_by policy (deciding verdict))

-- a principal or a host, or the word for all others
abbrev pub party_name : List ℕ → Option (List ℕ) → List ℕ
party_name all party = unwrap_or party all

-- one name, or the names that begin so and that no longer prefix and no literal takes
abbrev pub names_cells : Names → List Cell
names_cells (Exactly name) = Words (pattern_name Literal) ∷ Words name ∷ []
names_cells (Below start) = Words (pattern_name Prefixed) ∷ Words start ∷ []

abbrev pub target_cells : Target → List Cell
target_cells target = Words (resource_name target.resource) ∷ names_cells target.names

-- whom a binding allows or denies what
abbrev pub grant_cells : Binding → List Cell
grant_cells binding =
    Words (permission_name binding.permission) ∷ Words binding.principal ∷ Words binding.host
    ∷ Words (operation_name binding.operation) ∷ []

-- and on what
abbrev pub pattern_cells : Binding → List Cell
pattern_cells binding =
    Words (resource_name binding.resource) ∷ Words (pattern_name binding.pattern.kind)
    ∷ Words binding.pattern.name ∷ []

unfoldable pub binding_cells : ℕ → Binding → Option Origin → List Cell
binding_cells serial binding origin =
    Number serial ∷ (grant_cells binding ++ pattern_cells binding ++ origin_cells origin)

-- why no answer needs a binding, and by which other one
abbrev pub why_cells : Option Reason → List Cell
why_cells None = []
why_cells (Some reason.Super) = Words (codes "super") ∷ Nothing ∷ []
why_cells (Some (reason.CoveredBy serial)) = Words (codes "covered") ∷ Number serial ∷ []
why_cells (Some (reason.DeniedBy serial)) = Words (codes "denied") ∷ Number serial ∷ []
why_cells (Some reason.Together) = Words (codes "together") ∷ Nothing ∷ []

abbrev pub bound_row : Policy → Option Reason → ℕ → Option Binding → List (List Cell)
bound_row policy why place None = []
bound_row policy why place (Some binding) =
    (binding_cells (unwrap_or (slice_get (serials_of policy) place) 0) binding
    (slice_get policy.origins place) ++ why_cells why) ∷ []

abbrev pub bound_at : Policy → Option Reason → Option ℕ → List (List Cell)
bound_at policy why None = []
bound_at policy why (Some place) = bound_row policy why place (slice_get policy.bindings place)

-- the binding with a serial; there is no row for what a left out binding closes
unfoldable pub bound_rows : Policy → Option Reason → ℕ → List (List Cell)
bound_rows policy why serial = bound_at policy why (place_of policy serial)
