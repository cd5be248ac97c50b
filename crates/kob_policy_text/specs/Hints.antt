-- What stands below a no: that no pattern takes the name, or that no binding names who asks.
use Rattle.std.specs.Prelude.{ℕ, Bool, List, [], ◌++◌, ◌||◌, codes, if◌then◌else◌}
use Rattle.std.specs.List.{list_any}
use Rattle.kob_authorizer.specs.Decide as authorizer
use Rattle.kob_names.specs.Binding.{Binding}
use Rattle.kob_names.specs.Same.{same_text}
use Rattle.kob_names.specs.declared.kinds.ResourceKind.{ResourceKind}
use Rattle.kob_names.specs.declared.verdict.Verdict.{Verdict}
use Rattle.kob_names.specs.declared.verdict.Verdict.TheVariants.{AllowedBy, DeniedBy, NoAclFound, NoAllow, Super}
use Rattle.kob_policy_text.specs.Policy.{Policy}
use Rattle.kob_policy_text.specs.Quoted.{name_text}
use Rattle.kob_authorizer.specs.Decide.{takes_name}

abbrev pub names : List ℕ → Binding → Bool
names principal binding = same_text binding.principal principal

abbrev pub is_named : Policy → List ℕ → Bool
is_named policy principal = list_any (names principal) policy.bindings

-- a pattern of a binding takes the name; that of a left out binding counts
abbrev pub is_name_taken : Policy → ResourceKind → List ℕ → Bool
is_name_taken policy resource name =
    list_any (takes_name resource name) policy.bindings
    || list_any (takes_name resource name) policy.closings

abbrev pub is_taken : Policy → authorizer.Question → Bool
is_taken policy asked = is_name_taken policy asked.resource asked.name

unfoldable pub told_text : List ℕ → List ℕ → List ℕ
told_text what name = what ++ name_text name ++ codes "\n"

-- a deny that decides is on the name
abbrev pub untaken_text : Policy → Verdict → authorizer.Question → List ℕ
untaken_text policy NoAllow asked =
    if is_taken policy asked then [] else told_text (codes "    no pattern takes ") asked.name
untaken_text policy NoAclFound asked = []
untaken_text policy Super asked = []
untaken_text policy (AllowedBy serial) asked = []
untaken_text policy (DeniedBy serial) asked = []

abbrev pub unnamed_text : Policy → Bool → List ℕ → List ℕ
unnamed_text policy allowed principal =
    if allowed || is_named policy principal then []
    else told_text (codes "    no binding names ") principal
