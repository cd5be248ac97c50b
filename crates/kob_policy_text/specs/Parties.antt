-- How the principals, hosts and names of a class are printed.
use Rattle.std.specs.Prelude.{ℕ, List, ◌++◌, Option, Some, None, codes}
use Rattle.kob_policy_review.specs.declared.class.Names.{Names}
use Rattle.kob_policy_review.specs.declared.class.Names.TheVariants.{Exactly, Below}
use Rattle.kob_policy_text.specs.Quoted.{name_text}

-- a principal or a host, or all that no binding names
abbrev pub party_text : List ℕ → Option (List ℕ) → List ℕ
party_text all None = all
party_text all (Some party) = name_text party

-- a name, or those that begin so and that no longer pattern takes
abbrev pub names_text : Names → List ℕ
names_text (Exactly name) = name_text name
names_text (Below start) = name_text start ++ codes "* (others)"

-- a super user, to whom all is granted from every host
unfoldable pub super_grant : List ℕ → List ℕ
super_grant user = codes "  " ++ name_text user ++ codes " yes super\n"
