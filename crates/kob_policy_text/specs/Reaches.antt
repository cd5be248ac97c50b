-- How those are printed who may do something on the names that begin with a prefix.
use Rattle.std.specs.Prelude.{ℕ, Bool, List, [], ◌++◌, ◌||◌, codes, flat_map, if◌then◌else◌}
use Rattle.kob_policy_review.specs.Below.{reaches_below}
use Rattle.kob_policy_review.specs.Difference.{names_all}
use Rattle.kob_policy_review.specs.declared.below.Reach.{Reach}
use Rattle.kob_policy_review.specs.declared.below.Share.{Share}
use Rattle.kob_policy_review.specs.declared.below.Share.TheVariants.{Nothing, Part, Everything}
use Rattle.kob_policy_text.specs.AtHand.{each_once}
use Rattle.kob_policy_text.specs.Parties.{party_text, super_grant}
use Rattle.kob_policy_text.specs.Policy.{Policy, contents_of}
use Rattle.kob_policy_text.specs.Remarks.{or_none}
use Rattle.kob_policy_text.specs.declared.question.Right.{Right}

-- PRINCIPAL HOST, and on which of the names
unfoldable pub reach_line : List ℕ → Reach → List ℕ
reach_line on one =
    codes "  " ++ party_text (codes "User:* (others)") one.principal ++ codes " "
    ++ party_text (codes "* (others)") one.host ++ on ++ codes "\n"

abbrev pub by_share : Share → Reach → List ℕ
by_share Nothing one = []
by_share Part one = reach_line (codes " some") one
by_share Everything one = reach_line (codes " all") one

-- the words for all ask as all others do
abbrev pub asks_as_others : Reach → Bool
asks_as_others one = names_all (codes "User:*") one.principal || names_all (codes "*") one.host

unfoldable pub reach_text : Reach → List ℕ
reach_text one = if asks_as_others one then [] else by_share one.share one

-- super users first, and then all principals and hosts to which it is granted on some of the names
abbrev pub reaches_text : Policy → Right → List ℕ
reaches_text policy right =
    or_none (flat_map super_grant (each_once policy.supers)
    ++ flat_map reach_text
    (reaches_below (contents_of policy) right.operation right.resource right.name))
