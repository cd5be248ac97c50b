-- How the rights of a principal are printed.
use Rattle.std.specs.Prelude.{ℕ, Bool, true, false, List, [], ◌∷◌, ◌++◌, ◌==◌, Option, Some, None, codes, flat_map, length, if◌then◌else◌}
use Rattle.kob_authorizer.specs.Decide.{is_super}
use Rattle.kob_names.specs.declared.kinds.Operation.{Operation}
use Rattle.kob_policy_review.specs.Difference.{names_all}
use Rattle.kob_policy_review.specs.Holding.{holdings_of}
use Rattle.kob_policy_review.specs.declared.holding.Holding.{Holding}
use Rattle.kob_policy_text.specs.Parties.{names_text, party_text}
use Rattle.kob_policy_text.specs.Policy.{Policy, contents_of}
use Rattle.kob_policy_text.specs.Remarks.{of_principal}
use Rattle.kob_words.specs.Words.{operation_name, resource_name}

abbrev pub behind_comma : Operation → List ℕ
behind_comma operation = codes "," ++ operation_name operation

abbrev pub joined : List Operation → List ℕ
joined [] = []
joined (first ∷ others) = operation_name first ++ flat_map behind_comma others

-- the operations that are granted, each once; the ten of a request are all
abbrev pub operations_text : List Operation → List ℕ
operations_text operations = if length operations == 10 then codes "All" else joined operations

-- the host that is asked about is in the question
abbrev pub from_host : Option (List ℕ) → Holding → List ℕ
from_host (Some host) one = []
from_host None one = party_text (codes "* (others)") one.host ++ codes " "

-- HOST OPERATION,OPERATION RESOURCE NAMES
unfoldable pub holding_line : Option (List ℕ) → Holding → List ℕ
holding_line host one =
    codes "  " ++ from_host host one ++ operations_text one.operations ++ codes " "
    ++ resource_name one.target.resource ++ codes " " ++ names_text one.target.names
    ++ codes "\n"

-- the word for all hosts asks as all others do
abbrev pub is_repeated : Option (List ℕ) → Holding → Bool
is_repeated (Some host) one = false
is_repeated None one = names_all (codes "*") one.host

abbrev pub holding_text : Option (List ℕ) → Holding → List ℕ
holding_text host one =
    if length one.operations == 0 then []
    else (if is_repeated host one then [] else holding_line host one)

abbrev pub open_text : Bool → List ℕ
open_text true = codes "  All on names that no pattern takes\n"
open_text false = []

-- what is granted to a principal that is no super user
abbrev pub held_text : Policy → List ℕ → Option (List ℕ) → List ℕ
held_text policy principal host =
    flat_map (holding_text host) (holdings_of (contents_of policy) principal host)
    ++ open_text policy.everyone

-- what is granted to the principal
abbrev pub holdings_text : Policy → List ℕ → Option (List ℕ) → List ℕ
holdings_text policy principal host =
    if is_super policy.supers principal then codes "  All on every name, as a super user\n"
    else of_principal policy principal (held_text policy principal host)
