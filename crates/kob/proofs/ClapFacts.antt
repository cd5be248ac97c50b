-- What clap says of options and subcommands that are added, said of what is read of them.
use Rattle.std.proofs.Common.{◌≡◌, ◌∙◌, ◌++◌, Bool, true, false, List, [], ◌∷◌, Result, Ok, Err, IfOk, IsErr, ap, ap₂, refl, not, ◌&&◌, arith, length-append, ℕ}
use Rattle.std.proofs.lemmas.Bool.Decides.{nat_tests}
use Rattle.std.specs.Borrow.{Bor}
use Rattle.std.specs.declared.alloc.AllocError.{AllocError}
use Rattle.clap.specs.Walk.{is_empty}
use Rattle.clap.specs.Words.{AddsArg, AddsConflicts, AddsRequirements, AddsSubcommand, App, Rule, app_of, rule_of, with_rule, with_subcommand}
use Rattle.clap.specs.declared.builder.arg.Arg.{Arg}
use Rattle.clap.specs.declared.builder.arg.ArgPredicate.{ArgPredicate}
use Rattle.clap.specs.declared.builder.command.Command.{Command}
use Rattle.kob.specs.CommandLine.{bound}

-- an argument that is read as a plain option is one of its command alone
local : (arg : Arg) → (rule_of arg).is_simple ≡ true → arg.global ≡ false
local arg simple = grind (arith, nat_tests)

pub arg_is : (old : Command) (arg : Arg) (grown : Result Command AllocError) (app : App) (rule : Rule)
    → app_of old ≡ app → rule_of arg ≡ rule → rule.is_simple ≡ true
    → IfOk grown (λ made. AddsArg old arg made) → IfOk grown (λ made. app_of made ≡ with_rule app rule)
arg_is old arg (Err refused) app rule before is simple adds = adds
arg_is old arg (Ok made) app rule before is simple adds =
    adds.shape (local arg (ap (λ (r : Rule). r.is_simple) is ∙ simple)) ∙ ap₂ with_rule before is

-- an argument that may have been refused for want of memory
pub made_arg_is : (old : Command) (arg : Result Arg AllocError) (grown : Result Command AllocError) (app : App) (rule : Rule)
    → app_of old ≡ app → IfOk arg (λ given. rule_of given ≡ rule) → rule.is_simple ≡ true
    → IfOk grown (λ made. IfOk arg (λ given. AddsArg old given made)) → (IsErr arg → IsErr grown)
    → IfOk grown (λ made. app_of made ≡ with_rule app rule)
made_arg_is old arg (Err refused) app rule before is simple adds refuses = adds
made_arg_is old (Ok given) (Ok made) app rule before is simple adds refuses =
    arg_is old given (Ok made) app rule before is simple adds
made_arg_is old (Err refused) (Ok made) app rule before is simple adds refuses =
    let bad : false ≡ true = refuses refl in cc

-- a subcommand that may have been refused for want of memory
pub subcommand_is : (old : Command) (sub grown : Result Command AllocError) (app below : App)
    → app_of old ≡ app → IfOk sub (λ given. app_of given ≡ below) → below.top.is_plain ≡ true
    → IfOk grown (λ made. IfOk sub (λ given. AddsSubcommand old given made)) → (IsErr sub → IsErr grown)
    → IfOk grown (λ made. app_of made ≡ with_subcommand app below.top)
subcommand_is old sub (Err refused) app below before is simple adds refuses = adds
subcommand_is old (Ok given) (Ok made) app below before is simple adds refuses =
    let plain : (app_of given).top.is_plain ≡ true = ap (λ (a : App). a.top.is_plain) is ∙ simple in
    adds.shape (grind (arith, nat_tests)) ∙ ap₂ with_subcommand before (ap (λ (a : App). a.top) is)
subcommand_is old (Err refused) (Ok made) app below before is simple adds refuses =
    let bad : false ≡ true = refuses refl in cc

-- one of several
pub some_subcommand_is : {X : Type 0} (old : Command) (sub grown : Result Command AllocError) (app : App)
    (below : X → App) → app_of old ≡ app → IfOk sub (λ given. (x : X) × (app_of given ≡ below x))
    → ((x : X) → (below x).top.is_plain ≡ true)
    → IfOk grown (λ made. IfOk sub (λ given. AddsSubcommand old given made)) → (IsErr sub → IsErr grown)
    → IfOk grown (λ made. (x : X) × (app_of made ≡ with_subcommand app (below x).top))
some_subcommand_is old sub (Err refused) app below before is simple adds refuses = adds
some_subcommand_is old (Ok given) (Ok made) app below before (x, is) simple adds refuses =
    (x, subcommand_is old (Ok given) (Ok made) app (below x) before is (simple x) adds refuses)
some_subcommand_is old (Err refused) (Ok made) app below before is simple adds refuses =
    let bad : false ≡ true = refuses refl in cc

none_free : (x y z : Bool) → y ≡ false → x && (y && z) ≡ false
none_free true y z is = ap (λ b. b && z) is
none_free false y z is = refl

not_empty : {X : Type 0} (items : List X) (item : X) → is_empty (items ++ item ∷ []) ≡ false
not_empty items item = grind (arith, nat_tests, length-append)

free_with : (rule : Rule) (is_free : Bool) → is_free ≡ false → record rule { is_free = is_free } ≡ bound rule
free_with rule is_free is = ap (λ b. record rule { is_free = b }) is

-- an option that may not stand with another
pub conflict_is : (old : Arg) (new : Result Arg AllocError) (name : Bor (List ℕ)) (rule : Rule) → rule_of old ≡ rule
    → IfOk new (λ made. AddsConflicts old made (name ∷ [])) → IfOk new (λ made. rule_of made ≡ bound rule)
conflict_is old (Err refused) name rule is adds = adds
conflict_is old (Ok made) name rule is adds =
    ap rule_of adds.0
    ∙ free_with (rule_of old) _ (none_free (not old.exclusive) _ _ (ap is_empty adds.1 ∙ not_empty old.conflicts.items name))
    ∙ ap bound is

-- and one that may not stand without another
pub need_is : (old : Arg) (new : Result Arg AllocError) (need : ArgPredicate × Bor (List ℕ)) (rule : Rule) → rule_of old ≡ rule
    → IfOk new (λ made. AddsRequirements old made (need ∷ [])) → IfOk new (λ made. rule_of made ≡ bound rule)
need_is old (Err refused) need rule is adds = adds
need_is old (Ok made) need rule is adds =
    ap rule_of adds.0
    ∙ free_with (rule_of old) _ (needs_free (not old.exclusive) (is_empty old.conflicts.items) _ _ (ap is_empty adds.1 ∙ not_empty old.needs.items need))
    ∙ ap bound is
  where
    needs_free : (w x y z : Bool) → y ≡ false → w && (x && (y && z)) ≡ false
    needs_free true x y z none = none_free x y z none
    needs_free false x y z none = refl
