-- A super user may describe every topic.
use Rattle.kob_broker.proofs.Words.{Bool, Check, Contents, Event, List, None, Option, Some, describes_topic, false, is_granted, question, refl, true, verdict, ℕ, ◌&&◌, ◌≡◌}
use Rattle.kob_authorizer.specs.Decide.{first_serial, hits, is_super, is_unmatched, unless_open, verdict_of}
use Rattle.kob_names.specs.declared.kinds.Permission.TheVariants.{Allow, Deny}
use Rattle.kob_names.specs.declared.kinds.Operation.TheVariants.{Describe}
use Rattle.kob_rights.specs.Table.{on_topic}
use Rattle.kob_names.specs.declared.verdict.Verdict.TheVariants.{Super}

only_super : (opened found : Bool) (deny allow : Option ℕ) → unless_open opened (verdict_of found deny allow) ≡ Super
    → found ≡ true
only_super opened true deny allow is = refl
only_super true false (Some serial) allow is = cc
only_super false false (Some serial) allow is = cc
only_super true false None (Some serial) is = cc
only_super false false None (Some serial) is = cc
only_super true false None None is = cc
only_super false false None None is = cc

granted_super : (opened found : Bool) (deny allow : Option ℕ) → found ≡ true
    → is_granted (unless_open opened (verdict_of found deny allow)) ≡ true
granted_super true true deny allow is = refl
granted_super false true deny allow is = refl
granted_super opened false deny allow is = cc

pub super_describes : (access : Contents) (event : Event) (check : Check) → verdict access event check ≡ Super
    → (name : List ℕ) → describes_topic access event name ≡ true
super_describes access event check is name =
    let asked = question event check in let other = question event (on_topic Describe name) in
    let found = is_super access.supers event.principal in
    granted_super (access.everyone && is_unmatched access.entries other) found
    (first_serial (hits access.entries Deny other)) (first_serial (hits access.entries Allow other))
    (only_super (access.everyone && is_unmatched access.entries asked) found
    (first_serial (hits access.entries Deny asked)) (first_serial (hits access.entries Allow asked)) is)
