-- The names so far are those before and those of the forms that were passed.
use Rattle.std.proofs.Common.{map, take, ◌++◌, ◌≡◌}
use Rattle.kob_mistakes.proofs.names.push_names_of.Given as goal

abbrev pub invariant-loop-form : goal.invariant-loop-form
invariant-loop-form l =
    map (λ name. name.now) l.names.items
    ≡ map (λ name. name.now) l.initial.names.items ++ map (λ form. form.0.now) (take l.form-index l.forms)
