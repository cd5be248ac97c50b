use Rattle.kob_authorizer.proofs.Words.{Some, entry_at, get_or, rules, subst, ◌∙◌, ◌≡◌}
use Rattle.kob_authorizer.proofs.Deleting.{single_removed}
use Rattle.kob_authorizer.proofs.deletion.remove_taken.Goals as goal

pub returns-in-Some-clause-entries : goal.returns-in-Some-clause-entries
returns-in-Some-clause-entries c =
    let it = c.index-taken-0.result in let (below, found) = c.in-Some.ensures in
    c.remove.ensures.entries
    ∙ single_removed c.args.filter.now c.args.entries.now.entries c.args.taken.now c.in-Some.place it c.requires.rising
    c.requires.taken (search rules) (search rules)
    (subst (λ es. Some (get_or es c.in-Some.place it) ≡ entry_at es (get_or c.args.taken.now 0 it).0)
    c.as_slice.ensures (found it))
