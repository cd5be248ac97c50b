use Rattle.kob_authorizer.proofs.Words.{Binding, None, Question, Some, ap, arith, common_steps, question_view, sym, then_some, ℕ, ◌∙◌, ◌≡◌}
use Rattle.kob_authorizer.specs.Decide.{is_hit}
use Rattle.kob_authorizer.specs.Index.{entry_at}
use Rattle.kob_authorizer.proofs.LeastHits.{hit_of, no_allow, no_deny}
use Rattle.kob_names.specs.declared.kinds.Permission.TheVariants.{Allow, Deny}
use Rattle.kob_authorizer.proofs.look_up.hit_with.Goals as goal

pub returns-in-Deny : goal.returns-in-Deny
returns-in-Deny c =
    let question : Question = question_view c.args.question.now in
    let entry : ℕ × Binding = c.in-Some.entry.now in
    let found : Some entry ≡ entry_at c.args.entries.now c.args.serial = grind (arith, common_steps) in
    let is : entry.1.permission ≡ Deny = grind (arith, common_steps) in
    let deny : c.then_some.result ≡ then_some (is_hit Deny question entry) c.args.serial = grind (arith, common_steps) in
    let allow : None ≡ then_some (is_hit Allow question entry) c.args.serial =
    ap (λ hits. then_some hits c.args.serial) (sym (no_allow question entry is)) in
    (λ i. record { deny = deny i; allow = allow i })
    ∙ hit_of question c.args.entries.now c.args.serial entry c.requires found

pub returns-in-Allow : goal.returns-in-Allow
returns-in-Allow c =
    let question : Question = question_view c.args.question.now in
    let entry : ℕ × Binding = c.in-Some.entry.now in
    let found : Some entry ≡ entry_at c.args.entries.now c.args.serial = grind (arith, common_steps) in
    let is : entry.1.permission ≡ Allow = grind (arith, common_steps) in
    let allow : c.then_some-in-Allow.result ≡ then_some (is_hit Allow question entry) c.args.serial =
    grind (arith, common_steps) in
    let deny : None ≡ then_some (is_hit Deny question entry) c.args.serial =
    ap (λ hits. then_some hits c.args.serial) (sym (no_deny question entry is)) in
    (λ i. record { deny = deny i; allow = allow i })
    ∙ hit_of question c.args.entries.now c.args.serial entry c.requires found
