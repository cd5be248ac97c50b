use Rattle.kob_authorizer.proofs.Words.{arith, Binding, List, Literal, Question, YieldsList-from_chain, YieldsList-from_first, ap, codes, fold, fold_from_yields_List, kind_in_tree, left_of, part_of, question_view, rules, serials_along, serials_of, ℕ, ◌++◌, ◌∙◌, ◌≡◌}
use Rattle.kob_authorizer.proofs.LeastHits.{no_hits_at, one_by_one, with_serial}
use Rattle.kob_authorizer.proofs.look_up.hits_at.Goals as goal

pub returns-then-is_absent : goal.returns-then-is_absent
returns-then-is_absent c =
    c.none.ensures
    ∙ no_hits_at c.args.entries.now (question_view c.args.question.now) (part_of c.args.names)
    (c.is_absent.ensures c.if-is_absent.true)

pub returns : goal.returns
returns c =
    let question : Question = question_view c.args.question.now in
    let entries : List (ℕ × Binding) = c.args.entries.now in
    let along : List ℕ = serials_along (part_of c.args.names) question.name in
    let star : List ℕ = serials_of (kind_in_tree Literal) (part_of c.args.names (codes "*")) in
    let walked : left_of c.walk.result ≡ along = cc in let starred : left_of c.listed.result ≡ star = cc in
    let gone_through : c.fold.result ≡ fold (with_serial entries question) c.none-2.result (along ++ star) =
    fold_from_yields_List _ (with_serial entries question) c.none-2.result c.fold.result c.fold.ensures.ran
    (YieldsList-from_chain
    (YieldsList-from_first (λ x. x) left_of along (ap left_of c.chain.ensures.first ∙ walked))
    (YieldsList-from_first (λ x. x) left_of star (ap left_of c.chain.ensures.second ∙ starred))
    c.chain.ensures.first_done c.chain.ensures.second_done) (λ a x b q called. search rules) in
    grind (arith, one_by_one)
