use Rattle.kob_authorizer.proofs.Words.{Binding, Held, Hits, List, Question, ap, behind, codes, least_hits, lesser_hits, matching_serials, part_of, question_view, ℕ, ◌++◌, ◌∙◌, ◌∷◌, ◌≡◌}
use Rattle.kob_authorizer.proofs.LeastHits.{hits_of_two, no_hits_from}
use Rattle.kob_authorizer.proofs.look_up.hits_of.Goals as goal

pub returns-then-is_absent : goal.returns-then-is_absent
returns-then-is_absent c =
    c.none.ensures
    ∙ no_hits_from c.args.entries.now (question_view c.args.question.now) (part_of c.args.keys)
    (c.is_absent.ensures c.if-is_absent.true)

pub returns : goal.returns
returns c =
    let question : Question = question_view c.args.question.now in
    let entries : List (ℕ × Binding) = c.args.entries.now in
    let keys : List ℕ → Held = part_of c.args.keys in
    let least : (List ℕ → Held) → Hits = λ part. least_hits entries question (matching_serials part question.name) in
    let host : c.as_bytes.result.now ≡ question.host = cc in
    let everywhere : c.as_bytes-2.result.now ≡ codes "*" = cc in
    let from_host : part_of c.behind-from_host.result ≡ behind question.host keys =
    c.behind-from_host.ensures ∙ (λ i key. keys (host i ++ 255 ∷ key)) in
    let from_everywhere : part_of c.behind-from_everywhere.result ≡ behind (codes "*") keys =
    c.behind-from_everywhere.ensures ∙ (λ i key. keys (everywhere i ++ 255 ∷ key)) in
    c.or_lesser.ensures
    ∙ (λ i. lesser_hits ((c.hits_at.ensures ∙ ap least from_host) i)
    ((c.hits_at-2.ensures ∙ ap least from_everywhere) i))
    ∙ hits_of_two entries question (matching_serials (behind question.host keys) question.name)
    (matching_serials (behind (codes "*") keys) question.name)
