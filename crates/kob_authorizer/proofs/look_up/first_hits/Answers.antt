use Rattle.kob_authorizer.proofs.Words.{Allow, Binding, Deny, Held, Hits, Index, List, PrefixMap, Question, ap, behind, codes, held, keys_on, least_hits, lesser_hits, part_of, question_view, serials_for, serials_from, ℕ, ◌++◌, ◌∙◌, ◌∷◌, ◌≡◌}
use Rattle.kob_authorizer.proofs.LeastHits.{hits_of_two}
use Rattle.kob_authorizer.proofs.Verdicts.{least_hit_is_first}
use Rattle.kob_authorizer.proofs.look_up.first_hits.Goals as goal

pub returns : goal.returns
returns c =
    let question : Question = question_view c.args.question.now in
    let entries : List (ℕ × Binding) = c.args.entries.now in
    let index : Index = c.args.index.now in
    let keys : PrefixMap = index.keys in
    let least : (List ℕ → Held) → Hits = λ part. least_hits entries question (serials_from part question) in
    let who : c.as_bytes.result.now ≡ question.principal = cc in
    let everyone : c.as_bytes-2.result.now ≡ codes "User:*" = cc in
    let on : List ℕ → Held = keys_on question.resource (held keys) in
    let of_kind : part_of c.keys_on-keys.result ≡ on = c.keys_on-keys.ensures in
    let of_who : part_of c.behind-of_who.result ≡ behind question.principal on =
    c.behind-of_who.ensures ∙ (λ i key. of_kind i (who i ++ 255 ∷ key)) in
    let of_everyone : part_of c.behind-of_everyone.result ≡ behind (codes "User:*") on =
    c.behind-of_everyone.ensures ∙ (λ i key. of_kind i (everyone i ++ 255 ∷ key)) in
    let found : c.or_lesser.result ≡ least_hits entries question (serials_for keys question) =
    c.or_lesser.ensures
    ∙ (λ i. lesser_hits ((c.hits_of.ensures ∙ ap least of_who) i) ((c.hits_of-2.ensures ∙ ap least of_everyone) i))
    ∙ hits_of_two entries question (serials_from (behind question.principal on) question)
    (serials_from (behind (codes "User:*") on) question) in
    record {
      deny = ap (λ (h : Hits). h.deny) found
          ∙ least_hit_is_first index entries Deny question c.requires.rising c.requires.indexed;
      allow = ap (λ (h : Hits). h.allow) found
          ∙ least_hit_is_first index entries Allow question c.requires.rising c.requires.indexed;
    }
