use Rattle.kob_authorizer.proofs.Words.{Binding, List, YieldsList-from_filter, YieldsList-from_first, ap, held, is_equal, key_place, keys_on, kind_in_tree, left_of, min_from_yields_List, option_map_id, passes_at, rules, serials_of, sym, ℕ, ◌++◌, ◌∙◌, ◌∷◌, ◌≡◌}
use Rattle.kob_authorizer.specs.Index.{binding_key}
use Rattle.kob_authorizer.proofs.equals.least_equal.Goals as goal

pub returns : goal.returns
unfolding binding_key
returns c =
    let binding : Binding = c.args.binding.now in
    let test = passes_at (is_equal binding) c.args.entries.now in
    let held_there : List ℕ =
    serials_of (key_place binding).kind (held c.args.keys.now (key_place binding).key) in
    let principal : c.as_bytes-principal.result.now ≡ binding.principal = cc in
    let host : c.as_bytes-host.result.now ≡ binding.host = cc in
    let name : c.as_bytes-name.result.now ≡ binding.pattern.name = cc in
    let resource : c.parts-texts.result.now.resource ≡ binding.resource = cc in
    let kind : c.kind_in_tree-kind.result ≡ kind_in_tree binding.pattern.kind = cc in
    let given : left_of c.listed.result ≡ held_there =
    c.listed.ensures
    ∙ (λ i. serials_of (kind i) ((c.behind-2.ensures ∙ (λ j key. c.behind.ensures j (host j ++ 255 ∷ key))) i (name i)))
    ∙ (λ i. serials_of (key_place binding).kind
    (c.keys_on.ensures i (principal i ++ 255 ∷ (binding.host ++ 255 ∷ binding.pattern.name))))
    ∙ (λ i. serials_of (key_place binding).kind (keys_on (resource i) (held c.args.keys.now)
    (binding.principal ++ 255 ∷ (binding.host ++ 255 ∷ binding.pattern.name)))) in
    sym (option_map_id c.min.result)
    ∙ min_from_yields_List c.filter.result c.min.result c.min.ensures.ran
    (YieldsList-from_filter _ test
    (YieldsList-from_first (λ x. x) left_of held_there (ap left_of c.filter.ensures.source ∙ given))
    c.filter.ensures.closure (λ x r q k. search rules))
