use Rattle.std.proofs.Common.{List, Option, Some, [], ap, sym, ℕ, ◌++◌, ◌∙◌, ◌∷◌, ◌≡◌}
use Rattle.std.specs.List.{list_any}
use Rattle.kob_prefix_tree.specs.Held.{PrefixMap, added}
use Rattle.kob_prefix_tree.specs.declared.kind.PatternKind.TheVariants.{Literal}
use Rattle.kob_policy_review.proofs.Keys.{put_held}
use Rattle.kob_policy_review.specs.Classes.{is_party}
use Rattle.kob_policy_review.specs.Finding.{is_held}
use Rattle.kob_policy_review.proofs.parties.Parties.add.Goals as goal

pub invariant_of-self-2 : goal.invariant_of-self-2
invariant_of-self-2 c =
    let made : List (Option (List ℕ)) = c.self.inside.made.items in
    let keys : PrefixMap = c.self.inside.keys in
    let key : List ℕ = c.args.text.now in
    let items : c.push_reserved.new.self.items ≡ made ++ Some key ∷ [] =
    c.push_reserved.ensures.items
    ∙ (λ i. c.in_ok-reserve.ensures.items i ++ Some (c.in_ok-copy.ensures.value i) ∷ []) in
    let tree : c.add.new.self ≡ added keys key Literal 0 =
    c.in_ok-add.ensures.added ∙ ap (λ (k : List ℕ). added keys k Literal 0) c.as_bytes.ensures.value in
    λ text.
    ap (λ (xs : List (Option (List ℕ))). list_any (is_party text) xs) items
    ∙ put_held made keys key c.self.invariant text
    ∙ ap (λ (t : PrefixMap). is_held t text) (sym tree)
