use Rattle.std.proofs.Common.{List, [], ap, length, subst, sym, ◌++◌, ◌∙◌, ◌∷◌, ◌≡◌}
use Rattle.kob_policy_review.proofs.Places.{last_placed, still_placed}
use Rattle.kob_prefix_tree.specs.Held.{PrefixMap, added}
use Rattle.kob_prefix_tree.specs.declared.kind.PatternKind.TheVariants.{Literal}
use Rattle.kob_policy_review.specs.Finding.{text_of}
use Rattle.kob_policy_review.specs.Sites.{ArePlaced}
use Rattle.kob_policy_review.specs.declared.class.Target.{Target}
use Rattle.kob_policy_review.proofs.targets.Targets.push.Goals as goal

pub invariant_of-self-in_err-push : goal.invariant_of-self-in_err-push
invariant_of-self-in_err-push c =
    let made : List Target = c.self.inside.made.items in
    let tree : PrefixMap = c.self.inside.places in
    subst (λ (xs : List Target). ArePlaced xs c.add.new.self) (sym c.in_err-push.ensures.items)
    (subst (ArePlaced made) (sym c.in_ok-add.ensures.added)
    (still_placed made tree c.as_bytes-key.result.now c.len-place.result c.self.invariant))

pub invariant_of-self-2 : goal.invariant_of-self-2
invariant_of-self-2 c =
    let made : List Target = c.self.inside.made.items in
    let tree : PrefixMap = c.self.inside.places in
    let target : Target = c.args.target in
    let at : c.add.new.self ≡ added tree (text_of target.names) Literal (length made) =
    c.in_ok-add.ensures.added
    ∙ ap (λ key. added tree key Literal c.len-place.result)
    (c.as_bytes-key.ensures.value ∙ c.as_str.ensures ∙ c.text_of.ensures)
    ∙ ap (added tree (text_of target.names) Literal) (c.len-place.ensures ∙ c.self.inside.made.ok.0) in
    subst (λ (xs : List Target). ArePlaced xs c.add.new.self) (sym c.in_ok-push.ensures.items)
    (subst (ArePlaced (made ++ target ∷ [])) (sym at)
    (last_placed made tree target c.self.invariant))
