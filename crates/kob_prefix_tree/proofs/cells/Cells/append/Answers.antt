use Rattle.kob_prefix_tree.proofs.Words.{common_steps, arith, Link, Serial, ap, sym, true≢false, with_others, ◌∙◌}
use Rattle.kob_prefix_tree.proofs.WalkLemmas.{end_joined, values_are}
use Rattle.kob_prefix_tree.proofs.cells.Cells.append.Goals as goal

pub invariant_of-self-2 : goal.invariant_of-self-2
invariant_of-self-2 c =
    let self = c.self.inside.link in let others = c.other.inside.link in let kept = c.replace-link.ensures.value in
    end_joined self others c.join.result c.get-2.result.now c.get_mut.result.now
    (λ none. true≢false (sym (c.is_null.ensures.1 none) ∙ c.if-is_null.false))
    (λ none. true≢false (sym (c.is_null-2.ensures.1 none) ∙ c.if-is_null-2.false))
    (c.join.ensures.nodes ∙ ap (λ (l : Link Serial). with_others l.nodes others) kept) c.get_mut.ensures.value
    (c.join.ensures.first ∙ ap (λ (l : Link Serial). l.first) kept) c.other.invariant c.get-2.ensures

pub returns : goal.returns
returns c =
    let self = c.self.inside.link in let others = c.other.inside.link in
    let values = values_are self others c.join.result c.get-2.result.now c.get_mut.result.now in
    grind (arith, common_steps)
