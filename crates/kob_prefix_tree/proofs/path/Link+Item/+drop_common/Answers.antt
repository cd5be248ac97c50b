use Rattle.kob_prefix_tree.proofs.Words.{Parts, arith, drop, key_of, length, length-drop, refl, subst, sym, take_all, ◌+◌, ◌∙◌, ◌∷◌}
use Rattle.std.specs.Prelude.{◌-◌}
use Rattle.kob_prefix_tree.proofs.PartsLemmas.{one_more, parts_behind}
use Rattle.kob_prefix_tree.proofs.path.Link+Item.+drop_common.Goals as goal

pub returns : goal.returns
returns t c =
    let others = c.in-Some.others.now in let count = c.drop_shared-count.result in let more = c.drop_common.result in
    let before = key_of c.drop_shared-count.new.self.nodes in let after = key_of c.drop_common.new.self.nodes in
    let left = length-drop count others in
    let all = take_all (length others - count) (drop count others) (omega (arith, left)) in
    one_more (count + more) c.in-Some.ensures.cases.0
    (c.in-Some-first_byte.ensures ∙ (λ i. sym c.if-first-byte.false i ∷ c.drop_shared-count.ensures.key i))
    (parts_behind count others _ before after more c.drop_shared-count.ensures.within refl
    (subst (λ tail. Parts tail before more after) all c.drop_common.ensures))
