use Rattle.kob_prefix_tree.proofs.Words.{Contents, IsNeat, ap, subst, sym, ◌∙◌}
use Rattle.kob_prefix_tree.proofs.BelowLemmas.{AreThere, nothing_below, those_below}
use Rattle.kob_prefix_tree.proofs.WayLemmas.{map_at}
use Rattle.kob_prefix_tree.proofs.tree.PrefixTree.below.Goals as goal
use Rattle.std.proofs.Common.{IfOk, Result, Ok, Err}

pub returns-in-None : goal.returns-in-None
returns-in-None c =
    let is = sym c.self.view_is ∙ ap map_at (sym c.place.ensures) in
    let neat = subst (λ (place : Contents). IsNeat place.1) (sym c.place.ensures) c.self.invariant in
    subst (AreThere c.args.self.now c.args.text.now) (sym c.new.ensures.items)
    (nothing_below c.args.self.now c.place.result c.args.text.now is neat c.in-None.ensures.held)

pub returns-in-Some : goal.returns-in-Some
returns-in-Some c =
    let is = sym c.self.view_is ∙ ap map_at (sym c.place.ensures) in
    let neat = subst (λ (place : Contents). IsNeat place.1) (sym c.place.ensures) c.self.invariant in
    let those = those_below c.args.self.now c.place.result c.args.text.now is neat c.in-Some.place
    (c.in-Some.ensures.leads neat) c.in-Some.ensures.held in
    each_ok (λ made same. subst (AreThere c.args.self.now c.args.text.now) (sym same) those)
    c.serials_behind.result c.serials_behind.ensures
  where
    each_ok : {A E : Type 0} {P Q : A → Type 0} → ((a : A) → P a → Q a) → (result : Result A E) → IfOk result P
        → IfOk result Q
    each_ok f (Ok a) p = f a p
    each_ok f (Err e) p = tt
