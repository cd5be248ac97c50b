use Rattle.kob_prefix_tree.proofs.Words.{ChangedAt, ap, contents, refl, subst, sym, with_serial, ◌++◌, ◌∙◌, ◌∷◌}
use Rattle.kob_prefix_tree.specs.Contents.{ChangedInFront, first_byte, first_contents}
use Rattle.kob_prefix_tree.specs.Held.{Held}
use Rattle.kob_prefix_tree.proofs.WayLemmas.{some_put}
use Rattle.kob_prefix_tree.proofs.InPlaceLemmas.{changed_behind, neat_in_front, on_err, on_ok, some_in_front, some_stays}
use Rattle.kob_prefix_tree.proofs.branch.Branch.add.Goals as goal

pub add_in_place-requires-clause-neat : goal.add_in_place-requires-clause-neat
add_in_place-requires-clause-neat c =
    let b = c.args.self.now in let now = c.follow.new.self.nodes in
    neat_in_front b.tail c.in-Some.rest.now (λ held. held) (b.literal, b.prefixed) b.below.nodes now now
    c.requires.neat c.in-Some.ensures.1

pub add_in_place-requires-clause-some : goal.add_in_place-requires-clause-some
add_in_place-requires-clause-some c =
    let b = c.args.self.now in
    some_in_front b.tail (b.literal, b.prefixed) b.below.nodes c.follow.new.self.nodes c.requires.neat
    c.in-Some.ensures.1

pub returns-in-Some-clause-put : goal.returns-in-Some-clause-put
returns-in-Some-clause-put c =
    let b = c.args.self.now in let f : Held → Held = with_serial c.args.kind c.args.serial in
    let now = c.follow.new.self.nodes in let left = c.add_in_place.new.self in let there = c.in-Some.ensures in
    let key_is =
    ap (λ tail. tail ++ first_byte now ∷ c.in-Some.rest.now) (c.if-not-is_empty.ensures.0 refl) ∙ sym there.0 in
    on_ok c.add_in_place.result
    (λ (done : ChangedInFront c.in-Some.rest.now f now left.nodes).
    subst (λ key. ChangedAt key f (contents b) (contents (record b { below = left }))) key_is
    (changed_behind b.tail c.in-Some.rest.now f (b.literal, b.prefixed) b.below.nodes now left.nodes c.requires.neat
    there.1 done (some_put c.args.kind c.args.serial c.in-Some.rest.now _ done.done.at)))
    c.add_in_place.ensures.put

pub returns-in-Some-clause-refused : goal.returns-in-Some-clause-refused
returns-in-Some-clause-refused c =
    let b = c.args.self.now in let f : Held → Held = λ held. held in let h : Held = (b.literal, b.prefixed) in
    let now = c.follow.new.self.nodes in let left = c.add_in_place.new.self in let there = c.in-Some.ensures in
    let key_is =
    ap (λ tail. tail ++ first_byte now ∷ c.in-Some.rest.now) (c.if-not-is_empty.ensures.0 refl) ∙ sym there.0 in
    let inside = neat_in_front b.tail c.in-Some.rest.now f h b.below.nodes now left.nodes c.requires.neat there.1 in
    let some = some_in_front b.tail h b.below.nodes now c.requires.neat there.1 in
    on_err c.add_in_place.result
    (λ (done : ChangedInFront c.in-Some.rest.now f now left.nodes).
    subst (λ key. ChangedAt key f (contents b) (contents (record b { below = left }))) key_is
    (changed_behind b.tail c.in-Some.rest.now f h b.below.nodes now left.nodes c.requires.neat there.1 done
    (some_stays c.in-Some.rest.now (first_contents now) _ inside some done.done)))
    c.add_in_place.ensures.refused
