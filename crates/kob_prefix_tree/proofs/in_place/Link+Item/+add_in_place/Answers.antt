use Rattle.kob_prefix_tree.proofs.Words.{IsNeat, arith, refl, subst, sym, tree_of, with_serial}
use Rattle.kob_prefix_tree.specs.Contents.{ChangedInFront, first_contents}
use Rattle.kob_prefix_tree.specs.Held.{Held}
use Rattle.kob_prefix_tree.proofs.WayLemmas.{some_put}
use Rattle.kob_prefix_tree.proofs.InPlaceLemmas.{ByteNode, done_on, ends_in, neat_on, on_err, on_ok, some_in_front, some_stays}
use Rattle.kob_prefix_tree.proofs.in_place.Link+Item.+add_in_place.Goals as goal

pub add_in_place-requires : goal.add_in_place-requires
add_in_place-requires t c =
    let neat = subst (λ nodes. IsNeat (first_contents nodes).1) c.get_mut-node.ensures.value c.requires.neat in
    let was = c.get_mut-node.result.now in let now = c.step.new.node in let on = c.in-Ok.ensures.goes in (
      omega (arith, c.decreases, c.if-levels-gt0.true),
      (
        on.front.leads,
        (
          neat_on c.args.key.now c.in-Ok.rest.now (λ held. held) was now now neat on,
          some_in_front was.item.tail (was.item.literal, was.item.prefixed) was.child.nodes now.child.nodes neat on.front,
        ),
      ),
    )

pub add_here-added-requires : goal.add_here-added-requires
add_here-added-requires t c =
    let neat = subst (λ nodes. IsNeat (first_contents nodes).1) c.get_mut-node.ensures.value c.requires.neat in
    ends_in c.in-Err.count c.args.key.now c.in-Err.rest.now c.get_mut-node.result.now c.step.new.node
    c.change_places.new.self neat c.in-Err.ensures.stays c.change_places.ensures.tail c.change_places.ensures.end

pub returns-in-Ok-clause-put : goal.returns-in-Ok-clause-put
returns-in-Ok-clause-put t c =
    let neat = subst (λ nodes. IsNeat (first_contents nodes).1) c.get_mut-node.ensures.value c.requires.neat in
    let f : Held → Held = with_serial c.args.kind c.args.serial in let now = c.step.new.node in
    let left : ByteNode = record { item = now.item; child = c.add_in_place.new.self; next = now.next; alloc = now.alloc } in
    on_ok c.add_in_place.result
    (λ (done : ChangedInFront c.in-Ok.rest.now f now.child.nodes left.child.nodes).
    subst (λ nodes. ChangedInFront c.args.key.now f nodes (tree_of left)) (sym c.get_mut-node.ensures.value)
    (done_on c.args.key.now c.in-Ok.rest.now f c.get_mut-node.result.now now left neat c.in-Ok.ensures.goes refl refl
    done (some_put c.args.kind c.args.serial c.in-Ok.rest.now _ done.done.at)))
    c.add_in_place.ensures.put

pub returns-in-Ok-clause-refused : goal.returns-in-Ok-clause-refused
returns-in-Ok-clause-refused t c =
    let neat = subst (λ nodes. IsNeat (first_contents nodes).1) c.get_mut-node.ensures.value c.requires.neat in
    let f : Held → Held = λ held. held in let was = c.get_mut-node.result.now in let now = c.step.new.node in
    let left : ByteNode = record { item = now.item; child = c.add_in_place.new.self; next = now.next; alloc = now.alloc } in
    let on = c.in-Ok.ensures.goes in
    let inside = neat_on c.args.key.now c.in-Ok.rest.now f was now left neat on in
    let some = some_in_front was.item.tail (was.item.literal, was.item.prefixed) was.child.nodes now.child.nodes neat on.front in
    on_err c.add_in_place.result
    (λ (done : ChangedInFront c.in-Ok.rest.now f now.child.nodes left.child.nodes).
    subst (λ nodes. ChangedInFront c.args.key.now f nodes (tree_of left)) (sym c.get_mut-node.ensures.value)
    (done_on c.args.key.now c.in-Ok.rest.now f was now left neat on refl refl done
    (some_stays c.in-Ok.rest.now (first_contents now.child.nodes) _ inside some done.done)))
    c.add_in_place.ensures.refused
