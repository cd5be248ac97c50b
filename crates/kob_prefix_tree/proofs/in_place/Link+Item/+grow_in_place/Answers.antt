use Rattle.kob_prefix_tree.proofs.Words.{IsNeat, arith, key_of, refl, subst, sym, tree_of, with_serial}
use Rattle.kob_prefix_tree.specs.Contents.{ChangedInFront, first_contents}
use Rattle.kob_prefix_tree.proofs.WayLemmas.{some_put}
use Rattle.kob_prefix_tree.proofs.InPlaceLemmas.{ByteNode, done_on, ends_in, neat_on}
use Rattle.kob_prefix_tree.proofs.in_place.Link+Item.+grow_in_place.Goals as goal

pub grow_in_place-requires : goal.grow_in_place-requires
grow_in_place-requires t c =
    let neat = subst (λ nodes. IsNeat (first_contents nodes).1) c.get_mut-node.ensures.value c.requires.neat in (
      omega (arith, c.decreases, c.if-levels-gt0.true),
      (
        c.in-None.ensures.front.leads,
        neat_on (key_of c.args.path.nodes) (key_of c.step_along.new.path.nodes)
            (with_serial c.args.kind c.args.serial) c.get_mut-node.result.now c.step_along.new.node
            c.step_along.new.node neat c.in-None.ensures,
      ),
    )

pub graft-requires : goal.graft-requires
graft-requires t c =
    let neat = subst (λ nodes. IsNeat (first_contents nodes).1) c.get_mut-node.ensures.value c.requires.neat in
    ends_in c.in-Some.count (key_of c.args.path.nodes) (key_of c.step_along.new.path.nodes)
    c.get_mut-node.result.now c.step_along.new.node c.change_places.new.self neat c.in-Some.ensures
    c.change_places.ensures.tail c.change_places.ensures.end

pub returns-in-None : goal.returns-in-None
returns-in-None t c =
    let f = with_serial c.args.kind c.args.serial in let key = key_of c.args.path.nodes in
    let rest = key_of c.step_along.new.path.nodes in let done = c.grow_in_place.ensures in
    let neat = subst (λ nodes. IsNeat (first_contents nodes).1) c.get_mut-node.ensures.value c.requires.neat in
    let now = c.step_along.new.node in let left : ByteNode =
    record { item = now.item; child = c.grow_in_place.new.self; next = now.next; alloc = now.alloc } in
    subst (λ nodes. ChangedInFront key f nodes (tree_of left)) (sym c.get_mut-node.ensures.value)
    (done_on key rest f c.get_mut-node.result.now now left neat c.in-None.ensures refl refl done
    (some_put c.args.kind c.args.serial rest _ done.done.at))
