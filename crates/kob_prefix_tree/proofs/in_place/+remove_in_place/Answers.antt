use Rattle.kob_prefix_tree.proofs.Words.{ChangedAt, Link, arith, ap, contents, has_serials, held_in, kept_behind, subst, sym, take, trie_of, true≢false, without_serials, ◌≡◌, ◌++◌, ◌∙◌}
use Rattle.kob_prefix_tree.specs.declared.siblings.Item.{Item}
use Rattle.kob_prefix_tree.specs.Contents.{first_byte, first_contents, node_contents, node_end, others_of}
use Rattle.kob_prefix_tree.proofs.InPlaceLemmas.{done_in, ends_in, held_in_front, left_behind, neat_on, stayed}
use Rattle.kob_prefix_tree.proofs.in_place.+remove_in_place.Goals as goal

pub Link+Item::remove_in_place-returns-else-node_ends_bare-clause-taken :
    goal.Link+Item::remove_in_place-returns-else-node_ends_bare-clause-taken
Link+Item::remove_in_place-returns-else-node_ends_bare-clause-taken t c =
    let f = without_serials c.args.kind c.args.serials.now in let found = c.remove_behind-found in
    let left = found.new.node in let was = sym c.get_mut-node.ensures.value in
    stayed c.args.key.now f c.args.self.now.nodes left
    (subst (λ nodes. ChangedAt c.args.key.now f (first_contents nodes) (kept_behind left.item.tail (node_end left)))
    was found.ensures.taken)
    (λ none. true≢false (sym (c.if-node_ends_bare.ensures.1 none)))
    (found.ensures.byte ∙ ap first_byte was)
    (ap (λ (l : Link Item). trie_of l.nodes) found.ensures.next ∙ ap others_of was)

pub remove_behind-remove_here-found-requires : goal.remove_behind-remove_here-found-requires
remove_behind-remove_here-found-requires t c =
    ends_in c.in-Err.count c.args.key.now c.in-Err.rest.now c.args.node.now c.step.new.node
    c.change_places.new.self c.requires c.in-Err.ensures.stays c.change_places.ensures.tail c.change_places.ensures.end

pub remove_behind-returns-in-Ok-clause-found : goal.remove_behind-returns-in-Ok-clause-found
remove_behind-returns-in-Ok-clause-found t c =
    let on = c.in-Ok.ensures.goes in let was = c.args.node.now in let now = c.step.new.node in
    c.remove_in_place.ensures.found
    ∙ ap (has_serials c.args.kind c.args.serials.now)
    (held_in_front was.item.tail c.in-Ok.rest.now (without_serials c.args.kind c.args.serials.now)
    (was.item.literal, was.item.prefixed) was.child.nodes now.child.nodes now.child.nodes c.requires on.front
    ∙ ap (λ key. held_in key (node_contents was)) (sym on.key_is))

pub remove_behind-returns-in-Ok-clause-taken : goal.remove_behind-returns-in-Ok-clause-taken
remove_behind-returns-in-Ok-clause-taken t c =
    let f = without_serials c.args.kind c.args.serials.now in let on = c.in-Ok.ensures.goes in
    let was = c.args.node.now in let now = c.step.new.node in let left = c.remove_in_place.new.self in
    let all = left_behind was.item.tail c.in-Ok.rest.now f (was.item.literal, was.item.prefixed) was.child.nodes
    now.child.nodes left.nodes c.requires on.front c.remove_in_place.ensures.taken in
    let key_is = subst (λ key. ChangedAt key f (node_contents was)
    (kept_behind was.item.tail ((was.item.literal, was.item.prefixed), trie_of left.nodes))) (sym on.key_is) all in
    subst (λ (i : Item). ChangedAt c.args.key.now f (node_contents was)
    (kept_behind i.tail ((i.literal, i.prefixed), trie_of left.nodes))) (sym on.item) key_is

pub remove_behind-returns-in-Err-clause-taken : goal.remove_behind-returns-in-Err-clause-taken
remove_behind-returns-in-Err-clause-taken t c =
    let f = without_serials c.args.kind c.args.serials.now in let stays = c.in-Err.ensures.stays in
    let was = c.args.node.now in let here = c.change_places.new.self in let after = c.remove_here-found.new.self in
    let left = c.change_places-in-Err in
    let tail : here.tail ≡ was.item.tail = c.change_places.ensures.tail ∙ ap (λ (i : Item). i.tail) stays.item in
    done_in c.args.key.now f was left.new.node here after tail (c.change_places.ensures.end ∙ stays.end)
    left.ensures.node_tail left.ensures.node_end
    (subst (λ key. ChangedAt key f (contents here) (contents after))
    (ap (λ bytes. take c.in-Err.count bytes ++ c.in-Err.rest.now) tail ∙ sym stays.parts.key_is)
    c.remove_here-found.ensures.taken)

pub remove_behind-returns-else-levels-gt0-clause-taken : goal.remove_behind-returns-else-levels-gt0-clause-taken
remove_behind-returns-else-levels-gt0-clause-taken t c =
    let here = c.change_places-else-levels-gt0 in let left = c.change_places-else-levels-gt0-2 in
    done_in c.args.key.now (without_serials c.args.kind c.args.serials.now) c.args.node.now left.new.node
    here.new.self c.remove_far-found.new.self here.ensures.tail here.ensures.end left.ensures.node_tail
    left.ensures.node_end c.remove_far-found.ensures.taken

pub remove_behind-remove_in_place-requires : goal.remove_behind-remove_in_place-requires
remove_behind-remove_in_place-requires t c =
    let on = c.in-Ok.ensures.goes in (
      omega (arith, c.decreases, c.if-levels-gt0.true),
      (
        on.front.leads,
        neat_on c.args.key.now c.in-Ok.rest.now (without_serials c.args.kind c.args.serials.now) c.args.node.now
            c.step.new.node c.step.new.node c.requires on,
      ),
    )
