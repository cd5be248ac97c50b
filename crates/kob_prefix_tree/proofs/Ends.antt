-- The end of a list of siblings: the place of the last node's `next`, taken out of what is owned of them all, and put
-- back with other siblings behind it.
--     end_offset          how far into a node its `next` lies
--     next_out, next_in   a node in memory is its `next` and the others of its fields, and with another link there
-- again a node
--     Closes              whatever link comes to lie at that place, the siblings go on with what it leads to
--     opens_end           the siblings, opened at their end
--     link_lies           a link by value, whose word lies at a place, lies there
--     closes_with         with a link at their end the siblings are closed again
use Rattle.kob_prefix_tree.proofs.Words.{ !, Fml, Goal, Item, Lawfuls, Laws, Leads, Link, List, Logic, Member, Node, PartsBack, Ptr, RattleType, SProp, Seq, Step, Tree, Ura, Val, [], align, all, all_e, ap, apply∗, assume, block_ptr, done, each, ent, fat, field_back, field_out, fields, full_share, group, if_none, last_of, leaf, linked_row, lone, low, move, node, nodes_own, param, param_laws, part_at, part_in, part_out, pick, qed, raw, refl, rest_at, rewrite, rows_of, sem, sep, some, split, step, subst, sym, tree_of, up, use1, use2, use3, vunit, wand, with_others, ‵, ℕ, ◌$◌, ◌+◌, ◌∵◌, ◌∷◌, ◌≡◌, ◌⊛◌}
use prog.Memory.{size}
use types.Kit.{drop}
use denote.Memory.{part_of}
use Rattle.std.proofs.alloc.Global.TheLaws as heap_laws
use Rattle.kob_prefix_tree.specs.contracts.link.Link as link
use Rattle.kob_prefix_tree.specs.contracts.node.Node as block
use Rattle.kob_prefix_tree.proofs.link.Link.TheLaws as link_laws
use Rattle.kob_prefix_tree.proofs.Blocks.{FirstNode, close_first, may_free, open_first}
use Rattle.kob_prefix_tree.proofs.Firsts.{word, apart, together, is_node}

-- the node with another link beside it
abbrev with_next : {X : Type 0} → Node X (Link X) (Link X) → Link X → Node X (Link X) (Link X)
with_next n l = record { item = n.item; child = n.child; next = l; alloc = n.alloc }

abbrev head : List Val → Val
head [] = vunit
head (v ∷ vs) = v

-- the first of some siblings, with others behind it
joined_one : {X : Type 0} (n : Node X (Link X) (Link X)) (l : Link X) → n.next.nodes ≡ leaf
    → with_others (tree_of n) l ≡ tree_of (with_next n l)
joined_one n l last i =
    node n.item n.alloc n.child.first n.child.nodes (if_none (last i) l.first n.next.first) (with_others (last i) l)

joined_more : {X : Type 0} (n : Node X (Link X) (Link X)) (l : Link X) → Leads n.next.nodes
    → with_others (tree_of n) l ≡ tree_of (with_next n
    (record { first = n.next.first; nodes = with_others n.next.nodes l }))
joined_more {X = X} n l leads i =
    node n.item n.alloc n.child.first n.child.nodes (there n.next.nodes leads i) (with_others n.next.nodes l)
  where
    there : (t : Tree X) → Leads t → if_none t l.first n.next.first ≡ n.next.first
    there leaf leads = absurd (leads refl)
    there (node item heap c below m after) leads = refl

module _ (Y : RattleType) (laws : Laws Y) where
  abbrev Item' : RattleType
  Item' = param 0 Y

  abbrev Linked : RattleType
  Linked = link.the_row Item'

  abbrev Kept : RattleType
  Kept = linked_row Item'

  abbrev each_member : List RattleType → List Member
  each_member [] = []
  each_member (first ∷ others) = record { ty = lone first.mir; row = first } ∷ each_member others

  abbrev members : List Member
  members = each_member (fields (block.the_type Item' Linked Linked))

  abbrev pub end_offset : ℕ
  end_offset =
      let behind_item = up (align (lone Item'.mir)) 0 + size (lone Item'.mir) in
      up (align (lone Linked.mir)) (up (align (lone Linked.mir)) behind_item + size (lone Linked.mir))

  -- the word of a link, at the end of the node at that place
  abbrev at_end : ℕ → ℕ → Val → Fml
  at_end b o v = fat full_share (lone Linked.mir) b (o + end_offset) v

  abbrev link_at : Link Y.Denot → ℕ → ℕ → Fml
  link_at l b at = part_at Linked full_share l b at

  module _ {World : Type 1} {ghosts : Ura World} (logic : Logic ghosts) where
    members_lawful : Lawfuls logic (rows_of members)
    members_lawful =
        let of_item = param_laws 0 Y laws in let of_link = (link_laws.the_row_laws Item' of_item).lawful logic in
        (of_item.lawful logic, (of_link, (of_link, (heap_laws.the_field_loose.lawful logic, tt))))

    abbrev Others : FirstNode Y → ℕ → ℕ → SProp ghosts
    Others n b o =
        let rest = rest_at full_share members 0 ((block.the_type Item' Linked Linked).to n) b o 2 in
        sep ghosts (sem logic rest) (PartsBack logic full_share [] members b o)

    abbrev Whole : FirstNode Y → ℕ → ℕ → SProp ghosts
    Whole n b o = sem logic (part_at Kept full_share n b o)

    next_out : (n : FirstNode Y) (b o : ℕ)
        → ent ghosts (Whole n b o) (sep ghosts (sem logic (link_at n.next b (o + end_offset))) (Others n b o))
    unfolding part_of
    next_out n b o =
        field_out logic full_share [] members members_lawful ((block.the_type Item' Linked Linked).to n) b o 2

    next_in : (n : FirstNode Y) (l : Link Y.Denot) (b o : ℕ)
        → ent ghosts (sep ghosts (sem logic (link_at l b (o + end_offset))) (Others n b o)) (Whole (with_next n l) b o)
    unfolding part_of
    next_in n l b o =
        field_back logic full_share [] members ((block.the_type Item' Linked Linked).to (with_next n l)) b o 2

    -- the siblings, once a link lies at the place where they end
    abbrev Closed : Tree Y.Denot → Ptr → ℕ → ℕ → Link Y.Denot → SProp ghosts
    Closed t p b at l = wand ghosts (sem logic (link_at l b at)) (sem logic (nodes_own Item' (with_others t l) p))

    abbrev pub Closes : Tree Y.Denot → Ptr → ℕ → ℕ → SProp ghosts
    Closes t p b at = all ghosts (Closed t p b at)

    -- all of a node but its link to the next
    abbrev AllBut : FirstNode Y → ℕ → ℕ → SProp ghosts
    AllBut n b o =
        let there = block_ptr b o in
        sep ghosts (Others n b o) (sep ghosts (sem logic (may_free Y n.alloc there)) (sem logic (low Item' there)))

    -- a node whose `next` is there again is the first behind its pointer
    node_again : (n : FirstNode Y) (l : Link Y.Denot) (b o : ℕ) (p : Ptr) → p ≡ block_ptr b o
        → ent ghosts (sep ghosts (sem logic (link_at l b (o + end_offset))) (AllBut n b o))
        (sem logic (nodes_own Item' (tree_of (with_next n l)) p))
    node_again n l b o p lies =
        let now = with_next n l in let there = block_ptr b o in
        qed logic
        (‵ (link_at l b (o + end_offset)) ∷ raw (Others n b o) ∷ ‵ (may_free Y n.alloc there) ∷ ‵ (low Item' there) ∷
        []) ∵
        use2 logic (‵ (part_at Kept full_share now b o)) (next_in n l b o) $ close_first Y ! now b o $
        rewrite ! 0 (λ (q : Ptr). ‵ (nodes_own Item' (tree_of now) q)) (sym lies) refl $ done !

  module _ {World : Type 1} {ghosts : Ura World} {logic : Logic ghosts} {Mark : Type 0} {held : List (Item ghosts)}
      {goal : Goal ghosts logic.H} where
    pub link_lies : Mark → (l : Link Y.Denot) (b at : ℕ) → Step Mark logic (‵ (link_at l b at) ∷ held) goal
        (‵ (nodes_own Item' l.nodes l.first) ∷ ‵ (fat full_share (lone Linked.mir) b at (word l.first)) ∷ held) goal
    link_lies mark l b at = step (λ rest.
        together Y mark l $ move mark (1 ∷ []) $
        use2 logic (‵ (link_at l b at)) (part_in logic Linked refl full_share l b at (word l.first)) $ rest)

    pub closes_with : Mark → (l : Link Y.Denot) (t : Tree Y.Denot) (p : Ptr) (b at : ℕ)
        → Step Mark logic (‵ (nodes_own Item' (with_others t l) p) ∷ held) goal
        (raw (Closes logic t p b at) ∷ ‵ (link_at l b at) ∷ held) goal
    closes_with mark l t p b at = step (λ rest.
        use1 logic (raw (Closed logic t p b at l)) (all_e ghosts (Closed logic t p b at) l) $ move mark (1 ∷ []) $
        use2 logic (‵ (nodes_own Item' (with_others t l) p))
        (apply∗ ghosts (sem logic (link_at l b at)) (sem logic (nodes_own Item' (with_others t l) p))) $ rest)

  module _ {World : Type 1} {ghosts : Ura World} (logic : Logic ghosts) (n : FirstNode Y) (b o : ℕ) (p : Ptr)
      (lies : p ≡ block_ptr b o) where
    -- the one node of its list
    closes_one : n.next.nodes ≡ leaf
        → ent ghosts (AllBut logic n b o) (Closes logic (tree_of n) p b (o + end_offset))
    closes_one last =
        let there = block_ptr b o in
        qed logic (raw (Others logic n b o) ∷ ‵ (may_free Y n.alloc there) ∷ ‵ (low Item' there) ∷ []) ∵
        each ! (Closed logic (tree_of n) p b (o + end_offset)) (λ l.
        assume ! (‵ (link_at l b (o + end_offset))) $ group ! 4 $
        use1 logic (‵ (nodes_own Item' (tree_of (with_next n l)) p)) (node_again logic n l b o p lies) $
        rewrite ! 0 (λ (t : Tree Y.Denot). ‵ (nodes_own Item' t p)) (sym (joined_one n l last)) refl $ done !)

    -- a node with others behind it, which close
    closes_more : (far place : ℕ) → Leads n.next.nodes
        → ent ghosts (sep ghosts (Closes logic n.next.nodes n.next.first far place)
        (sep ghosts (sem logic (at_end b o (word n.next.first))) (AllBut logic n b o)))
        (Closes logic (tree_of n) p far place)
    closes_more far place leads =
        let there = block_ptr b o in
        qed logic (raw (Closes logic n.next.nodes n.next.first far place) ∷ ‵ (at_end b o (word n.next.first)) ∷
        raw (Others logic n b o) ∷ ‵ (may_free Y n.alloc there) ∷ ‵ (low Item' there) ∷ []) ∵
        each ! (Closed logic (tree_of n) p far place) (λ l.
        let behind : Link Y.Denot = record { nodes = with_others n.next.nodes l; first = n.next.first } in
        assume ! (‵ (link_at l far place)) $ move ! (1 ∷ []) $
        closes_with ! l n.next.nodes n.next.first far place $
        -- [the others behind; the word of the link to them; the node's other fields; the right to free it; the
        -- comparison]
        link_lies ! behind b (o + end_offset) $ group ! 4 $
        use1 logic (‵ (nodes_own Item' (tree_of (with_next n behind)) p)) (node_again logic n behind b o p lies) $
        rewrite ! 0 (λ (t : Tree Y.Denot). ‵ (nodes_own Item' t p)) (sym (joined_more n l leads)) refl $ done !)

  module _ {World : Type 1} {ghosts : Ura World} {logic : Logic ghosts} {Mark : Type 0}
      {goal : Goal ghosts logic.H} where
    -- a node's block: the place of its link to the next, and the rest
    opens_node : Mark → (held : List (Item ghosts)) (n : FirstNode Y) (p : Ptr)
        → ((b o : ℕ) (v : Val) → p ≡ block_ptr b o → v ∷ [] ≡ word n.next.first ∷ []
        → Seq Mark logic (‵ (at_end b o v) ∷ ‵ (nodes_own Item' n.next.nodes n.next.first) ∷
        raw (Others logic n b o) ∷ ‵ (may_free Y n.alloc (block_ptr b o)) ∷ ‵ (low Item' (block_ptr b o)) ∷ held)
        goal)
        → Seq Mark logic (‵ (nodes_own Item' (tree_of n) p) ∷ held) goal
    opens_node mark held n p rest =
        open_first Y mark n p (λ b o lies.
        let place = o + end_offset in
        use1 logic (‵ (link_at n.next b place) ⊛ raw (Others logic n b o)) (next_out logic n b o) $ split mark $
        use1 logic (some (λ (v : Val). ‵ (at_end b o v) ⊛ ‵ (Linked.own_val n.next (v ∷ []))))
        (part_out logic Linked refl full_share n.next b place) $ pick mark (λ v. split mark $
        move mark (1 ∷ []) $ apart Y mark n.next (v ∷ []) (λ is_word. move mark (1 ∷ []) $ rest b o v lies is_word)))

    pub opens_end : Mark → (held : List (Item ghosts)) (t : Tree Y.Denot) (p : Ptr) → Leads t
        → ((b o : ℕ) (v : Val) → last_of t p ≡ block_ptr b o
        → Seq Mark logic (‵ (at_end b o v) ∷ raw (Closes logic t p b (o + end_offset)) ∷ held) goal)
        → Seq Mark logic (‵ (nodes_own Item' t p) ∷ held) goal
    opens_end mark held leaf p leads rest = absurd (leads refl)
    opens_end mark held (node item heap c below m leaf) p leads rest =
        let child : Link Y.Denot = record { first = c; nodes = below } in
        let next : Link Y.Denot = record { first = m; nodes = leaf } in
        let n : FirstNode Y = record { item = item; child = child; next = next; alloc = heap } in
        opens_node mark held n p (λ b o v lies is_word. move mark (1 ∷ []) $ drop mark $ move mark (1 ∷ 2 ∷ 3 ∷ []) $
        use3 logic (raw (Closes logic (tree_of n) p b (o + end_offset))) (closes_one logic n b o p lies refl) $
        move mark (1 ∷ []) $ rest b o v lies)
    opens_end mark held (node item heap c below m (node item' heap' c' below' m' after)) p leads rest =
        let behind = node item' heap' c' below' m' after in
        let child : Link Y.Denot = record { first = c; nodes = below } in
        let next : Link Y.Denot = record { first = m; nodes = behind } in
        let n : FirstNode Y = record { item = item; child = child; next = next; alloc = heap } in
        let more : Leads behind = λ e. subst is_node (sym e) tt in
        opens_node mark held n p (λ b o v lies is_word.
        rewrite mark 0 (λ (u : Val). ‵ (at_end b o u)) (ap head is_word) refl $ move mark (1 ∷ []) $
        opens_end mark
        (‵ (at_end b o (word m)) ∷ raw (Others logic n b o) ∷ ‵ (may_free Y n.alloc (block_ptr b o)) ∷
        ‵ (low Item' (block_ptr b o)) ∷ held)
        (node item' heap' c' below' m' after) m more (λ far place last there.
        move mark (1 ∷ 2 ∷ 3 ∷ 4 ∷ 5 ∷ []) $ group mark 5 $
        use1 logic (raw (Closes logic (tree_of n) p far (place + end_offset)))
        (closes_more logic n b o p lies far (place + end_offset) more) $ move mark (1 ∷ []) $
        rest far place last there))
