-- The block of a first node, which the pointer to it owns.
--     may_free      the right to give the block back
-- open_first    such a pointer leads to a block, where the node lies; with it come the right to free the block, and
-- that the pointer may be compared with null
--     close_first   with these three it is such a pointer again, whatever node lies there now
use Rattle.kob_prefix_tree.proofs.Words.{Fml, Global, Goal, Item, Link, List, Logic, Node, Ptr, RattleType, Seq, Step, Ura, [], block_ptr, box_owns, fjoin, fsplit, fst∗, full_share, in_a_block, linked_row, lone, low, move, never, nodes_own, null_ptr, param, part_at, refl, rewrite, sem, split, step, tree_of, use1, use2, ‵, ℕ, ◌$◌, ◌∷◌, ◌≡◌, ◌⊛◌, Bor, Laws, Lft, RawPtr, RawPtr-laws, Share, Shut, Soaks, Struct, Val, cell_at, coded_ptr, fat, feq, feq_i, feq_l, fhide, flft, fsep, ftrue, hidden_shr, hide, join, lent_out, looks, nodes_lent, param_laws, plain_Copied, ptr_own, ptr_val, rawptr_pure, shape, shr_dup, shr_vals, shuts, sym, ty_ptr, unhide, ◌+◌}
use mir.Raw.{raw as bare}
use denote.Memory.{part_of}
use Rattle.std.specs.contracts.impls.GlobalAllocator.TheImpl.{ghosts as heap_rights}
use Rattle.kob_prefix_tree.proofs.Firsts.{has_first, is_first}
use types.Kit.{drop}
use Rattle.kob_prefix_tree.specs.contracts.link.Link as link
use Rattle.kob_prefix_tree.proofs.link.Link.TheLaw.Met as law

module _ (Y : RattleType) where
  abbrev Item' : RattleType
  Item' = param 0 Y

  abbrev pub FirstNode : Type 0
  FirstNode = Node Y.Denot (Link Y.Denot) (Link Y.Denot)

  abbrev pub may_free : Global → Ptr → Fml
  may_free heap p = heap_rights.dealloc_token heap (bare (lone (linked_row Item').mir)) p

  module _ {World : Type 1} {ghosts : Ura World} {logic : Logic ghosts} {Mark : Type 0} {held : List (Item ghosts)}
      {goal : Goal ghosts logic.H} where
    pub open_first : Mark → (first : FirstNode) (pointer : Ptr)
        → ((b o : ℕ) → pointer ≡ block_ptr b o
        → Seq Mark logic (‵ (part_at (linked_row Item') full_share first b o) ∷
        ‵ (may_free first.alloc (block_ptr b o)) ∷ ‵ (low Item' (block_ptr b o)) ∷ held) goal)
        → Seq Mark logic (‵ (nodes_own Item' (tree_of first) pointer) ∷ held) goal
    open_first mark first pointer rest =
        let owned : Ptr → Fml = λ q. box_owns (heap_rights.dealloc_token first.alloc) (linked_row Item') q first in
        use1 logic (‵ (low Item' pointer) ⊛ ‵ (owned pointer)) (has_first Y logic first pointer) $ split mark $
        move mark (1 ∷ []) $
        in_a_block mark pointer owned
        (fst∗ ghosts (never ghosts) (sem logic (may_free first.alloc null_ptr))) (λ b o leads.
        fsplit mark $ rewrite mark 2 (λ (q : Ptr). ‵ (low Item' q)) leads refl $ rest b o leads)

    pub close_first : Mark → (first : FirstNode) (b o : ℕ)
        → Step Mark logic (‵ (nodes_own Item' (tree_of first) (block_ptr b o)) ∷ held) goal
        (‵ (part_at (linked_row Item') full_share first b o) ∷ ‵ (may_free first.alloc (block_ptr b o)) ∷
        ‵ (low Item' (block_ptr b o)) ∷ held) goal
    unfolding part_of
    close_first mark first b o = step (λ rest.
        fjoin mark $ move mark (1 ∷ 0 ∷ []) $ use2 logic (‵ (nodes_own Item' (tree_of first) (block_ptr b o)))
        (is_first Y logic first (block_ptr b o)) $ rest)

-- A link that is looked at through a `&`, the one parameter of a function.
--     Look             such a parameter: a life, and a `&` of that life
--     linked_there     the link lies where the `&` leads
--     arrived          the tokens, and the `&` by value
--     enters, ends     what such a function finds, and what it leaves of it
--     with_pointer     the place of that pointer, open, until it is shut
--     shut_pointer     shut again

module _ (Y : RattleType) (life : Lft) (look : Bor (Link Y.Denot)) where
  abbrev Looked : RattleType
  Looked = link.the_row (param 0 Y)

  abbrev pub linked_there : Fml
  linked_there = hidden_shr Looked life look.now look.ref_ptr.0 look.ref_ptr.1

  abbrev pub nodes_there : Fml
  nodes_there = nodes_lent (param 0 Y) look.now.nodes look.now.first life

  abbrev pub pointer_there : Fml
  pointer_there = hidden_shr RawPtr life look.now.first look.ref_ptr.0 (look.ref_ptr.1 + 0)

  -- the one parameter, by value
  abbrev pub given : Fml
  given = fsep (fsep (feq (List Val) (shr_vals look) (shr_vals look)) linked_there) ftrue

  module _ {World : Type 1} {ghosts : Ura World} {logic : Logic ghosts} {Mark : Type 0} {held : List (Item ghosts)}
      {goal : Goal ghosts logic.H} (token : Fml) (others : Item ghosts) where
    pub ends : Mark → Step Mark logic ((‵ token ⊛ others) ∷ ‵ given ∷ held) goal
        (‵ linked_there ∷ ‵ ftrue ∷ ‵ token ∷ others ∷ held) goal
    ends mark = step (λ rest.
        feq_i mark (List Val) (shr_vals look) (shr_vals look) refl $ fjoin mark $ fjoin mark $
        move mark (1 ∷ 2 ∷ []) $ join mark $ rest)

    -- [what is lent of the nodes; the pointer; the token; the link; nothing; the other tokens]
    pub enters : Mark → Laws Y
        → Step Mark logic (‵ nodes_there ∷ ‵ pointer_there ∷ ‵ token ∷ ‵ linked_there ∷ ‵ ftrue ∷ others ∷ held) goal
        (((‵ token ⊛ others) ⊛ ‵ given) ∷ held) goal
    enters mark laws = step (λ rest.
        let Fields : RattleType = Struct (shape (link.the_type (param 0 Y))) in
        let l = look.now in let b = look.ref_ptr.0 in let o = look.ref_ptr.1 in
        split mark $ split mark $ move mark (2 ∷ []) $ fsplit mark $ fsplit mark $ drop mark $
        -- [the link; nothing; the token; the other tokens]
        shr_dup mark Looked (law.shares (param 0 Y) (param_laws 0 Y laws)).shr_laws l b o life $
        use1 logic
        (‵ (hidden_shr Fields life (l.first, tt) b o) ⊛ ‵ (fhide (link.the_lent (param 0 Y) l l.first life)))
        (lent_out logic (link.struct (param 0 Y)) (link.the_codes Y.Denot (param 0 Y).coded)
        (link.the_heap (param 0 Y)) (link.the_lent (param 0 Y)) life l b o) $ split mark $
        -- of the fields that the struct lends, the pointer is the only one
        unhide mark $ fsplit mark $ fsplit mark $ hide mark $ move mark (3 ∷ []) $ unhide mark $
        move mark (2 ∷ 3 ∷ []) $ drop mark $ drop mark $ move mark (0 ∷ 1 ∷ 4 ∷ []) $ rest)

-- a pointer that is known to be `known`, in its place
module _ (pointer known : Ptr) (is : pointer ≡ known) (b o : ℕ) where
  module _ {World : Type 1} {ghosts : Ura World} where
    abbrev holds : Share → Ptr → Item ghosts
    holds part p = ‵ (fat part ty_ptr b o (ptr_val p))

  module _ {World : Type 1} {ghosts : Ura World} {logic : Logic ghosts} {Mark : Type 0} {held : List (Item ghosts)}
      {goal : Goal ghosts logic.H} {life : Lft} {share : Share} where
    pub with_pointer : Mark → Soaks goal → ((part : Share) → Seq Mark logic
        (holds part known ∷ Shut logic life share (part_at RawPtr part pointer b o) ∷ held) goal)
        → Seq Mark logic (‵ (hidden_shr RawPtr life pointer b o) ∷ ‵ (flft life share) ∷ held) goal
    with_pointer mark soaks rest =
        let by_copy = plain_Copied logic Ptr coded_ptr (ty_ptr ∷ []) ptr_own rawptr_pure ptr_val RawPtr-laws.tells in
        looks mark soaks RawPtr by_copy.opens pointer b o (λ part words. move mark (3 ∷ 1 ∷ []) $ drop mark $
        feq_l mark (λ are. rewrite mark 0 (λ (those : List Val). ‵ (cell_at part RawPtr.mir those b o)) are refl $
        rewrite mark 0 (holds part) is refl $ rest part))

    pub shut_pointer : Mark → Soaks goal → {part : Share} → Step Mark logic (‵ (flft life share) ∷ held) goal
        (holds part known ∷ Shut logic life share (part_at RawPtr part pointer b o) ∷ held) goal
    shut_pointer mark soaks {part} = step (λ rest.
        let words : List Val = ptr_val pointer ∷ [] in
        rewrite mark 0 (holds part) (sym is) refl $ feq_i mark (List Val) words words refl $ move mark (1 ∷ []) $
        shuts mark soaks RawPtr part pointer words b o $ rest)
