-- A link's one machine value, and the first node behind it.
--     word              a pointer in a struct of its own
--     apart, together   a link by value is what it owns behind its pointer
--     first_of          where there is a node, it lies between two links
--     sees_first        what is lent of the nodes has a `&` to the first of them, which lies in a block
--     tells_null        what is lent of the nodes tells whether the pointer is null
--     has_first, is_first     what is owned of the nodes: that the pointer may be compared with null, and the first of
-- them as a box owns it
use Rattle.kob_prefix_tree.proofs.Words.{nat_tests, arith, !, Al, Fml, Global, Goal, InBlock, IsTrue, Item, Laws, Leads, Lft, Link, List, Logic, Node, Ptr, RattleType, SProp, Seq, Step, Testable, Tree, Ty, Typed, Ura, Val, Valss, WT, [], at_block, block_of, block_ptr, box_owns, count_of, dealloc_token-Testable, dnil, done, emp, ent, fact, fact_i, fact_use, feq_i, feq_l, fjoin, flt_l, fpack, fpick, fsplit, has_ty, heard, hidden_shr, hide, id⊢, impl, in_block_says, leaf, lent_at, linked_row, lit<, lone, low, node, nodes_lent, nodes_own, null_ptr, of_list, param, param_laws, ptr_same, ptr_val, qed, raw, refl, sem, sep, shape, split, step, subst, sym, tnil, tree_of, true≢false, use0, use1, vnull, vstruct, within, ‵, ◌$◌, ◌++◌, ◌↔◌, ◌∙◌, ◌∷◌, ◌≡◌, ◌⊛◌}
use denote.Builtin.{RawPtr}
use denote.Steps.{nothing}
use types.Kit.{drop}
use lib.Dec.{T as IsFit}
use Rattle.std.specs.contracts.alloc.Global as heap
use Rattle.std.proofs.alloc.Global.TheLaws as heap_laws
use Rattle.kob_prefix_tree.proofs.node.Node.TheLaws as block_laws
use Rattle.kob_prefix_tree.proofs.link.Link.TheLaws as link_laws
use denote.Memory.{part_of}
use Rattle.std.specs.contracts.impls.GlobalAllocator.TheImpl.{ghosts as heap_rights}
use Rattle.kob_prefix_tree.specs.contracts.link.Link as link

pub first_of : {X : Type 0} (t : Tree X) → Leads t → (n : Node X (Link X) (Link X)) × (t ≡ tree_of n)
first_of leaf leads = absurd (leads refl)
first_of (node item heap c below n after) leads = (
  record {
    alloc = heap;
    child = record { nodes = below; first = c };
    next = record { nodes = after; first = n };
    item = item;
  },
  refl,
)

abbrev pub is_node : {X : Type 0} → Tree X → Type 0
is_node leaf = Unit {0}
is_node (node item heap c below n after) = ⊥

abbrev pub word : Ptr → Val
word p = vstruct (of_list (ptr_val p ∷ []))

-- the pointer is null where there is no node
abbrev IsNull : {X : Type 0} → Tree X → Ptr → Type 0
IsNull t p = IsTrue (ptr_same (ptr_val p) vnull) ↔ (t ≡ leaf)

-- at a type parameter, of which each value is one machine value, so that a node's layout can be read off
module _ (Y : RattleType) where
  abbrev Item' : RattleType
  Item' = param 0 Y

  abbrev Linked : RattleType
  Linked = link.the_row Item'

  module _ {World : Type 1} {ghosts : Ura World} {logic : Logic ghosts} {Mark : Type 0} {held : List (Item ghosts)}
      {goal : Goal ghosts logic.H} where
    pub apart : Mark → (l : Linked.Denot) (words : List Val)
        → (words ≡ word l.first ∷ [] → Seq Mark logic (‵ (nodes_own Item' l.nodes l.first) ∷ held) goal)
        → Seq Mark logic (‵ (Linked.own_val l words) ∷ held) goal
    apart mark l words rest =
        fsplit mark $ fpick mark (λ fields. fsplit mark $ feq_l mark (λ is_struct. fsplit mark $
        feq_l mark (λ is_pointer. drop mark $
        rest (is_struct ∙ (λ i. vstruct (of_list (is_pointer i ++ [])) ∷ [])))))

    pub together : Mark → (l : Linked.Denot) → Step Mark logic (‵ (Linked.own_val l (word l.first ∷ [])) ∷ held) goal
        (‵ (nodes_own Item' l.nodes l.first) ∷ held) goal
    together mark l = step (λ rest.
        let pointer : List Val = ptr_val l.first ∷ [] in let whole : List Val = word l.first ∷ [] in
        nothing mark $ feq_i mark (List Val) pointer pointer refl $ fjoin mark $
        feq_i mark (List Val) whole whole refl $ fjoin mark $
        fpack mark (Valss (RawPtr ∷ [])) (within (shape (link.the_type Item')) (l.first, tt) whole) (pointer, tt) $
        fjoin mark $ rest)

    pub tells_null : Mark → (t : Tree Y.Denot) (p : Ptr) (life : Lft)
        → (Testable p → IsNull t p → Seq Mark logic held goal)
        → Seq Mark logic (‵ (nodes_lent Item' t p life) ∷ held) goal
    tells_null mark leaf p life rest = feq_l mark (λ at_null.
        rest (subst Testable (sym at_null) (lit< tt)) (subst (IsNull none) (sym at_null) null_at_none))
      where
        none : Tree Y.Denot
        none = leaf

        null_at_none : IsNull none null_ptr
        null_at_none = ((λ _. refl), (λ _. refl))
    tells_null mark (node item heap c below n after) p life rest =
        fsplit mark $ flt_l mark (λ may_ask. fsplit mark $
        use1 logic (raw (fact ghosts (InBlock p))) (in_block_says logic p) $ heard mark (InBlock p) (λ lies. drop mark $
        rest may_ask (subst (IsNull (node item heap c below n after)) (sym (at_block p lies))
        ((λ wrong. absurd (true≢false (sym wrong))), (λ none. absurd (subst is_node (sym none) tt))))))

    pub sees_first : Mark → (first : Node Y.Denot (Link Y.Denot) (Link Y.Denot)) (p : Ptr) (life : Lft)
        → (p ≡ block_ptr (block_of p) (count_of p)
        → Seq Mark logic (‵ (hidden_shr (linked_row Item') life first (block_of p) (count_of p)) ∷ held) goal)
        → Seq Mark logic (‵ (nodes_lent Item' (tree_of first) p life) ∷ held) goal
    sees_first mark first p life rest =
        use1 logic (‵ (low Item' p) ⊛ ‵ (lent_at (linked_row Item') p first life)) (id⊢ ghosts _) $ split mark $
        drop mark $ fsplit mark $ use1 logic (raw (fact ghosts (InBlock p))) (in_block_says logic p) $
        heard mark (InBlock p) (λ lies. hide mark $ rest (at_block p lies))

  module _ {World : Type 1} {ghosts : Ura World} (logic : Logic ghosts)
      (first : Node Y.Denot (Link Y.Denot) (Link Y.Denot)) where
    abbrev boxed : Ptr → SProp ghosts
    boxed p =
        let boxes = box_owns (heap_rights.dealloc_token first.alloc) (linked_row Item') p first in
        sep ghosts (sem logic (low Item' p)) (sem logic boxes)

    pub has_first : (p : Ptr) → ent ghosts (sem logic (nodes_own Item' (tree_of first) p)) (boxed p)
    unfolding part_of
    has_first p = grind (arith, nat_tests)

    pub is_first : (p : Ptr) → ent ghosts (boxed p) (sem logic (nodes_own Item' (tree_of first) p))
    unfolding part_of
    is_first p = grind (arith, nat_tests)

-- a value of one MIR type is one machine value
pub one_value : (type : Ty) (values : List Val) → Typed (type ∷ []) values
    → (only : Val) × ((values ≡ only ∷ []) × (IsFit (has_ty type only) × WT only))
one_value type values typed = grind (arith, nat_tests)

pub word_fits : (Y : RattleType) (p : Ptr) → IsFit (has_ty (lone (Linked Y).mir) (word p)) × WT (word p)
word_fits Y p = grind (arith, nat_tests)

-- the heap as the steps about an allocator's handle take it
abbrev pub the_heap : Al
the_heap =
    let none = impl [] tnil dnil in
    record { d = none; drops = none; g = heap_rights; row = heap.the_row; laws = heap_laws.the_row_laws }

-- a node's laws
pub node_laws : (Y : RattleType) → Laws Y → Laws (linked_row (Item' Y))
node_laws Y laws =
    let of_item = param_laws 0 Y laws in let of_link = link_laws.the_row_laws (Item' Y) of_item in
    block_laws.the_row_laws (Item' Y) (Linked Y) (Linked Y) of_item of_link of_link

module _ {World : Type 1} {ghosts : Ura World} (logic : Logic ghosts) (heap_of : Global) (freed : Ty) (p : Ptr) where
  abbrev may_free : Fml
  may_free = heap_rights.dealloc_token heap_of freed p

  -- who may free a block may compare its pointer with null
  low_if_freed : ent ghosts (sem logic may_free) (sep ghosts (fact ghosts (Testable p)) (sem logic may_free))
  low_if_freed = fact_use ghosts (Testable p) (dealloc_token-Testable logic heap_of freed p) (λ is_low.
      let both = sep ghosts (fact ghosts (Testable p)) (sem logic may_free) in
      qed logic (‵ may_free ∷ []) {P = both}
      (use0 logic (raw (fact ghosts (Testable p))) (fact_i ghosts (Testable p) (emp ghosts) is_low) $ done !))

module _ {World : Type 1} {ghosts : Ura World} {logic : Logic ghosts} {Mark : Type 0} {held : List (Item ghosts)}
    {goal : Goal ghosts logic.H} where
  pub testable : Mark → (heap_of : Global) (freed : Ty) (p : Ptr)
      → (Testable p → Seq Mark logic (‵ (may_free logic heap_of freed p) ∷ held) goal)
      → Seq Mark logic (‵ (may_free logic heap_of freed p) ∷ held) goal
  testable mark heap_of freed p rest =
      use1 logic (raw (fact ghosts (Testable p)) ⊛ ‵ (may_free logic heap_of freed p))
      (low_if_freed logic heap_of freed p) $ split mark $ heard mark (Testable p) rest
