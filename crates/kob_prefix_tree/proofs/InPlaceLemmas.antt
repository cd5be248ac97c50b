-- A change made in place: the node in front of some siblings, and what is changed behind its first byte.
use Rattle.kob_prefix_tree.proofs.Words.{[], Branch, ChangedAt, Contents, EndsAt, Held, IsNeat, Leads, LeadsNowhere, Link, Node, Parts, Some, Tree, Trie, List, ap, arith, bare, behind_one, cond, contents, end_of, eq-eqb, held_in, kept_behind, leaf, led_by, length, nat_tests, node, refl, sibling, siblings, subst, sym, tree_of, trie_of, value_at, void, with_child, without, ℕ, ◌++◌, ◌∙◌, ◌∷◌, ◌≡◌, ◌≢◌}
use Rattle.kob_prefix_tree.specs.Contents.{ChangedInFront, GoesOn, IsInFront, LeftInFront, StaysAt, first_byte, first_contents, node_contents, node_end, others_of}
use Rattle.kob_prefix_tree.specs.declared.siblings.Item.{Item}
use Rattle.kob_prefix_tree.proofs.PartsLemmas.{ends}
use Rattle.kob_prefix_tree.proofs.WalkLemmas.{some_key}
use Rattle.std.specs.Prelude.{Err, Ok, OnErr, OnOk, Result}
use Rattle.kob_prefix_tree.proofs.WayLemmas.{at_first, bare_when, below_byte, bytes_decide, child_put, done_behind, held_in_bare, held_inside, kept_some, neat_at, neat_inside, neat_list, tail_of_bare, through}

-- the node in front, and those after it
pub in_front_as : (t : Tree Item) → Leads t
    → trie_of t ≡ sibling (first_byte t) (first_contents t).0 (first_contents t).1 (others_of t)
in_front_as leaf leads = absurd (leads refl)
in_front_as (node item heap c below n after) leads = refl

without_first : {A : Type 0} (byte : ℕ) (v : A) (xs : List (ℕ × A)) → xs ≡ without byte ((byte, v) ∷ xs)
without_first byte v xs = sym (ap (λ b. cond b xs ((byte, v) ∷ without byte xs)) (eq-eqb byte byte refl))

-- the node is in front already
pub is_in_front : (t : Tree Item) → Leads t → IsInFront (first_byte t) t t
is_in_front leaf leads = absurd (leads refl)
is_in_front (node item heap c below n after) leads =
    let first = first_contents (node item heap c below n after) in record {
      leads = leads;
      byte_is = refl;
      there = at_first item.byte first (siblings (trie_of after));
      others = without_first item.byte first (siblings (trie_of after));
    }

-- it was put there
pub put_in_front : (byte : ℕ) (c : Contents) (t : Trie) (old new : Tree Item)
    → value_at byte (siblings (trie_of old)) ≡ Some c → siblings t ≡ without byte (siblings (trie_of old))
    → trie_of new ≡ sibling byte c.0 c.1 t → IsInFront byte old new
put_in_front byte c t old leaf there without put = cc
put_in_front byte c t old (node item heap first below n after) there without put = record {
  leads = λ e. cc;
  byte_is = grind arith;
  there = grind arith;
  others = grind arith;
}

abbrev pub ByteNode : Type 0
ByteNode = Node Item (Link Item) (Link Item)

leads_somewhere : (h : Held) (t : Tree Item) → Leads t → (h, trie_of t) ≢ bare
leads_somewhere h leaf leads = absurd (leads refl)
leads_somewhere h (node item heap c below n after) leads =
    λ e. let v : trie_of (node item heap c below n after) ≡ void = ap (λ (y : Contents). y.1) e in cc

-- what is done behind the node in front, where something stays
module _ (tail rest : List ℕ) (f : Held → Held) (h : Held) (old mid new : Tree Item)
    (neat : IsNeat (led_by tail (h, trie_of old)).1) (front : IsInFront (first_byte mid) old mid) where
  inside : IsNeat (trie_of old)
  inside = neat_inside tail (h, trie_of old) neat

  pub neat_in_front : IsNeat (first_contents mid).1
  neat_in_front =
      (neat_at (first_byte mid) (first_contents mid) (siblings (trie_of old)) (neat_list (trie_of old) inside)
      front.there).1

  pub changed_behind : ChangedInFront rest f mid new → first_contents new ≢ bare
      → ChangedAt (tail ++ first_byte mid ∷ rest) f (led_by tail (h, trie_of old)) (led_by tail (h, trie_of new))
  changed_behind changed some =
      let byte = first_byte mid in let d = first_contents new in let others = others_of new in
      let below = below_byte f byte rest h (trie_of old) others (first_contents mid) d inside front.there
      (ap siblings changed.others ∙ front.others) changed.done in
      let new_is : with_child byte d others ≡ trie_of new =
      child_put byte d others some
      ∙ ap (λ b. sibling b d.0 d.1 others) (sym changed.byte_is)
      ∙ sym (in_front_as new changed.leads) in
      done_behind f tail (byte ∷ rest) (h, trie_of old) (h, trie_of new) neat
      (subst (λ t. ChangedAt (byte ∷ rest) f (h, trie_of old) (h, t)) new_is below)
      (leads_somewhere h new changed.leads)

-- the place of the node in front is not bare
module _ (tail : List ℕ) (h : Held) (old mid : Tree Item) (neat : IsNeat (led_by tail (h, trie_of old)).1)
    (front : IsInFront (first_byte mid) old mid) where
  pub some_in_front : first_contents mid ≢ bare
  some_in_front =
      (neat_at (first_byte mid) (first_contents mid) (siblings (trie_of old))
      (neat_list (trie_of old) (neat_inside tail (h, trie_of old) neat)) front.there).0

-- what is not bare stays so where nothing was done
pub some_stays : (key : List ℕ) (c d : Contents) → IsNeat c.1 → c ≢ bare → ChangedAt key (λ held. held) c d → d ≢ bare
some_stays key c d neat some done none =
    let (at, ne) = some_key c.0.0 c.0.1 c.1 neat some in
    grind (arith, nat_tests, bytes_decide at key, done.at, done.elsewhere at, held_in_bare)

pub on_ok : {T E : Type 0} (r : Result T E) {A B : Type 0} → (A → B) → OnOk r A → OnOk r B
on_ok (Ok x) f a = f a
on_ok (Err e) f a = a

pub on_err : {T E : Type 0} (r : Result T E) {A B : Type 0} → (A → B) → OnErr r A → OnErr r B
on_err (Ok x) f a = a
on_err (Err e) f a = f a

-- the same where the key goes on behind a node
module _ (key rest : List ℕ) (f : Held → Held) (was now left : ByteNode) (neat : IsNeat (node_contents was).1)
    (on : GoesOn key rest was now) where
  abbrev kept : Held
  kept = (was.item.literal, was.item.prefixed)

  pub neat_on : IsNeat (first_contents now.child.nodes).1
  neat_on = neat_in_front was.item.tail rest f kept was.child.nodes now.child.nodes left.child.nodes neat on.front

  pub done_on : left.item ≡ now.item → left.next ≡ now.next
      → ChangedInFront rest f now.child.nodes left.child.nodes → first_contents left.child.nodes ≢ bare
      → ChangedInFront key f (tree_of was) (tree_of left)
  done_on item next changed some =
      let byte = first_byte now.child.nodes in let item_is = item ∙ on.item in
      let done = changed_behind was.item.tail rest f kept was.child.nodes now.child.nodes left.child.nodes neat
      on.front changed some in
      record {
        leads = λ e. cc;
        byte_is = ap (λ (i : Item). i.byte) item_is;
        others = ap (λ (l : Link Item). trie_of l.nodes) (next ∙ on.next);
        done = subst (λ k. ChangedAt k f (node_contents was) (node_contents left)) (sym on.key_is)
            (subst (λ (i : Item). ChangedAt (was.item.tail ++ byte ∷ rest) f (node_contents was)
            (led_by i.tail ((i.literal, i.prefixed), trie_of left.child.nodes))) (sym item_is) done);
      }

-- Where nothing may be left.

-- the node in front is gone if nothing is left behind it, and stays otherwise
module _ (key : List ℕ) (f : Held → Held) (was : Tree Item) (left : ByteNode)
    (done : ChangedAt key f (first_contents was) (kept_behind left.item.tail (node_end left))) where
  pub gone : (now : Tree Item) → node_end left ≡ bare → trie_of now ≡ others_of was → LeftInFront key f was now
  gone now none is = record {
    left = bare;
    done = subst (ChangedAt key f (first_contents was)) (grind (arith, none, nat_tests)) done;
    nodes = is;
  }

  pub stayed : node_end left ≢ bare → left.item.byte ≡ first_byte was → trie_of left.next.nodes ≡ others_of was
      → LeftInFront key f was (tree_of left)
  stayed some byte others =
      let c = node_contents left in record {
        left = c;
        done = subst (ChangedAt key f (first_contents was)) (kept_some left.item.tail (node_end left) some) done;
        nodes = (λ i. sibling (byte i) c.0 c.1 (others i))
            ∙ sym (child_put (first_byte was) c (others_of was) (some_behind left.item.tail (node_end left) some));
      }
    where
      some_behind : (tail : List ℕ) (c : Contents) → c ≢ bare → led_by tail c ≢ bare
      some_behind tail c some none = some (sym (ap (λ bytes. led_by bytes c) (tail_of_bare tail c none)) ∙ none)

-- bytes that lead on to nothing are not neat
pub kept_neat : (tail : List ℕ) (c : Contents) → IsNeat (led_by tail c).1 → led_by tail c ≡ kept_behind tail c
kept_neat [] c neat = grind (arith, bare_when)
kept_neat (x ∷ tail) c neat = grind (arith, bare_when, neat.1.0, kept_neat tail c neat.1.1.0)

module _ (tail rest : List ℕ) (f : Held → Held) (h : Held) (old mid new : Tree Item)
    (neat : IsNeat (led_by tail (h, trie_of old)).1) (front : IsInFront (first_byte mid) old mid) where
  -- what is held behind the node in front
  pub held_in_front : held_in rest (first_contents mid) ≡ held_in (tail ++ first_byte mid ∷ rest) (led_by tail (h, trie_of old))
  held_in_front =
      ap (behind_one (held_in rest)) (sym front.there) ∙ held_inside tail (first_byte mid ∷ rest) (h, trie_of old)

  pub left_behind : LeftInFront rest f mid new
      → ChangedAt (tail ++ first_byte mid ∷ rest) f (led_by tail (h, trie_of old)) (kept_behind tail (h, trie_of new))
  left_behind left =
      let byte = first_byte mid in let others = others_of mid in
      let below = below_byte f byte rest h (trie_of old) others (first_contents mid) left.left
      (neat_inside tail (h, trie_of old) neat) front.there front.others left.done in
      through f tail (byte ∷ rest) (h, trie_of old) (h, trie_of new) neat
      (subst (λ t. ChangedAt (byte ∷ rest) f (h, trie_of old) (h, t)) (sym left.nodes) below)

-- what a branch that had the contents of a node had done to it, which the node has then
module _ (key : List ℕ) (f : Held → Held) (was left : ByteNode) (here after : Branch)
    (tail : here.tail ≡ was.item.tail) (end : end_of here ≡ node_end was) (tail_left : left.item.tail ≡ after.tail)
    (end_left : node_end left ≡ end_of after) where
  pub done_in : ChangedAt key f (contents here) (contents after)
      → ChangedAt key f (node_contents was) (kept_behind left.item.tail (node_end left))
  done_in done =
      let left_is : contents after ≡ kept_behind left.item.tail (node_end left) =
      kept_neat after.tail (end_of after) done.neat ∙ (λ i. kept_behind (sym tail_left i) (sym end_left i)) in
      subst (λ (c : Contents). ChangedAt key f c (kept_behind left.item.tail (node_end left)))
      (λ i. led_by (tail i) (end i)) (subst (ChangedAt key f (contents here)) left_is done)

-- it stays at a node, whose contents a branch has now
pub ends_in : (count : ℕ) (key rest : List ℕ) (was now : ByteNode) (here : Branch) → IsNeat (node_contents was).1
    → StaysAt count key rest was now → here.tail ≡ now.item.tail → end_of here ≡ node_end now
    → EndsAt count rest here
ends_in count key rest was now here neat stays tail end =
    let tail_is : here.tail ≡ was.item.tail = tail ∙ ap (λ (i : Item). i.tail) stays.item in
    let end_is = end ∙ stays.end in
    ends here here key rest count refl refl (subst (λ (c : Contents). IsNeat c.1) (λ i. led_by (sym tail_is i) (sym end_is i)) neat)
    (subst (λ bytes. Parts bytes key count rest) (sym tail_is) stays.parts)
    (λ all. subst (LeadsNowhere rest) (sym end_is) (stays.nowhere (all ∙ ap length tail_is)))
