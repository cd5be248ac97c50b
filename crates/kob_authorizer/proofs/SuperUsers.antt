-- The tree of the super users' texts holds those that are listed, and no others.
use Rattle.kob_authorizer.proofs.Words.{List, PrefixMap, [], arith, bytes_eq-Decides, common_steps, fold, held_added_other, held_added_same, held_empty, holds_text, is_super, length, nat_tests, ne_eqb, not, or-false, or-true, or_assoc, same_text, sym, texts_of, true, with_text, ℕ, ◌++◌, ◌==◌, ◌||◌, ◌∷◌, ◌≡◌}
use Rattle.kob_prefix_tree.specs.declared.kind.PatternKind.TheVariants.{Literal}

-- a list that was added to is not empty
one_more : (xs : List ℕ) (x : ℕ) → not (length (xs ++ x ∷ []) == 0) ≡ true
one_more x0 x = grind (arith, common_steps, ne_eqb)

-- one more user's text is held
text_added : (texts : PrefixMap) (user text : List ℕ)
    → holds_text (with_text texts user) text ≡ (holds_text texts text || same_text text user)
text_added texts user text =
    let decided = bytes_eq-Decides text user in let put = held_added_same texts user Literal 0 in
    let beside = held_added_other texts user Literal 0 text in grind (arith, nat_tests, one_more, or-true, or-false)

texts_hold_beside : (texts : PrefixMap) (users : List (List ℕ)) (text : List ℕ)
    → holds_text (fold with_text texts users) text ≡ (holds_text texts text || is_super users text)
texts_hold_beside texts [] text = sym (or-false (holds_text texts text))
texts_hold_beside texts (user ∷ users) text =
    grind (arith, nat_tests, texts_hold_beside (with_text texts user) users text, text_added, or_assoc)

pub texts_hold : (users : List (List ℕ)) (text : List ℕ) → holds_text (texts_of users) text ≡ is_super users text
texts_hold users text = grind (arith, nat_tests, texts_hold_beside, held_empty)

pub ruleset listed_texts = (common_steps, texts_hold)
