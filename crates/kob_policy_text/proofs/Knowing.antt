-- A text that is put last in a list, and as a key in the tree beside it.
use Rattle.kob_policy_text.proofs.Words.{List, [], list_any, sym, true, ℕ, ◌++◌, ◌∙◌, ◌∷◌, ◌≡◌, ap}
use Rattle.std.proofs.Common.{false, ◌||◌}
use Rattle.std.proofs.lemmas.List.Folds.{list_any-append}
use Rattle.kob_names.specs.Same.{same_text}
use Rattle.kob_policy_review.proofs.Keys.{key_put}
use Rattle.kob_policy_review.specs.Finding.{is_held}
use Rattle.kob_prefix_tree.proofs.HeldLaws.{held_empty}
use Rattle.kob_prefix_tree.specs.Held.{Held, PrefixMap, added}
use Rattle.kob_prefix_tree.specs.declared.kind.PatternKind.TheVariants.{Literal}
use Rattle.std.specs.FinMap as map
use Rattle.kob_policy_text.specs.AtHand.{is_known}

pub none_held : (text : List ℕ) → is_known [] text ≡ is_held map.empty text
none_held text = sym (ap (λ (h : Held). list_any (λ _. true) h.0) (held_empty text))

pub put_held : (texts : List (List ℕ)) (keys : PrefixMap) (key : List ℕ)
    → ((text : List ℕ) → is_known texts text ≡ is_held keys text)
    → (text : List ℕ) → is_known (texts ++ key ∷ []) text ≡ is_held (added keys key Literal 0) text
put_held texts keys key same text =
    list_any-append (same_text text) texts (key ∷ [])
    ∙ ap (λ b. b || (same_text text key || false)) (same text)
    ∙ sym (key_put keys key text)
