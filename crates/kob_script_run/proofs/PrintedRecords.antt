-- Records and topics that are printed one after another.
use Rattle.std.proofs.Common.{List, Some, [], ap, append-nil, arith, codes, subst, append_assoc, flat_map, refl, slice_get, sym, take, ℕ, ◌++◌, ◌+◌, ◌∙◌, ◌∷◌, ◌≡◌}
use Rattle.std.proofs.lemmas.Grind.{flat_map-append}
use Rattle.std.specs.Fmt.{decimal}
use Rattle.std.specs.List.{enumerate_from}
use Rattle.kob_names.specs.declared.record.Record.{Record}
use Rattle.kob_partition.proofs.Keeping.{numbered_more}
use Rattle.kob_rights.specs.declared.reply.Body.TheVariants.{Records, Topics}
use Rattle.kob_rights.specs.declared.reply.Reply.TheVariants.{Done}
use Rattle.kob_script.specs.Printed.{record_item, reply_text, topic_item}

module _ (n at : ℕ) (xs : List Record) (x : Record) (there : Some x ≡ slice_get xs at) where
  abbrev before : List (ℕ × Record)
  before = enumerate_from n (take at xs)

  one_more : flat_map record_item (enumerate_from n (take (at + 1) xs)) ≡ flat_map record_item before ++ record_item (n + at, x)
  one_more =
      let here : at ≡ 0 + at = omega arith in
      ap (flat_map record_item) (sym (numbered_more n 0 at xs x before (before ++ (n + at, x) ∷ [])
      (subst (λ k. Some x ≡ slice_get xs k) here there) refl refl))
      ∙ flat_map-append record_item before ((n + at, x) ∷ [])
      ∙ ap (λ l. flat_map record_item before ++ l) (append-nil (record_item (n + at, x)))

  -- one record more
  pub record_put : (start old new : List ℕ) → old ≡ start ++ flat_map record_item before
      → new ≡ old ++ record_item (n + at, x)
      → new ≡ start ++ flat_map record_item (enumerate_from n (take (at + 1) xs))
  record_put start old new so_far put =
      put ∙ ap (λ l. l ++ record_item (n + at, x)) so_far
      ∙ append_assoc start (flat_map record_item before) (record_item (n + at, x))
      ∙ ap (λ l. start ++ l) (sym one_more)

-- the reply that has the records
pub reply_put : (number first : ℕ) (records : List Record) (start one two three four five : List ℕ)
    → one ≡ start ++ decimal number → two ≡ one ++ codes " ok " → three ≡ two ++ codes "records"
    → four ≡ three ++ flat_map record_item (enumerate_from first records) → five ≡ four ++ codes "\n"
    → five ≡ start ++ reply_text number (Done (Records (enumerate_from first records)))
reply_put number first records start one two three four five is_one is_two is_three is_four is_five =
    grind (arith, append_assoc)

-- the reply that has the topics
pub topics_put : (number : ℕ) (topics : List (List ℕ × ℕ)) (start one two three four five : List ℕ)
    → one ≡ start ++ decimal number → two ≡ one ++ codes " ok " → three ≡ two ++ codes "topics"
    → four ≡ three ++ flat_map topic_item topics → five ≡ four ++ codes "\n"
    → five ≡ start ++ reply_text number (Done (Topics topics))
topics_put number topics start one two three four five is_one is_two is_three is_four is_five =
    grind (arith, append_assoc)
