-- The text of replies that are printed one after another, and which output a part of it belongs to.
use Rattle.kob_script_run.proofs.Words.{AppendsAllBut, AppendsPart, Event, List, Meaning, Option, Reply, State, [], add-zero, ap, append-nil, append_assoc, arith, get_or, length, length-take-le, nat_tests, refl, replies_of, replies_one_more, reply_text, state_after, state_one_more, step, subst, suc, sym, take, text_of_replies, ℕ, ◌++◌, ◌+◌, ◌<◌, ◌∙◌, ◌∷◌, ◌≡◌}
use Rattle.kob_script.specs.Printed.{replies_text}
use Rattle.kob_script_run.proofs.Parts.{all_held, goes_on, part_with_more, same_text}

replies_text_append : (number : ℕ) (xs ys : List Reply)
    → replies_text number (xs ++ ys) ≡ replies_text number xs ++ replies_text (number + length xs) ys
unfolding replies_text
replies_text_append number [] ys = ap (λ n. replies_text n ys) (sym (add-zero number))
replies_text_append number (x ∷ xs) ys =
    grind (arith, nat_tests, replies_text_append (number + 1) xs ys, append_assoc)

-- one reply more
text_push : (replies : List Reply) (reply : Reply)
    → text_of_replies (replies ++ reply ∷ []) ≡ text_of_replies replies ++ reply_text (length replies + 1) reply
unfolding replies_text
text_push replies reply = grind (arith, nat_tests, replies_text_append, append-nil)

module _ {P : Type 0} (m : Meaning P) where
  each_has_a_reply : (events : List Event) (s : State P) → length (replies_of m events s) ≡ length events
  each_has_a_reply [] s = refl
  each_has_a_reply (event ∷ events) s = ap (λ n. suc n) (each_has_a_reply events (step m s event).state)

  -- one event more, served where the run stands
  pub text_one_more : (events : List Event) (i : ℕ) (event : Event) (s now : State P) (text : List ℕ)
      → i < length events → event ≡ get_or events i event → now ≡ state_after m (take i events) s
      → text ≡ reply_text (i + 1) (step m now event).reply
      → text_of_replies (replies_of m (take (i + 1) events) s) ≡ text_of_replies (replies_of m (take i events) s) ++ text
  text_one_more events i event s now text below is stood printed =
      grind (
        arith,
        nat_tests,
        each_has_a_reply (take i events) s,
        length-take-le i events,
        replies_one_more m events i event s below is,
        text_push,
      )

  no_text : (events : List Event) (s : State P) → text_of_replies (replies_of m (take 0 events) s) ≡ []
  unfolding replies_text
  no_text events s = refl

  -- before the first event
  pub nothing_put : (events : List Event) (s : State P) (a : Option (List ℕ)) (held : List ℕ) → held ≡ []
      → AppendsAllBut a a (text_of_replies (replies_of m (take 0 events) s)) held
  nothing_put events s a held none =
      all_held a (text_of_replies (replies_of m (take 0 events) s)) held (none ∙ sym (no_text events s))

  pub state_put : (events : List Event) (i : ℕ) (event : Event) (s now next : State P) → i < length events
      → event ≡ get_or events i event → now ≡ state_after m (take i events) s → next ≡ (step m now event).state
      → next ≡ state_after m (take (i + 1) events) s
  state_put events i event s now next below is stood left = grind (arith, nat_tests, state_one_more)

  module _ (events : List Event) (i : ℕ) (event : Event) (s now : State P) (text : List ℕ) (below : i < length events)
      (is : event ≡ get_or events i event) (stood : now ≡ state_after m (take i events) s)
      (printed : text ≡ reply_text (i + 1) (step m now event).reply) (a b c : Option (List ℕ)) (held : List ℕ)
      (so_far : AppendsAllBut a b (text_of_replies (replies_of m (take i events) s)) held) where
    -- its reply was put behind what was held
    pub reply_put : (rest : List ℕ) → AppendsAllBut b c (held ++ text) rest
        → AppendsAllBut a c (text_of_replies (replies_of m (take (i + 1) events) s)) rest
    reply_put rest more =
        same_text a c (text_of_replies (replies_of m (take i events) s) ++ text)
        (text_of_replies (replies_of m (take (i + 1) events) s)) rest
        (sym (text_one_more events i event s now text below is stood printed))
        (goes_on a b c (text_of_replies (replies_of m (take i events) s)) held so_far text rest more)

    -- only a part of what was held and its reply was written
    pub reply_part : AppendsPart b c (held ++ text)
        → AppendsPart a c (text_of_replies (replies_of m (take (i + 1) events) s))
    reply_part part =
        subst (AppendsPart a c) (sym (text_one_more events i event s now text below is stood printed))
        (part_with_more a b c (text_of_replies (replies_of m (take i events) s)) held so_far text part)
