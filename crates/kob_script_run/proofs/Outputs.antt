-- What a run writes is an output.
use Rattle.kob_script_run.proofs.Words.{AppendsPart, Clean, Ended, Event, Fault, HasOutput, IsOutput, IsTextOfRun, List, Ok, Option, Reply, Script, Stopped, Writes, WritesPartOfRun, WritesRun, ap, arith, length, nat_tests, replies_to, stopped_text, subst, take, text_of_replies, ℕ, ◌++◌, ◌<◌, ◌∙◌, ◌≡◌}

-- a broker that gives the replies of a new one under the script's settings
module _ (s : Script) (replies : List Event → List Reply) (events : List Event) (is : events ≡ s.events)
    (same : (some : List Event) → replies some ≡ replies_to s.settings some) where
  text_is_output : (ended : Ended) (text : List ℕ) → IsTextOfRun replies events ended text → IsOutput (Ok s) ended text
  text_is_output Clean text whole = grind (arith, nat_tests)
  text_is_output Stopped text (done, few, first) = (
    done,
    subst (λ all. done < length all) is few,
    first ∙ ap (λ told. text_of_replies told ++ stopped_text done) (same (take done events))
        ∙ ap (λ all. text_of_replies (replies_to s.settings (take done all)) ++ stopped_text done) is,
  )
  text_is_output Fault text none = none

  pub run_is_output : (ended : Ended) (a b : Option (List ℕ)) → WritesRun replies events ended a b → Writes (Ok s) ended a b
  run_is_output ended a b (text, run, wrote) = (text, text_is_output ended text run, wrote)

  pub part_is_of_output : (a b : Option (List ℕ)) → WritesPartOfRun replies events a b → HasOutput (Ok s) (AppendsPart a b)
  part_is_of_output a b (ended, text, run, part) = (ended, text, text_is_output ended text run, part)
