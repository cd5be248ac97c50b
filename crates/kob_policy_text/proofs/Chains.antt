-- A step of reading that fails.
use Rattle.kob_policy_text.proofs.Words.{Anywhere, Err, Fails, Fault, FaultKind, GivesSeen, Item, LineError, List, MayGive, Memory, Ok, Option, Result, held_options, refl, sym, ℕ, ◌>>=◌, ◌≡◌}
use Rattle.kob_acl_cli.specs.declared.args.CliArgs.{CliArgs}
use Rattle.kob_policy_text.specs.Options.{Adds, added_by}
use Rattle.kob_script.specs.Script.{MayAnswer}

pub fails_at : {A B : Type 0} (e : LineError) (read : Result A FaultKind) (f : A → Result B FaultKind)
    → Fails e read → Fails e (read >>= f)
fails_at (Memory e) read f fails = tt
fails_at (Fault kind) read f fails = rw fails refl

-- clap answered the words that are passed on to it
pub adds : {A : Type 0} (view : A → List Item) (words held : List (List ℕ)) (answer : Option CliArgs)
    (r : Result A LineError)
    → held ≡ held_options Anywhere words → MayAnswer held answer → GivesSeen view r (added_by answer)
    → MayGive view r (Adds words)
unfolding Adds
adds view words held answer (Ok x) same may gives = (answer, rw (sym same) may, gives)
adds view words held answer (Err (Memory e)) same may gives = tt
adds view words held answer (Err (Fault kind)) same may gives = (answer, rw (sym same) may, gives)
