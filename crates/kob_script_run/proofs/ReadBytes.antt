-- Bytes that a reader gave.
use Rattle.kob_script_run.proofs.Words.{Consumes, IfSome, List, None, Option, Some, arith, length, length-append, nat_tests, ℕ, ◌<◌}

-- a reader that gave more bytes than a limit had more
pub past_limit : (a b : Option (List ℕ)) (text : List ℕ) (limit : ℕ) → Consumes a b text → limit < length text
    → IfSome a (λ bytes. limit < length bytes)
past_limit None b text limit gave more = tt
past_limit (Some x) None text limit gave more = absurd gave
past_limit (Some x) (Some y) text limit gave more = grind (arith, nat_tests, length-append)
