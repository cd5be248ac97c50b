-- How a run ended, by what kept it from its output.
use Rattle.kob_script_run.proofs.Words.{Ended, Err, IfSome, InputFault, IsEnd, IsWrittenOf, Keeps, List, None, Ok, Option, OutputFault, Some, arith, length, nat_tests, refl, script_limit, unread, unwritten, ℕ, ◌<◌, ◌≡◌, ◌≤◌}
use Rattle.kob_script_run.specs.declared.fault.InputFault.TheVariants as input_fault
use Rattle.kob_script_run.specs.declared.fault.OutputFault.TheVariants as output_fault

keeps_itself : (held : Option (List ℕ)) → Keeps held held
keeps_itself None = tt
keeps_itself (Some bytes) = refl

-- a script that was not read leaves the writer as it was
pub not_read : (fault : InputFault) (input old : Option (List ℕ))
    → (fault ≡ input_fault.TooLong → IfSome input (λ bytes. script_limit < length bytes))
    → IsEnd input old old (Err (unread fault))
not_read (input_fault.ReadFailed failed) input old long = keeps_itself old
not_read input_fault.TooLong input old long = (long refl, keeps_itself old)
not_read (input_fault.Memory e) input old long = keeps_itself old

-- the output of the bytes that were read
pub written : (ended : Ended) (bytes : List ℕ) (input old new : Option (List ℕ)) → IfSome input (λ all. bytes ≡ all)
    → length bytes ≤ script_limit → IsWrittenOf bytes old new (Ok ended) → IsEnd input old new (Ok ended)
written ended bytes None old new read short is = tt
written ended bytes (Some all) old new read short is = grind (arith, nat_tests)

pub not_written : (fault : OutputFault) (bytes : List ℕ) (input old new : Option (List ℕ))
    → IfSome input (λ all. bytes ≡ all) → length bytes ≤ script_limit → IsWrittenOf bytes old new (Err fault)
    → IsEnd input old new (Err (unwritten fault))
not_written (output_fault.WriteFailed failed) bytes None old new read short is = tt
not_written (output_fault.WriteFailed failed) bytes (Some all) old new read short is = grind (arith, nat_tests)
not_written (output_fault.Memory e) bytes input old new read short is = is
