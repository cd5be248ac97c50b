-- What rules have to do with the accesses that a log records.
use Rattle.std.specs.Prelude.{ℕ, Bool, true, false, List, [], ◌++◌, ◌-◌, ◌==◌, Option, Some, None, codes, filter, flat_map, if◌then◌else◌, length}
use Rattle.std.specs.Fmt.{decimal}
use Rattle.std.specs.List.{list_any}
use Rattle.kob_authorizer.specs.Decide as authorizer
use Rattle.kob_names.specs.Binding.{is_granted}
use Rattle.kob_names.specs.declared.verdict.Verdict.{Verdict}
use Rattle.kob_policy_text.specs.Quoted.{name_text}
use Rattle.kob_policy_text.specs.Access.{check_of, is_other_answer, question_on}
use Rattle.kob_policy_text.specs.Answers.{answer_text, line_at, right_text}
use Rattle.kob_policy_text.specs.LogLines.{Log, log_of}
use Rattle.kob_policy_text.specs.Numbered.{numbered}
use Rattle.kob_policy_text.specs.Policy.{Policy, deciding, may, serials_of}
use Rattle.kob_policy_text.specs.Summary.{count_line}
use Rattle.kob_policy_text.specs.declared.log_line.Recorded.{Recorded}
use Rattle.kob_policy_text.specs.declared.log_reading.Entry.{Entry}

-- what was asked
abbrev pub asked_in : Recorded → authorizer.Question
asked_in recorded = question_on recorded.asker (check_of recorded.right)

-- the decision of the rules on a recorded access
abbrev pub verdict_on : Policy → Entry → Verdict
verdict_on policy entry = may policy (asked_in entry.recorded)

-- the rules deny what was allowed, or allow what was denied
abbrev pub is_otherwise : Policy → Entry → Bool
is_otherwise policy entry =
    is_other_answer entry.recorded.allowed (is_granted (verdict_on policy entry))

abbrev pub was_text : Bool → List ℕ
was_text true = codes " was allowed, now "
was_text false = codes " was denied, now "

-- who asked from where, behind the number of the line
unfoldable pub place_text : Entry → List ℕ
place_text entry =
    codes "  line " ++ decimal entry.line ++ codes " "
    ++ name_text entry.recorded.asker.principal ++ codes " "
    ++ name_text entry.recorded.asker.host ++ codes " "

unfoldable pub otherwise_line : Policy → Entry → List ℕ
otherwise_line policy entry =
    place_text entry ++ right_text (asked_in entry.recorded) ++ was_text entry.recorded.allowed
    ++ answer_text (verdict_on policy entry) ++ codes "\n"

-- an access that the rules decide otherwise than is recorded, and nothing for another one
abbrev pub otherwise_text : Policy → Entry → List ℕ
otherwise_text policy entry =
    if is_otherwise policy entry then otherwise_line policy entry else []

abbrev pub is_serial : ℕ → Option ℕ → Bool
is_serial serial None = false
is_serial serial (Some other) = other == serial

-- the binding with the serial is the one that decides the access
abbrev pub decides : Policy → ℕ → Entry → Bool
decides policy serial entry = is_serial serial (deciding (verdict_on policy entry))

-- it decides some access
abbrev pub is_decider : Policy → List Entry → ℕ → Bool
is_decider policy accesses serial = list_any (decides policy serial) accesses

-- the binding at a place, unless its serial is one of some
abbrev pub idle_line : Policy → (ℕ → Bool) → ℕ → ℕ → List ℕ
idle_line policy among place serial = if among serial then [] else line_at policy (Some place)

-- the bindings that decide none of the accesses
abbrev pub idle_in : Policy → List Entry → List ℕ
idle_in policy accesses =
    numbered (idle_line policy (is_decider policy accesses)) 0 (serials_of policy)

-- the lines that record no access
unfoldable pub skipped_lines : Log → ℕ
skipped_lines log = log.lines - length log.accesses - length log.others

unfoldable pub judged_text : Policy → List Entry → List ℕ
judged_text policy accesses =
    count_line (codes "accesses") (length accesses)
    ++ count_line (codes "decided-otherwise") (length (filter (is_otherwise policy) accesses))

unfoldable pub unjudged_text : ℕ → ℕ → List ℕ
unjudged_text others skipped =
    count_line (codes "left-out") others ++ count_line (codes "skipped-lines") skipped

-- counts, then each access that is decided otherwise, then each binding that decides none
abbrev pub accesses_text : Policy → Log → List ℕ
accesses_text policy log =
    judged_text policy log.accesses ++ unjudged_text (length log.others) (skipped_lines log)
    ++ flat_map (otherwise_text policy) log.accesses ++ idle_in policy log.accesses

-- the answer about the text of a log
abbrev pub log_text : Policy → List ℕ → List ℕ
log_text policy text = accesses_text policy (log_of text)

-- some access is decided otherwise
abbrev pub differs : Policy → List ℕ → Bool
differs policy text = list_any (is_otherwise policy) (log_of text).accesses
