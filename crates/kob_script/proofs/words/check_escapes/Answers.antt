use Rattle.kob_script.proofs.Imports.{false, is_some, rules, true, word_of, ◌≡◌}
use Rattle.kob_words.specs.Words.{unescaped}
use Rattle.kob_script.proofs.Each.{fault_behind, fault_found, no_fault}
use Rattle.kob_script.proofs.LineWords.{torn_word, whole_word}
use Rattle.kob_script.proofs.words.check_escapes.Goals as goal

pub returns-then-not-has_whole_escapes : goal.returns-then-not-has_whole_escapes
returns-then-not-has_whole_escapes c =
    let torn : is_some (unescaped c.in-Some.raw.now) ≡ false = search rules in
    fault_found word_of _ _ _ _ c.loop-raw.invariant c.in-Some.ensures.next _ (torn_word c.in-Some.raw.now torn)

pub loop-raw-preserved : goal.loop-raw-preserved
loop-raw-preserved c =
    let whole : is_some (unescaped c.in-Some.raw.now) ≡ true = search rules in
    let (word, is) = whole_word c.in-Some.raw.now whole in
    fault_behind word_of _ _ _ _ c.loop-raw.invariant c.in-Some.ensures.next word is

pub returns : goal.returns
returns c = no_fault word_of _ _ c.loop-raw.invariant c.in_default.ensures.next
