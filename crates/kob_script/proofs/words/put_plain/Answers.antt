use Rattle.kob_script.proofs.Imports.{Word, arith, rules, word_of, ◌∙◌}
use Rattle.std.proofs.lemmas.List.{length-set, take_more_set}
use Rattle.std.specs.Prelude.{IsTrue}
use Rattle.kob_script.proofs.Each.{front_ends, front_keeps}
use Rattle.kob_script.proofs.LineWords.{plain_word}
use Rattle.kob_script.proofs.words.put_plain.Goals as goal

pub loop-raw-preserved : goal.loop-raw-preserved
loop-raw-preserved c =
    let word : Word = record { raw = c.in-Some.raw.now; decoded = c.in-Some.raw.now } in
    let long = length-set c.loop-raw.few c.loop-raw.count word in
    let was = c.in-Some.ensures in
    record {
      few = omega (arith, long);
      room = long ∙ c.loop-raw.invariant.room;
      words = λ plain. rw (take_more_set c.loop-raw.few c.loop-raw.count word (omega arith))
          (front_keeps word_of _ _ _ _ _ (c.loop-raw.invariant.words (was.before plain)) was.next _ (plain_word _ (was.plain plain)));
    }

pub returns-clause-put : goal.returns-clause-put
returns-clause-put c =
    let plain : IsTrue c.next.new.self.is_plain = search rules in
    front_ends word_of _ _ _ (c.loop-raw.invariant.words (c.in_default.ensures.before plain)) c.in_default.ensures.next
