use Rattle.kob_script.proofs.Imports.{ap, arith, drop, length, sym, take, ◌-◌, ◌∙◌, ◌∷◌}
use Rattle.kob_script.proofs.RawWords.{behind_word, plain_part, word_passed}
use Rattle.kob_script.proofs.raw_words.RawWords.next.Goals as goal

pub returns-then-start-end-clause-next : goal.returns-then-start-end-clause-next
returns-then-start-end-clause-next c =
    let s = c.loop-start.self in
    let line = s.line.now in
    let end = c.pass_blank-end.result in
    let was = c.pass_blank-end.ensures in
    let same = ap (λ it. length it.now) was.line in
    let word = word_passed line s.at end c.if-start-end.true (omega (arith, same)) was.letters (λ below. (was.blank below).0) in
    rw was.line (sym c.loop-start.invariant.words ∙ word
    ∙ ap (λ rest. take (end - s.at) (drop s.at line) ∷ rest) (behind_word line end _ was.blank was.last))

pub returns-then-start-end-clause-plain : goal.returns-then-start-end-clause-plain
returns-then-start-end-clause-plain c =
    let s = c.pass_blank-end.new.self in
    λ plain. plain_part s.line.now c.loop-start.self.at (c.pass_blank-end.result - c.loop-start.self.at) s.end (omega arith) s.within (s.plain plain)
