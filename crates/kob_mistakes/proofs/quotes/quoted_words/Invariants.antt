-- The words so far, and those of what is left, are the words of the line.
use Rattle.std.proofs.Common.{drop, map, ◌++◌, ◌≡◌, ◌≤◌}
use Rattle.std.specs.List.{slice_range}
use Rattle.kob_mistakes.specs.Quotes.{cut_words, quoted_words}
use Rattle.kob_mistakes.proofs.quotes.quoted_words.Given as goal

abbrev pub invariant-loop-byte : goal.invariant-loop-byte
invariant-loop-byte l =
    (map (λ word. word.now) l.words.items
    ++ cut_words l.quoting (slice_range l.line l.start l.place) (drop l.byte-index l.line)
    ≡ quoted_words l.line)
    × (l.place ≡ l.byte-index) × (l.start ≤ l.place)
