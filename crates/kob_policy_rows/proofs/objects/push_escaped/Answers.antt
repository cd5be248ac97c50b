use Rattle.std.proofs.lemmas.Str.{IsUtf8-from_ascii}
use Rattle.kob_words.specs.Words.{bytes_text}
use Rattle.kob_policy_rows.proofs.objects.push_escaped.Goals as goal

pub unwrap-requires : goal.unwrap-requires
unwrap-requires c =
    c.from_utf8.ensures.succeeds
    (rw (c.in_ok-push_bytes.ensures.text, c.new-escaped.ensures.items)
    (IsUtf8-from_ascii (bytes_text c.args.text.now) c.in_ok-push_bytes.ensures.ascii))
