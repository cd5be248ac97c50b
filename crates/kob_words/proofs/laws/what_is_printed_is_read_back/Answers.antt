use Rattle.kob_words.proofs.ReadBack.{bytes_read_back}
use Rattle.kob_words.proofs.laws.what_is_printed_is_read_back.Goals as goal

pub returns-clause-bytes : goal.returns-clause-bytes
returns-clause-bytes c = bytes_read_back
