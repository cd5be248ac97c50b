use Rattle.clap.specs.Words.{found_of, one_of, rows_of}
use Rattle.clap.proofs.WalkLemmas.{one_text-rows}
use Rattle.kob_acl_cli.proofs.LineFacts.{flag_by}
use Rattle.kob_acl_cli.proofs.line.flag_of.Goals as goal

pub returns : goal.returns
returns c =
    let found = found_of c.args.matches.now in
    flag_by (one_of c.args.id.now (rows_of found)) _ c.get_flag.result
    (one_text-rows found c.args.id.now) c.get_flag.ensures.none c.get_flag.ensures.value c.get_flag.ensures.other
