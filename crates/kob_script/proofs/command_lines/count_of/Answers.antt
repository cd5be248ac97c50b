use Rattle.kob_script.proofs.Imports.{bytes_eq, codes, err_from_is_err_and, option_copied, rules, true, ◌≡◌}
use Rattle.kob_script.proofs.LineFaults.{asks_acl, line_counted, uncounts}
use Rattle.kob_script.proofs.command_lines.count_of.Goals as goal

pub returns-in_err-commands-in-len3-up-clause-gives : goal.returns-in_err-commands-in-len3-up-clause-gives
returns-in_err-commands-in-len3-up-clause-gives c =
    let acl : bytes_eq c.command-item.result.decoded (codes "acl") ≡ true = search rules in
    let asks = asks_acl c.args.words.now c.command-item.result c.in-len3-up.len_at_least c.command-item.is acl in
    let p = err_from_is_err_and c.from_residual-in_err-commands-in-len3-up.result c.from_residual-in_err-commands-in-len3-up.ensures.1 in
    rw (p.1, p.2, line_counted (option_copied c.args.answer) c.args.words.now c.in_ok-check_line.ensures, asks) (uncounts _ _ c.in_err-commands-in-len3-up.ensures)

pub returns-in_ok-commands-in-len3-up-clause-gives : goal.returns-in_ok-commands-in-len3-up-clause-gives
returns-in_ok-commands-in-len3-up-clause-gives c =
    let acl : bytes_eq c.command-item.result.decoded (codes "acl") ≡ true = search rules in
    let asks = asks_acl c.args.words.now c.command-item.result c.in-len3-up.len_at_least c.command-item.is acl in
    rw (line_counted (option_copied c.args.answer) c.args.words.now c.in_ok-check_line.ensures, asks, c.in_ok-commands-in-len3-up.ensures) (search rules)
