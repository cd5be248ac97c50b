use Rattle.kob_endpoints.proofs.Words.{Some, ap, length, rules, served_in, slice_get, sym, ◌+◌, ◌<◌, ◌∙◌, ◌≡◌}
use Rattle.kob_endpoints.proofs.Entries.{next_left}
use Rattle.kob_endpoints.proofs.Reachings.{is_true}
use Rattle.kob_endpoints.proofs.Servings.{not_this, this_one}
use Rattle.kob_endpoints.specs.Pairing.{left}
use Rattle.std.proofs.lemmas.Option.{slice_get-get_or}
use Rattle.kob_endpoints.proofs.part.place_after.Goals as goal

pub returns-then-is_reply_to : goal.returns-then-is_reply_to
returns-then-is_reply_to c =
    let own = c.args.own.now in
    let from = c.args.from in
    let entry = c.index-own-from.result in
    let within : from < length own = search rules in
    let there : slice_get own from ≡ Some entry =
    slice_get-get_or own from entry within ∙ ap (λ e. Some e) (sym c.index-own-from.is) in
    let reply = c.is_reply_to.ensures.0 (is_true c.is_reply_to.result c.if-is_reply_to.true) in
    this_one (left own) from (from + 1) c.args.call.now (served_in entry.now)
    (next_left own from entry there) reply.0 reply.1

pub returns : goal.returns
returns c =
    let own = c.args.own.now in
    let from = c.args.from in
    let entry = c.index-own-from.result in
    let within : from < length own = search rules in
    let there : slice_get own from ≡ Some entry =
    slice_get-get_or own from entry within ∙ ap (λ e. Some e) (sym c.index-own-from.is) in
    not_this (left own) from c.args.call.now (served_in entry.now) (left own (from + 1))
    (next_left own from entry there)
    (λ reply. let yes = c.is_reply_to.ensures.1 reply in let no = c.if-is_reply_to.false in absurd (cc))
