use Rattle.kob_shared.proofs.Words.{AllZip-long, IfOk, arith, length}
use Rattle.std.proofs.lemmas.Result.{err_from_is_err_and}
use Rattle.std.proofs.lemmas.List.FromFn.{length-enumerate_from}
use Rattle.std.specs.List.{enumerate_from}
use Rattle.kob_shared.proofs.Fleets.{within_first, within_more, kept_done}
use Rattle.kob_shared.proofs.fleet.run_begun.Goals as goal

pub gather-requires-clause-room : goal.gather-requires-clause-room
gather-requires-clause-room g c =
    let results = c.in_ok-results.results in
    let same =
    AllZip-long (λ w r. IfOk r (λ d. g.W.Work.keeps w.1 w.0 d.notes d.end)) (enumerate_from 1 c.args.works.now) results.items
    c.in_ok-results.ensures.each in
    let count = length-enumerate_from 1 c.args.works.now in
    omega (arith, same, count, results.ok.0, c.requires.room)

pub returns-clause-each : goal.returns-clause-each
returns-clause-each g c =
    kept_done (λ w d. g.W.Work.keeps w.1 w.0 d.notes d.end) (enumerate_from 1 c.args.works.now) c.in_ok-results.results.items
    c.in_ok-done.done.items c.in_ok-results.ensures.each c.in_ok-done.ensures.all

pub returns-in_err-done-clause-named : goal.returns-in_err-done-clause-named
returns-in_err-done-clause-named g c =
    let given = err_from_is_err_and c.from_residual-in_err-done.result c.from_residual-in_err-done.ensures.1 in
    let results = c.in_ok-results.results.items in
    let same =
    AllZip-long (λ w r. IfOk r (λ d. g.W.Work.keeps w.1 w.0 d.notes d.end)) (enumerate_from 1 c.args.works.now) results
    c.in_ok-results.ensures.each in
    let count = length-enumerate_from 1 c.args.works.now in
    rw (given.1, given.2) (within_more (length results) (length c.args.works.now) _ (omega (arith, same, count))
    (within_first results _ c.in_err-done.ensures.named))
