use Rattle.kob_shared.proofs.Words.{AllZip, IfOk, ap, arith, length, subst, take, take_all, ◌+◌, ◌<◌, ◌∙◌, ◌≡◌}
use Rattle.std.proofs.lemmas.List.FromFn.{length-enumerate_from}
use Rattle.std.specs.List.{enumerate_from}
use Rattle.kob_shared.proofs.Claims.{all_zip_more}
use Rattle.kob_shared.proofs.Fleets.{IsOf, all_zip_joined, kept_of, numbered_at}
use Rattle.kob_shared.proofs.fleet.fn.run_workers.scope.Goals as goal

pub loop-i-preserved : goal.loop-i-preserved
loop-i-preserved g c =
    let works = c.captures.works.now in
    let within : c.loop-i.i < length works = omega arith in
    let count = length-enumerate_from 1 works in
    let within_all : c.loop-i.i < length (enumerate_from 1 works) = omega (arith, within, count) in
    rw c.in_ok-push.ensures.items
    (all_zip_more (λ w h. IsOf w (h.promise.0.value, h.promise.1)) (enumerate_from 1 works) c.loop-i.i c.loop-i.handles.items
    (c.loop-i.i + 1, c.index-works-i.result) c.in-Ok.handle within_all
    (numbered_at works c.loop-i.i c.index-works-i.result within c.index-works-i.is) c.loop-i.invariant
    (ap (λ p. p.0.value) c.in-Ok.ensures.ok ∙ c.of.ensures, ap (λ p. p.1) c.in-Ok.ensures.ok))

pub returns : goal.returns
returns g c =
    let works = c.captures.works.now in
    let handles = c.loop-i.handles in
    let results = c.in_ok-join_promised.field-0 in
    let joined = c.in_ok-join_promised.ensures in
    let numbered = enumerate_from 1 works in
    let count = length-enumerate_from 1 works in
    let whole : take c.loop-i.i numbered ≡ numbered = take_all c.loop-i.i numbered (omega (arith, count)) in
    let started : AllZip (λ w h. IsOf w (h.promise.0.value, h.promise.1)) numbered handles.items =
    subst (λ ws. AllZip (λ w h. IsOf w (h.promise.0.value, h.promise.1)) ws handles.items) whole c.loop-i.invariant in
    record {
      each =
          all_zip_joined _ (λ w h. IsOf w (h.promise.0.value, h.promise.1))
          (λ w r. IfOk r (λ d. g.W.Work.keeps w.1 w.0 d.notes d.end))
          (λ w h r is kept. kept_of (λ v n. IfOk r (λ d. g.W.Work.keeps v n d.notes d.end)) w (h.promise.0.value, h.promise.1) is kept)
          numbered handles.items results.items
          (omega (arith, joined.len, handles.ok.0, results.ok.0)) started _ handles.ok.0 joined.each;
      named = tt;
    }
