use Rattle.kob_scene_play.proofs.Words.{List, [], ap, arith, length, subst, sym, take, take_more, ℕ, ◌++◌, ◌+◌, ◌<◌, ◌∙◌, ◌∷◌, ◌≡◌}
use Rattle.kob_inbox.proofs.Ticking.{behind_last}
use Rattle.kob_inbox.specs.Run.{behind}
use Rattle.kob_names.specs.declared.record.Record.{Record}
use Rattle.kob_rights.specs.Requests.{BodyWithin}
use Rattle.kob_rights.specs.declared.reply.Body.TheVariants as bodies
use Rattle.kob_scene_play.proofs.holding.Held.position.Goals as goal

pub overflow_add-position : goal.overflow_add-position
overflow_add-position c =
    let rs = c.as_slice-records.result.now in let x : ℕ × Record = c.loop-at-item.result in
    let lt : c.loop-at.at-index < length rs = omega arith in
    let within : BodyWithin (bodies.Records rs) =
    subst (λ (xs : List (ℕ × Record)). BodyWithin (bodies.Records xs)) (sym c.as_slice-records.ensures) c.requires in
    let low : x.0 < 9223372036854775807 = subst (λ (y : ℕ × Record). y.0 < 9223372036854775807)
    (sym c.loop-at-item.is) (within c.loop-at.at-index x lt) in
    omega (arith, low)

pub loop-at-preserved : goal.loop-at-preserved
loop-at-preserved c =
    let rs = c.as_slice-records.result.now in let i = c.loop-at.at-index in let x : ℕ × Record = c.loop-at-item.result in
    let from = c.args.self.now.asked.offset in
    let lt : i < length rs = omega arith in
    let front : take (i + 1) rs ≡ take i rs ++ x ∷ [] =
    take_more rs i x lt ∙ ap (λ (y : ℕ × Record). take i rs ++ y ∷ []) (sym c.loop-at-item.is) in
    sym (behind_last from (take i rs) x) ∙ ap (λ (xs : List (ℕ × Record)). behind from xs) (sym front)
