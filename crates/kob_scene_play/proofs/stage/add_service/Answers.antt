use Rattle.kob_scene_play.proofs.Words.{PlayedService, Service, [], ap, declared_service, map, map-append, named_service, ◌++◌, ◌∙◌, ◌∷◌, ◌≡◌}
use Rattle.kob_scene_play.specs.Stages.{NamedService}
use Rattle.kob_scene_play.proofs.stage.add_service.Goals as goal

pub returns-in-Ok-clause-added : goal.returns-in-Ok-clause-added
returns-in-Ok-clause-added c =
    let all = c.args.all.now.items in
    let played : PlayedService = record { name = c.args.service.name; service = c.in-Ok.service } in
    let opened : c.in-Ok.service ≡ (declared_service c.args.service).service = rw c.into_target-target.ensures.value at c.in-Ok.ensures in
    let named : Service → NamedService = λ service. record { name = c.args.service.name; service = service } in
    ap (map named_service) (c.push_reserved.ensures.items ∙ ap (λ xs. xs ++ played ∷ []) c.reserve.ensures.items)
    ∙ map-append named_service all (played ∷ []) ∙ ap (λ service. map named_service all ++ named service ∷ []) opened
