-- The text of an export, from what was found at the end of the scene.
use Rattle.std.proofs.Common.{◌≡◌, ◌∙◌, ◌++◌, ℕ, List, ap}
use Rattle.kob.specs.Export.{export_text, exported}
use Rattle.kob.specs.Standing.{Seen, end_of}
use Rattle.kob_scene_text.specs.declared.scene.Scene.{Scene}
use Rattle.kob_scene_text.specs.declared.scene.Service.{Service}

pub exported_whole : (scene : Scene) (found : Seen) (services : List Service) (held now : List ℕ)
    → found ≡ end_of scene → services ≡ scene.services.items
    → now ≡ held ++ exported found services → now ≡ held ++ export_text scene
exported_whole scene found services held now same listed is =
    is ∙ ap (λ (seen : Seen). held ++ exported seen services) same
    ∙ ap (λ (all : List Service). held ++ exported (end_of scene) all) listed
