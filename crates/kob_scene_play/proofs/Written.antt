-- What is written for a text, by what was read of it.
use Rattle.kob_scene_play.proofs.Words.{Appends, Appends-trans, Ended, EndsAs, Err, Form, HasLines, IfOk, IsWritten, List, MayRead, Ok, OnOk, Option, PlayFault, Result, Scene, SceneFault, Shown, fault_shown, seen, shown_by, subst, sym, ℕ, ◌++◌, ◌≡◌}
use Rattle.kob_scene_play.specs.declared.text.Ended.TheVariants as variants
use Rattle.kob_scene_text.specs.declared.fault.SceneError.TheVariants as scene_error

-- of a scene that was read
pub scene_written : (form : Form) (source : List ℕ) (shown : Shown) (scene : Scene) (result : Result Ended PlayFault)
    (before now : Option (List ℕ)) → shown ≡ shown_by form source → MayRead source (Ok scene)
    → HasLines source (seen scene) scene.lines.items
    → IfOk result (EndsAs shown scene before now) → IfOk result (IsWritten form source before now)
scene_written form source shown scene (Ok variants.Clean) before now same read lines is =
    (scene, read, lines, subst (λ (by : Shown). EndsAs by scene before now variants.Clean) same is)
scene_written form source shown scene (Ok (variants.Unmet unmet)) before now same read lines is =
    (scene, read, lines, subst (λ (by : Shown). EndsAs by scene before now (variants.Unmet unmet)) same is)
scene_written form source shown scene (Ok (variants.Fault fault)) before now same read lines none = absurd none
scene_written form source shown scene (Ok (variants.Stopped fault)) before now same read lines is =
    (scene, read, lines, subst (λ (by : Shown). EndsAs by scene before now (variants.Stopped fault)) same is)
scene_written form source shown scene (Err fault) before now same read lines is = tt

-- of a text with a fault
pub fault_written : (form : Form) (source : List ℕ) (fault : SceneFault) (result : Result Ended PlayFault)
    (before now : Option (List ℕ)) → MayRead source (Err (scene_error.Fault fault))
    → IfOk result (λ ended. ended ≡ variants.Fault fault)
    → OnOk result (Appends before now (fault_shown form fault)) → IfOk result (IsWritten form source before now)
fault_written form source fault (Ok ended) before now read same appended =
    subst (IsWritten form source before now) (sym same) (read, appended)
fault_written form source fault (Err other) before now read same appended = tt

-- one text is written, and another after it where that could be written too
pub written_behind : {A E : Type 0} (r : Result A E) (a b c : Option (List ℕ)) (one two : List ℕ) → Appends a b one
    → OnOk r (Appends b c two) → OnOk r (Appends a c (one ++ two))
written_behind (Ok x) a b c one two first second = Appends-trans a b c one two first second
written_behind (Err x) a b c one two first second = second
