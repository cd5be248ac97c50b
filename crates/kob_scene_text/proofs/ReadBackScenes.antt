-- A line that begins with a principal asks for its request in each scene.
use Rattle.kob_scene_text.proofs.Words.{Event, List, None, Ok, Option, Result, Word, [], ap, arith, false, map, nat_tests, refl, subst, sym, true, ℕ, ◌==◌, ◌∙◌, ◌∷◌, ◌≡◌}
use Rattle.std.proofs.Common.{is_none, position, Bool, Some, if◌then◌else◌}
use Rattle.std.specs.List.{list_any}
use Rattle.kob_names.specs.TextRules.{is_colon, principal_fault}
use Rattle.kob_names.specs.declared.principal.PrincipalFault.{PrincipalFault}
use Rattle.kob_names.specs.declared.principal.PrincipalFault.TheVariants.{NoColon}
use Rattle.kob_scene_text.proofs.ReadBackEvents.{IsAsked, asked_back, begins_so, behind, words_back}
use Rattle.kob_scene_text.proofs.ReadBackRequests.{is_asked}
use Rattle.kob_scene_text.proofs.ReadBackWords.{text_word}
use Rattle.kob_scene_text.specs.Reading.{as_scripts, ◌>>>◌}
use Rattle.kob_scene_text.specs.Rereading.{IsLine, ReadsBackInScene}
use Rattle.kob_scene_text.specs.Scenes.{Seen, asked, with_head, with_line, with_steps, with_words}
use Rattle.kob_scene_text.specs.Workers.{worker_named}
use Rattle.kob_scene_text.specs.Steps.{head_by, head_of}
use Rattle.kob_scene_text.specs.declared.fault.SceneFaultKind.{SceneFaultKind}
use Rattle.kob_scene_text.specs.declared.line.Head.{Head}
use Rattle.kob_scene_text.specs.declared.line.Head.TheVariants.{Request}
use Rattle.kob_scene_text.specs.declared.name.Worker.{Worker}
use Rattle.kob_script.specs.declared.fault.FaultKind.{FaultKind}
use Rattle.kob_words.proofs.Choices.{chosen_true}

has_colon : (text : List ℕ) → is_none (position is_colon text) ≡ false → list_any (λ byte. byte == 58) text ≡ true
has_colon [] none = absurd cc
has_colon (byte ∷ rest) none = grind (arith, nat_tests, has_colon rest)

colon_by : (none : Bool) (others : Option PrincipalFault) → (if none then Some NoColon else others) ≡ None → none ≡ false
colon_by true others valid = absurd cc
colon_by false others valid = refl

-- a first word that begins with `U` and has a colon is no setting and no word of a scene
head_by_name : (worker : Option Worker) (rest : List ℕ) (words : List Word)
    → list_any (λ byte. byte == 58) (85 ∷ rest) ≡ true → head_of worker (text_word (85 ∷ rest)) words ≡ Request
head_by_name worker rest words colon =
    chosen_true {A = Head} (list_any (λ byte. byte == 58) (85 ∷ rest)) Request (head_by worker words) colon

head_is : (worker : Option Worker) (text : List ℕ) (words : List Word) → principal_fault text ≡ None
    → head_of worker (text_word text) words ≡ Request
head_is worker [] words valid = absurd cc
head_is worker (first ∷ rest) words valid =
    subst
    (λ byte. list_any (λ b. b == 58) (byte ∷ rest) ≡ true → head_of worker (text_word (byte ∷ rest)) words ≡ Request)
    (sym (begins_so first rest valid)) (head_by_name worker rest words)
    (has_colon (first ∷ rest) (colon_by (is_none (position is_colon (first ∷ rest))) _ valid))

pub scene_back : (event : Event) → IsLine event → ReadsBackInScene event
unfolding with_line with_words
scene_back event is answer so_far =
    let request : IsAsked event.request = is_asked event.request is.request in
    let others = behind event is.principal is.host request in
    let asking : List Event → Result Seen SceneFaultKind = λ events. Ok (with_steps so_far (map asked events)) in
    let worker = worker_named so_far.services so_far.consumers event.principal in
    ap (λ (found : Result (List Word) FaultKind). as_scripts found >>> with_words answer so_far)
    (words_back event is.principal is.host request)
    ∙ ap (λ head. with_head answer head so_far (text_word event.principal) others) (head_is worker event.principal others is.principal.valid)
    ∙ ap (λ (found : Result (List Event) FaultKind). as_scripts found >>> asking)
    (asked_back event is.principal is.host request answer)
