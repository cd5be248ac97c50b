-- The forms of lines of a service, behind their first words.
use Rattle.std.specs.Prelude.{ℕ, List, [], ◌∷◌, Option, Some, None, codes, if◌then◌else◌}
use Rattle.std.specs.Str.{bytes_eq}
use Rattle.kob_script.specs.Words.{Word}
use Rattle.kob_scene_text.specs.Steps.{hides_rows}
use Rattle.kob_scene_text.specs.declared.forms.Keyword.{Keyword}
use Rattle.kob_scene_text.specs.declared.forms.Keyword.TheVariants as keyword
use Rattle.kob_scene_text.specs.declared.forms.Part.{Part}
use Rattle.kob_scene_text.specs.declared.forms.Part.TheVariants.{One, After, OrEnd}
use Rattle.kob_scene_text.specs.declared.forms.Slot.TheVariants as slot
use Rattle.kob_scene_text.specs.declared.scene.Sending.{Sending}
use Rattle.kob_scene_text.specs.declared.scene.Sending.TheVariants.{Proved, RetriesNew, DeletesFirst, NotIdempotent, Separate, VisibleLate}
use Rattle.kob_scene_text.specs.declared.step_names.StepName.{StepName}
use Rattle.kob_scene_text.specs.declared.step_names.StepName.TheVariants as steps

-- Declarations.

abbrev pub route_words : List Part
route_words =
    After keyword.By slot.Column ∷ After keyword.Replacement slot.Replacement
    ∷ After keyword.Placement slot.Placement ∷ []

-- behind the name of a service
abbrev pub service_words : List Part → List Part
service_words more =
    One slot.NewName ∷ One slot.Principal ∷ One slot.Host
    ∷ One (slot.Keyword keyword.Partitions) ∷ One slot.Partitions ∷ more

-- of a variant of two words
abbrev pub variant_form : Keyword → Keyword → List Part
variant_form one other =
    service_words (One (slot.Keyword one) ∷ One (slot.Keyword other) ∷ route_words)

-- of each variant, else of a service with the proved router
abbrev pub service_form_by : List ℕ → List Part
service_form_by variant =
    if bytes_eq variant (codes "retries") then variant_form keyword.Retries keyword.New
    else (if bytes_eq variant (codes "deletes") then variant_form keyword.Deletes keyword.First
    else (if bytes_eq variant (codes "not") then variant_form keyword.Not keyword.Idempotent
    else (if bytes_eq variant (codes "separate")
    then service_words (One (slot.Keyword keyword.Separate) ∷ route_words)
    else (if bytes_eq variant (codes "visible") then variant_form keyword.Visible keyword.Late
    else service_words route_words))))

-- of service, by the word behind the number of partitions
abbrev pub service_form : List Word → List Part
service_form (name ∷ principal ∷ host ∷ keyword ∷ number ∷ variant ∷ words) =
    service_form_by variant.decoded
service_form words = service_form_by (codes "by")

-- Steps.

abbrev pub record_words : List Part → List Part
record_words more =
    One slot.Id ∷ One slot.Text ∷ One slot.Text ∷ One slot.Text ∷ One slot.Text
    ∷ One slot.Text ∷ One slot.Text ∷ One slot.Text ∷ more

abbrev pub record_form : List Part
record_form = record_words []

-- of a record, of two variants with or without one more word
abbrev pub record_form_by : Sending → List Part
record_form_by Proved = record_form
record_form_by RetriesNew = record_form
record_form_by DeletesFirst = record_form
record_form_by NotIdempotent = record_form
record_form_by Separate = record_words (OrEnd ∷ One (slot.Keyword keyword.Crash) ∷ [])
record_form_by VisibleLate = record_words (OrEnd ∷ One (slot.Keyword keyword.Late) ∷ [])

abbrev pub tick_form : List Part
tick_form = OrEnd ∷ One slot.Loss ∷ []

-- of a service that sends so, behind the name of a step; None if services have no such step
abbrev pub service_step_form : Sending → StepName → Option (List Part)
service_step_form sending steps.Record = Some (record_form_by sending)
service_step_form sending steps.Tick = Some tick_form
service_step_form sending steps.Run = Some []
service_step_form sending steps.Restart = Some []
service_step_form sending steps.Sweep = Some []
service_step_form sending steps.Outbox = Some []
service_step_form sending steps.Business = Some (One slot.Text ∷ One slot.Text ∷ [])
service_step_form sending steps.Visible = if hides_rows sending then Some [] else None
service_step_form sending steps.Inbox = None
