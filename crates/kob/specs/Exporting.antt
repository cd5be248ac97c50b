-- What an export prints, and which service it is of.
use Rattle.std.specs.Borrow.{Bor}
use Rattle.std.specs.Prelude.{◌≡◌, ℕ, Bool, true, false, List, [], ◌∷◌, Option, Some, None, Result, Ok, Err, bytes_eq, codes, position}
use Rattle.std.specs.Result.{is_ok}
use Rattle.kob.specs.Connect.{connector_text, table_of}
use Rattle.kob.specs.Export.{export_text}
use Rattle.kob.specs.declared.exporting.ExportFault.{ExportFault}
use Rattle.kob.specs.declared.exporting.ExportFault.TheVariants as why
use Rattle.kob.specs.declared.options.ExportForm.{ExportForm}
use Rattle.kob.specs.declared.options.ExportForm.TheVariants.{Commands, Connect, Table}
use Rattle.kob.specs.declared.report.Report.{Report}
use Rattle.kob.specs.declared.report.Report.TheVariants as report
use Rattle.kob.specs.declared.report.FileReport.TheVariants as file
use Rattle.kob_scene_text.specs.Scenes.{MayRead}
use Rattle.kob_scene_text.specs.declared.scene.Scene.{Scene}
use Rattle.kob_scene_text.specs.declared.scene.Sending.{Sending}
use Rattle.kob_scene_text.specs.declared.scene.Sending.TheVariants.{Proved, RetriesNew, DeletesFirst, NotIdempotent, Separate, VisibleLate}
use Rattle.kob_scene_text.specs.declared.scene.Service.{Service}

abbrev pub service_named : List Service → List ℕ → Option ℕ
service_named services name = position (λ service. bytes_eq service.name name) services

abbrev pub if_known : Option ℕ → Result ℕ ExportFault
if_known None = Err why.UnknownService
if_known (Some place) = Ok place

-- of several services one has to be named
abbrev pub chosen : Option (List ℕ) → List Service → Result ℕ ExportFault
chosen (Some name) services = if_known (service_named services name)
chosen None [] = Err why.NoService
chosen None (service ∷ []) = Ok 0
chosen None (service ∷ other ∷ others) = Err why.SeveralServices

-- a scene has a connector if a service of it is chosen
abbrev pub has_export : ExportForm → Option (List ℕ) → List Service → Bool
has_export Commands named services = true
has_export (Connect database) named services = is_ok (chosen named services)
has_export (Table database) named services = true

-- A text is a scene that has such an export.
abbrev pub IsExportable : ExportForm → Option (List ℕ) → List ℕ → Type 0
IsExportable form named text = (scene : Scene) × MayRead text (Ok scene)
    × (has_export form named scene.services.items ≡ true)

-- what an export prints
abbrev pub export_by : ExportForm → Option (List ℕ) → Scene → List ℕ
export_by Commands named scene = export_text scene
export_by (Connect database) named scene =
    connector_text database (chosen named scene.services.items) scene.services.items
export_by (Table database) named scene = table_of database

-- what is reported of a scene that is not exported
abbrev pub refusal : ExportFault → Bor (List ℕ) → Bor (List ℕ) → Report
refusal (why.Memory refused) name service = report.OutOfMemory name refused
refusal why.TooMany name service = report.TooMany
refusal why.NoService name service = report.File (file.NoService name)
refusal why.SeveralServices name service = report.File (file.SeveralServices name)
refusal why.UnknownService name service = report.File (file.UnknownService name service)

-- whether the route of a service is exported
abbrev pub is_exported : ExportForm → Option (List ℕ) → Service → Bool
is_exported Commands named service = true
is_exported (Connect database) None service = true
is_exported (Connect database) (Some name) service = bytes_eq service.name name
is_exported (Table database) named service = false

-- the words that declare a variant
abbrev pub variant_words : Sending → Option (List ℕ)
variant_words Proved = None
variant_words RetriesNew = Some (codes "retries new")
variant_words DeletesFirst = Some (codes "deletes first")
variant_words NotIdempotent = Some (codes "not idempotent")
variant_words Separate = Some (codes "separate")
variant_words VisibleLate = Some (codes "visible late")
