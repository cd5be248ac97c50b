-- The forms of lines that declare a consumer, behind their first word.
use Rattle.std.specs.Prelude.{ℕ, List, [], ◌∷◌, codes, if◌then◌else◌}
use Rattle.std.specs.Str.{bytes_eq}
use Rattle.kob_script.specs.Words.{Word}
use Rattle.kob_scene_text.specs.declared.forms.Keyword.{Keyword}
use Rattle.kob_scene_text.specs.declared.forms.Keyword.TheVariants as keyword
use Rattle.kob_scene_text.specs.declared.forms.Part.{Part}
use Rattle.kob_scene_text.specs.declared.forms.Part.TheVariants.{One, After, OrEnd, Each}
use Rattle.kob_scene_text.specs.declared.forms.Slot.TheVariants as slot

-- NAME PRINCIPAL HOST group GROUP max N [start latest], a variant or not, and
-- [reads TOPIC:PARTITION ..]
abbrev pub form_with : Keyword → Keyword → List Part
form_with variant other =
    One slot.NewName ∷ One slot.Principal ∷ One slot.Host ∷ One (slot.Keyword keyword.Group)
    ∷ One slot.Text ∷ One (slot.Keyword keyword.Max) ∷ One slot.Max
    ∷ After keyword.Start slot.Start ∷ After variant (slot.Keyword other)
    ∷ OrEnd ∷ One (slot.Keyword keyword.Reads) ∷ Each slot.Partition ∷ []

-- by the word with which a variant begins
abbrev pub form_by : List ℕ → List Part
form_by variant =
    if bytes_eq variant (codes "no") then form_with keyword.No keyword.Dedup
    else form_with keyword.Commits keyword.Before

-- by the words behind the number of records
abbrev pub form_behind : List Word → List Part
form_behind (word ∷ start ∷ variant ∷ words) =
    if bytes_eq word.decoded (codes "start") then form_by variant.decoded
    else form_by word.decoded
form_behind (variant ∷ words) = form_by variant.decoded
form_behind [] = form_by (codes "commits")

-- of consumer
abbrev pub consumer_form : List Word → List Part
consumer_form (name ∷ principal ∷ host ∷ keyword ∷ group ∷ its ∷ max ∷ words) = form_behind words
consumer_form words = form_by (codes "commits")
