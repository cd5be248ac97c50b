-- The line above what is printed of one of several files.
use Rattle.std.specs.Prelude.{ℕ, Bool, true, false, List, [], ◌++◌, codes}
use Rattle.kob.specs.declared.play.Work.{Work}
use Rattle.kob.specs.declared.play.Work.TheVariants.{Play, Export}
use Rattle.kob_scene_play.specs.Json.{json_string}
use Rattle.kob_scene_play.specs.declared.form.Form.TheVariants.{Plain, Trace, Json}

abbrev pub file_line : List ℕ → List ℕ
file_line file = codes "== " ++ file ++ codes "\n"

abbrev pub heading_text : Work → List ℕ → List ℕ
heading_text (Play Json is_watched) file = codes "{\"file\":" ++ json_string file ++ codes "}\n"
heading_text (Play Plain is_watched) file = file_line file
heading_text (Play Trace is_watched) file = file_line file
heading_text (Export form service) file = file_line file

-- only answers may be other than is expected
abbrev pub can_differ : Work → Bool
can_differ (Play form is_watched) = true
can_differ (Export form service) = false
