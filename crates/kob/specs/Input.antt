-- How long a text may be, in bytes, and how answers are written.
use Rattle.std.specs.Prelude.{◌≡◌, ℕ, Bool, true, false}
use Rattle.std.specs.IoError.{error_kind}
use Rattle.std.specs.declared.io.ErrorKind.TheVariants.{NotFound}
use Rattle.kob.specs.declared.input.InputFault.{InputFault}
use Rattle.kob.specs.declared.input.InputFault.TheVariants.{Failed, SceneTooLong, ListTooLong}
use Rattle.kob.specs.declared.input.Kind.{Kind}
use Rattle.kob.specs.declared.input.Kind.TheVariants.{Scene, List}
use Rattle.kob_scene_play.specs.declared.form.Form.{Form}
use Rattle.kob_scene_play.specs.declared.form.Form.TheVariants.{Trace, Plain}

-- the maximum length of a text
abbrev pub limit_of : Kind → ℕ
limit_of Scene = 16777216
limit_of List = 67108864

-- answers are traced on a terminal, unless an option asks for another form
abbrev pub default_form : Bool → Form
default_form true = Trace
default_form false = Plain

-- why a longer text is not read
abbrev pub too_long : Kind → InputFault
too_long Scene = SceneTooLong
too_long List = ListTooLong

-- There is no such file.
abbrev pub IsMissing : InputFault → Type 0
IsMissing (Failed error) = error_kind error ≡ NotFound
IsMissing SceneTooLong = ⊥
IsMissing ListTooLong = ⊥
