-- The form of the word among those that are left is that among all.
use Rattle.std.proofs.Common.{drop, map, ◌≡◌}
use Rattle.kob_mistakes.specs.Forms.{form_in}
use Rattle.kob_mistakes.proofs.forms.form_in.Given as goal

abbrev pub invariant-loop-form : goal.invariant-loop-form
invariant-loop-form l =
    form_in (map (λ form. (form.0.now, form.1.now)) (drop l.form-index l.forms)) l.word
    ≡ form_in (map (λ form. (form.0.now, form.1.now)) l.forms) l.word
