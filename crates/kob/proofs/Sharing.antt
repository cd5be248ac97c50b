-- Parts that have one form, up to a place.
use Rattle.std.proofs.Common.{◌≡◌, ◌∙◌, ◌++◌, ◌+◌, ◌<◌, List, [], ◌∷◌, None, Option, Some, ap, arith, drop, find, get_or, length, map, refl, set, suc, sym, take, zero, ℕ}
use Rattle.kob.specs.Options.{is_asked, shared, with_form}
use Rattle.kob.specs.declared.policy_options.AnswerForm.{AnswerForm}
use Rattle.kob.specs.declared.policy_options.Options.{Options}

set_more : {X : Type 0} (f : X → X) (old : List X) (place : ℕ) (d : X) → place < length old
    → set (map f (take place old) ++ drop place old) place (f (get_or (map f (take place old) ++ drop place old) place d))
    ≡ map f (take (suc place) old) ++ drop (suc place) old
set_more f [] place d below = absurd (omega arith)
set_more f (x ∷ xs) zero d below = refl
set_more f (x ∷ xs) (suc place) d below = ap (λ rest. f x ∷ rest) (set_more f xs place d (omega arith))

pub shared_more : (form : AnswerForm) (old now : List Options) (place : ℕ) (d : Options)
    → now ≡ map (with_form (Some form)) (take place old) ++ drop place old → place < length old
    → set now place (with_form (Some form) (get_or now place d))
    ≡ map (with_form (Some form)) (take (place + 1) old) ++ drop (place + 1) old
shared_more form old now place d same below =
    ap (λ (list : List Options). set list place (with_form (Some form) (get_or list place d))) same
    ∙ set_more (with_form (Some form)) old place d below
    ∙ ap (λ n. map (with_form (Some form)) (take n old) ++ drop n old) (let next : suc place ≡ place + 1 = omega arith in next)

unchanged : (parts : List Options) → parts ≡ map (with_form None) parts
unchanged [] = refl
unchanged (part ∷ parts) = ap (λ rest. part ∷ rest) (unchanged parts)

-- no form is asked for
pub same_parts : (asked : Option AnswerForm) (parts : List Options) → asked ≡ None
    → asked ≡ find is_asked (map (λ part. part.form) parts) → parts ≡ shared parts
same_parts asked parts none found =
    unchanged parts ∙ ap (λ form. map (with_form form) parts) (sym none ∙ found)
