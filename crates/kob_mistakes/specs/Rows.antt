-- Which word of a question does not fit. Cited by private functions alone.
use Rattle.kob_mistakes.specs.declared.rows.Fit.{Fit}
use Rattle.kob_mistakes.specs.declared.rows.Fit.TheVariants as fit
use Rattle.kob_script.specs.Words.{Word, named_host, named_principal}
use Rattle.kob_words.specs.Words.{operation_named, resource_named}
use Rattle.kob_names.specs.Same.{same_resource}
use Rattle.kob_names.specs.declared.kinds.ResourceKind.{ResourceKind}
use Rattle.kob_names.specs.declared.kinds.ResourceKind.TheVariants.{Cluster}
use Rattle.std.specs.Option.{is_some}
use Rattle.std.specs.Prelude.{ℕ, ◌+◌, ◌==◌, ◌&&◌, ◌||◌, not, Bool, true, Option, None, Some, List, [], ◌∷◌, codes, if◌then◌else◌, bytes_eq}
use Rattle.std.specs.List.{list_any}
use Rattle.std.specs.Result.{is_ok}

-- lists write DESCRIBE_CONFIGS for DescribeConfigs
abbrev pub is_listed : List ℕ → Bool
is_listed name = list_any (λ byte. byte == 95) name

-- the cluster has one name
abbrev pub has_many_names : Option ResourceKind → List ℕ → Bool
has_many_names None name = is_listed name
has_many_names (Some resource) name = not (same_resource resource Cluster)

abbrev pub is_many_named : List ℕ → Bool
is_many_named name = has_many_names (resource_named name) name

abbrev pub is_operation : List ℕ → Bool
is_operation name = is_some (operation_named name) || is_listed name

abbrev pub is_resource : List ℕ → Bool
is_resource name = is_some (resource_named name) || is_listed name

abbrev pub is_answer : List ℕ → Bool
is_answer word = bytes_eq word (codes "yes") || bytes_eq word (codes "no")

-- how events are produced
abbrev pub is_how : List ℕ → Bool
is_how word = bytes_eq word (codes "idempotent") || bytes_eq word (codes "transactional")

-- a host that asks; * is every host, in bindings alone
abbrev pub is_host : Word → Bool
is_host word = not (bytes_eq word.decoded (codes "*")) && is_ok (named_host word)

-- a word may stand at such a place
abbrev pub fits : Fit → Word → Bool
fits fit.Act word = true
fits fit.Topic word = true
fits fit.Group word = true
fits fit.Name word = true
fits fit.Id word = true
fits fit.Prefix word = bytes_eq word.decoded (codes "prefix")
fits fit.Principal word = is_ok (named_principal word)
fits fit.Host word = is_host word
fits fit.Operation word = is_operation word.decoded
fits fit.Resource word = is_resource word.decoded
fits fit.ManyNamed word = is_many_named word.decoded
fits fit.Answer word = is_answer word.decoded
fits fit.May word = bytes_eq word.decoded (codes "may")
fits fit.How word = is_how word.decoded

-- the place of the first word that does not fit; if each fits, that of the word too many or too few
abbrev pub misfit : List Fit → List Word → ℕ
misfit [] words = 0
misfit (one ∷ row) [] = 0
misfit (one ∷ row) (word ∷ words) = if fits one word then misfit row words + 1 else 0
