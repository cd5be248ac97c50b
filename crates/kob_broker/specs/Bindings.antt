-- The creation of bindings.
use Rattle.std.specs.Prelude.{◌==◌, ℕ, Bool, true, nat_lt, List, [], ◌∷◌, ◌++◌, Option, Some, None, length}
use Rattle.std.specs.List.{flat_map}
use Rattle.kob_authorizer.specs.declared.fault.CreateFault.{CreateFault}
use Rattle.kob_authorizer.specs.declared.fault.CreateFault.TheVariants as limits
pub use Rattle.kob_names.specs.declared.draft.Draft.{Draft}
use Rattle.kob_rights.specs.declared.on_acls.CreateAcls.{CreateAcls}
use Rattle.kob_rights.specs.declared.reason.Reason.TheVariants as reasons
use Rattle.kob_broker.specs.State.{Contents, Reason, addition, create_fault, is_bad_cluster, name_limit}

-- what may be wrong with a draft
abbrev pub draft_reasons : Draft → List (Bool × Reason)
draft_reasons draft =
    (length draft.pattern.name == 0, reasons.EmptyName)
    ∷ (is_bad_cluster draft, reasons.BadCluster)
    ∷ (nat_lt name_limit (length draft.pattern.name), reasons.NameTooLong)
    ∷ []

-- the limit that the new bindings would pass
abbrev pub limit_reasons : Option CreateFault → List (Bool × Reason)
limit_reasons None = []
limit_reasons (Some limits.TooMany) = (true, reasons.TooManyBindings) ∷ []
limit_reasons (Some limits.SerialsSpent) = (true, reasons.SerialsSpent) ∷ []
limit_reasons (Some (limits.Memory refused)) = []

abbrev pub create_acls_reasons : Contents → CreateAcls → List (Bool × Reason)
create_acls_reasons access create =
    flat_map draft_reasons create.drafts
    ++ limit_reasons (create_fault access.entries access.next create.drafts)

-- the serials of the bindings, in the order of the drafts
abbrev pub created_serials : Contents → CreateAcls → List ℕ
created_serials access create = (addition access.entries access.next create.drafts).serials
