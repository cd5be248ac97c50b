-- When two new bindings of a creation are one, and what a hash reads of them.
use Rattle.std.specs.Prelude.{Bool, true, ◌++◌, ◌≡◌}
use Rattle.std.specs.Bool.{Decides}
use Rattle.std.specs.Cmp.{IsEquivalence, decided}
use Rattle.std.specs.Hash.{HashWrites, str}
use Rattle.std.proofs.Common.{ap, sym}
use Rattle.kob_names.specs.Binding.{Binding, same_binding}
use Rattle.kob_names.proofs.SameBindings.{same_binding_decides}

-- the other is equal to the one
abbrev pub is_again : Binding → Binding → Bool
is_again one other = same_binding other one

-- principal, host and name are hashed
abbrev pub hashed_texts : Binding → HashWrites
hashed_texts binding = str binding.principal ++ str binding.host ++ str binding.pattern.name

again_decides : (one other : Binding) → Decides (is_again one other) (one ≡ other)
again_decides one other =
    let decides = same_binding_decides other one in
    (λ again. sym (decides.0 again), λ same. decides.1 (sym same))

pub again_is_equivalence : IsEquivalence is_again
again_is_equivalence = decided is_again again_decides

pub hashed_alike : (one other : Binding) → is_again one other ≡ true
    → hashed_texts one ≡ hashed_texts other
hashed_alike one other again = ap hashed_texts ((again_decides one other).0 again)
