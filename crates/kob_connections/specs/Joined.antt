-- Calls after calls of a connection.
use Rattle.std.proofs.Common.{◌≡◌, List, [], ◌∷◌, ◌++◌, Option, refl, sym, ap, ◌∙◌, subst, append_assoc, append-nil}
use Rattle.kob_connections.specs.Calls.{MakesCalls, ServesEach}
use Rattle.kob_rights.specs.declared.reply.Reply.{Reply}
use Rattle.kob_rights.specs.declared.request.Request.{Request}
use Rattle.kob_router.specs.declared.line.Call.{Call}

-- more behind more
abbrev pub added_append : {A : Type 0} (before xs ys mid now : List A) → mid ≡ before ++ xs → now ≡ mid ++ ys
    → now ≡ before ++ (xs ++ ys)
added_append before xs ys mid now one two = two ∙ ap (λ zs. zs ++ ys) one ∙ append_assoc before xs ys

module _ {S : Type 0} (serves : S → S → Request → Option Reply → Type 0) where
  pub each_append : (a b c : S) (xs ys : List Call) → ServesEach serves a b xs → ServesEach serves b c ys
      → ServesEach serves a c (xs ++ ys)
  each_append a b c [] ys one two = subst (λ s. ServesEach serves s c ys) one two
  each_append a b c (x ∷ xs) ys (mid, first, rest) two = (mid, first, each_append mid b c xs ys rest two)

  pub no_call_is_made : (s : S) (calls : List Call) → MakesCalls serves s s calls calls
  no_call_is_made s calls = record { made = []; added = sym (append-nil calls); served = refl }

  pub calls_are_made : (a b c : S) (calls mid_calls then_calls : List Call) → MakesCalls serves a b calls mid_calls
      → MakesCalls serves b c mid_calls then_calls → MakesCalls serves a c calls then_calls
  calls_are_made a b c calls mid_calls then_calls one two = record {
    made = one.made ++ two.made;
    added = added_append calls one.made two.made mid_calls then_calls one.added two.added;
    served = each_append a b c one.made two.made one.served two.served;
  }
