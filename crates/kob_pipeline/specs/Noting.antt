-- Calls after calls at a desk.
use Rattle.std.proofs.Common.{◌≡◌, List, [], ◌∷◌, ◌++◌, Option, None, refl, sym, ap, ◌∙◌, append_assoc, append-nil, arith}
use Rattle.std.proofs.lemmas.Bool.Decides.{nat_tests}
use Rattle.std.proofs.lemmas.List.Elements.{All-append, All-nil}
use Rattle.kob_pipeline.specs.Types.{Served, Call, AtDesk, CallFault, Loss}
use Rattle.kob_pipeline.specs.Served.{AreMade, AreNoted, AreServedByLoss, IsEventOf, loss_after, served_by_notes}
use Rattle.kob_router.specs.declared.line.Loss.TheVariants as lost

loss_append : (loss : Loss) (xs ys : List Call) → loss_after loss (xs ++ ys) ≡ loss_after (loss_after loss xs) ys
loss_append loss xs ys = grind (arith, nat_tests)

no_call_is_lost : (loss : Loss) → AreServedByLoss loss [] []
no_call_is_lost lost.None = tt
no_call_is_lost lost.BeforeServe = tt
no_call_is_lost lost.AfterServe = tt

-- calls after others none of which is lost
unlost_append : (xs ys : List Call) (ss ts : List Served) → AreServedByLoss lost.None xs ss
    → AreServedByLoss lost.None ys ts → AreServedByLoss lost.None (xs ++ ys) (ss ++ ts)
unlost_append [] ys ss ts one two = grind (arith, nat_tests)
unlost_append (x ∷ xs) ys ss ts one two = grind (arith, nat_tests, unlost_append xs ys)

by_loss_append : (loss : Loss) (xs ys : List Call) (ss ts : List Served) → AreServedByLoss loss xs ss
    → AreServedByLoss (loss_after loss xs) ys ts → AreServedByLoss loss (xs ++ ys) (ss ++ ts)
by_loss_append loss [] ys ss ts one two = grind (arith, nat_tests)
by_loss_append loss (x ∷ xs) ys ss ts one two = grind (arith, nat_tests, unlost_append xs ys)

-- ---- what is noted

pub nothing_is_noted : (desk : AtDesk) → AreNoted [] desk desk
nothing_is_noted desk = record {
  principal = refl;
  host = refl;
  noted = sym (append-nil (served_by_notes desk.noted.events desk.noted.told));
  events = [];
  added = sym (append-nil desk.noted.events);
  own = All-nil (IsEventOf desk.seat.principal desk.seat.host);
}

pub noted_append : (ss ts : List Served) (a b c : AtDesk) → AreNoted ss a b → AreNoted ts b c → AreNoted (ss ++ ts) a c
noted_append ss ts a b c one two = record {
  principal = two.principal ∙ one.principal;
  host = two.host ∙ one.host;
  noted = rw (two.noted, one.noted) (append_assoc (served_by_notes a.noted.events a.noted.told) ss ts);
  events = one.events ++ two.events;
  added = rw (two.added, one.added) (append_assoc a.noted.events one.events two.events);
  own =
      All-append (IsEventOf a.seat.principal a.seat.host) one.events two.events one.own
      (rw (one.principal, one.host) at two.own);
}

-- ---- calls of a line

pub no_call_is_made : (fault : Option CallFault) (loss : Loss) (calls : List Call) (desk : AtDesk) → fault ≡ None
    → AreMade fault loss loss calls calls desk desk
no_call_is_made fault loss calls desk faultless = record {
  begun = faultless;
  made = [];
  calls_now = sym (append-nil calls);
  next = refl;
  noted = record { served = []; by_loss = no_call_is_lost loss; noted = nothing_is_noted desk };
}

pub calls_are_made : (fault mid_fault : Option CallFault) (loss mid_loss then_loss : Loss)
    (calls mid_calls then_calls : List Call) (a b c : AtDesk)
    → AreMade fault loss mid_loss calls mid_calls a b → AreMade mid_fault mid_loss then_loss mid_calls then_calls b c
    → AreMade fault loss then_loss calls then_calls a c
calls_are_made fault mid_fault loss mid_loss then_loss calls mid_calls then_calls a b c one two = record {
  begun = one.begun;
  made = one.made ++ two.made;
  calls_now = rw (two.calls_now, one.calls_now) (append_assoc calls one.made two.made);
  next = two.next ∙ ap (λ (l : Loss). loss_after l two.made) one.next ∙ sym (loss_append loss one.made two.made);
  noted = record {
    served = one.noted.served ++ two.noted.served;
    by_loss =
        by_loss_append loss one.made two.made one.noted.served two.noted.served one.noted.by_loss
        (rw one.next at two.noted.by_loss);
    noted = noted_append one.noted.served two.noted.served a b c one.noted.noted two.noted.noted;
  };
}
