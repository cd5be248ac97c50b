use Rattle.kob_authorizer.proofs.Words.{Contains, subst, sym, ℕ}
use Rattle.std.proofs.Common.{Global, Vec}
use Rattle.kob_authorizer.proofs.Leading.{principal_on, principal_on_all}
use Rattle.kob_authorizer.proofs.by_principal.leading_by_principal.Goals as goal
use Rattle.kob_authorizer.proofs.by_principal.leading_by_principal.Goals.{in-Some-resource+in_ok-serials-in-Some-resource, in-None+in_ok-serials-in-None}

pub returns : goal.returns
returns c =
    elim c.match-filter-2.branch [
      | in-Some-resource+in_ok-serials-in-Some-resource w ↦
          principal_on c.args.keys.now c.args.filter.now c.in-Some.principal w.in_ok-serials-in-Some-resource.serials.items
          c.in_order.result.items c.in-Some.is c.in_order.ensures.rising
          (λ serial has. c.in_order.ensures.all serial (subst (λ (v : Vec ℕ Global). Contains v.items serial) (sym w.serials-is) has))
          w.in-Some-resource.resource w.in-Some-resource.is w.in_ok-serials-in-Some-resource.ensures
      | in-None+in_ok-serials-in-None w ↦
          principal_on_all c.args.keys.now c.args.filter.now c.in-Some.principal w.in_ok-serials-in-None.serials.items
          c.in_order.result.items c.in-Some.is c.in_order.ensures.rising
          (λ serial has. c.in_order.ensures.all serial (subst (λ (v : Vec ℕ Global). Contains v.items serial) (sym w.serials-is) has))
          w.in_ok-serials-in-None.ensures
    ]
