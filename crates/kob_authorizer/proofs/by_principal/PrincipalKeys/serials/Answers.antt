use Rattle.kob_names.specs.declared.kinds.ResourceKind.TheVariants.{Topic, Group, Cluster, TransactionalId}
use Rattle.kob_authorizer.proofs.by_principal.PrincipalKeys.serials.Goals as goal

pub returns : goal.returns
returns c Topic serial stands =
    c.in_ok-push_on-3.ensures.kept serial
    (c.in_ok-push_on-2.ensures.kept serial (c.in_ok-push_on.ensures.kept serial (c.in_ok-serials.ensures serial stands)))
returns c Group serial stands =
    c.in_ok-push_on-3.ensures.kept serial
    (c.in_ok-push_on-2.ensures.kept serial (c.in_ok-push_on.ensures.added serial stands))
returns c Cluster serial stands = c.in_ok-push_on-3.ensures.kept serial (c.in_ok-push_on-2.ensures.added serial stands)
returns c TransactionalId serial stands = c.in_ok-push_on-3.ensures.added serial stands
