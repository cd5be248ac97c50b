use Rattle.kob_producers.proofs.Words.{ap, option_map, recent_after, sym, table_of, ◌∙◌, ◌≡◌}
use Rattle.kob_producers.specs.contracts.table.ProducerTable as table
use Rattle.kob_producers.proofs.Histories.{accepted_plain}
use Rattle.kob_producers.proofs.Showing.{empty_accepts_none}
use Rattle.kob_producers.proofs.table.ProducerTable.accept.Goals as goal
use Rattle.kob_producers.proofs.table.ProducerTable.accept.Goals.{in-Some, in_default}

pub returns-clause-recent : goal.returns-clause-recent
returns-clause-recent c =
    elim c.match-self.branch [
      | in-Some w ↦
          let was : w.in-Some.rings.value ≡ c.args.self.now =
          ap (λ o. table_of (option_map (λ rings. rings.value) o)) (sym w.in-Some.is) ∙ c.self.view_is in
          ap (λ inside. (table.the_view inside).recent) w.self-inside-is ∙ w.accept.ensures
          ∙ ap (λ kept. recent_after kept.recent c.args.idem.now c.args.count c.args.offset)
          (w.deref_mut.ensures.value ∙ was)
      | in_default w ↦
          let none = sym c.self.view_is ∙ ap (λ o. table_of (option_map (λ rings. rings.value) o)) w.in_default.is in
          absurd (empty_accepts_none c.args.self.now c.args.idem.now.id none c.requires)
    ]

pub returns-clause-plain : goal.returns-clause-plain
returns-clause-plain c =
    λ histories keeps. accepted_plain histories c.args.self.now.recent _ c.args.idem.now c.args.count c.args.offset
    (returns-clause-recent c) keeps
