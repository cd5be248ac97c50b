use Rattle.kob_endpoints.proofs.Words.{sym}
use Rattle.kob_endpoints.proofs.Servings.{heard_on, heard_to, is_heard, is_lost, lost_on, lost_to, on_ok}
use Rattle.kob_endpoints.specs.Pairing.{left}
use Rattle.kob_endpoints.proofs.part.add_after.Goals.{else-is_none, then-is_none+in_ok-add}
use Rattle.kob_endpoints.proofs.part.add_after.Goals as goal

pub returns-in-Some : goal.returns-in-Some
returns-in-Some c =
    let call = c.args.call.now in
    elim c.if-is_none.branch [
      | then-is_none+in_ok-add w ↦
          let lost = is_lost call.heard c.is_none.result c.is_none.ensures w.if-is_none.true in
          on_ok c.add-in-Some.result _ _
          (λ same. lost_on (left c.args.own.now) c.args.then.now.items c.if-is_none.then.items
          c.add-in-Some.new.places.items c.args.from c.in-Some.next call lost c.in-Some.ensures
          (rw w.then-is w.in_ok-add.ensures) same)
          c.add-in-Some.ensures
      | else-is_none w ↦
          let heard = is_heard call.heard c.is_none.result c.is_none.ensures w.if-is_none.false in
          on_ok c.add-in-Some.result _ _
          (λ same. heard_on (left c.args.own.now) c.args.then.now.items c.add-in-Some.new.places.items
          c.args.from c.in-Some.next call heard c.in-Some.ensures (rw (sym w.then-is) same))
          c.add-in-Some.ensures
    ]

pub returns-in-None : goal.returns-in-None
returns-in-None c =
    let call = c.args.call.now in
    elim c.if-is_none.branch [
      | then-is_none+in_ok-add w ↦
          let lost = is_lost call.heard c.is_none.result c.is_none.ensures w.if-is_none.true in
          lost_to (left c.args.own.now) c.args.then.now.items c.if-is_none.then.items c.args.from call
          lost c.in-None.ensures (rw w.then-is w.in_ok-add.ensures)
      | else-is_none w ↦
          let heard = is_heard call.heard c.is_none.result c.is_none.ensures w.if-is_none.false in
          rw w.then-is (heard_to (left c.args.own.now) c.args.then.now.items c.args.from call heard
          c.in-None.ensures)
    ]
