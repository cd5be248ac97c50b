use Rattle.kob_endpoints.proofs.Words.{[], ap, arith, length, refl, ◌++◌, ◌<◌, ◌∙◌, ◌∷◌, ◌≡◌}
use Rattle.kob_endpoints.proofs.Reachings.{is_true}
use Rattle.kob_endpoints.proofs.Servings.{all_served, begun_at, call_unserved, is_empty, is_zero, more_served, not_zero, one_call}
use Rattle.kob_endpoints.specs.Pairing.{left, told_by}
use Rattle.std.proofs.Common.{IsTrue}
use Rattle.kob_endpoints.proofs.part.unserved_of.Goals as goal

pub loop-number-init : goal.loop-number-init
loop-number-init c =
    let one : c.push.new.self.items ≡ 0 ∷ [] =
    c.in_ok-push.ensures.items ∙ ap (λ ps. ps ++ 0 ∷ []) c.new-places.ensures.items in
    begun_at (left c.args.own.now) (told_by c.args.own.now) c.push.new.self.items one refl

pub loop-number-preserved : goal.loop-number-preserved
loop-number-preserved c =
    let was = c.loop-number in
    let now = c.in_ok-places.places.items in
    let long = not_zero _ c.is_empty.result c.is_empty.ensures c.if-is_empty.false in
    let some : 0 < length now = omega (arith, long) in (
      some,
      one_call (left c.args.own.now) (told_by c.args.own.now) c.args.calls.now was.places.items now was.number
          c.index-calls-number.result c.loop-number-test.true c.index-calls-number.is was.invariant.1
          (rw c.deref.ensures.value at c.in_ok-places.ensures),
    )

pub returns-then-is_empty : goal.returns-then-is_empty
returns-then-is_empty c =
    let at = left c.args.own.now in
    let all = told_by c.args.own.now in
    let was = c.loop-number in
    let now = c.in_ok-places.places.items in
    let short = is_zero _ c.is_empty.result c.is_empty.ensures c.if-is_empty.true in
    let none : length now ≡ 0 = omega (arith, short) in
    call_unserved at all c.args.calls.now was.places.items now was.number c.loop-number-test.true was.invariant.0
    was.invariant.1 (is_empty now none)
    (one_call at all c.args.calls.now was.places.items now was.number c.index-calls-number.result
    c.loop-number-test.true c.index-calls-number.is was.invariant.1
    (rw c.deref.ensures.value at c.in_ok-places.ensures))

pub returns-then-is_one_at_end : goal.returns-then-is_one_at_end
returns-then-is_one_at_end c =
    let was = c.loop-number in
    all_served (left c.args.own.now) (told_by c.args.own.now) c.args.calls.now was.places.items was.number
    (IsTrue c.is_one_at_end.result) c.loop-number-test.false was.invariant.1
    (rw c.deref-2.ensures.value at c.is_one_at_end.ensures) (is_true c.is_one_at_end.result c.if-is_one_at_end.true)

pub returns : goal.returns
returns c =
    let was = c.loop-number in
    more_served (left c.args.own.now) (told_by c.args.own.now) c.args.calls.now was.places.items was.number _
    (IsTrue c.is_one_at_end.result) c.loop-number-test.false refl was.invariant.0 was.invariant.1
    (rw c.deref-2.ensures.value at c.is_one_at_end.ensures)
    (λ (yes : IsTrue c.is_one_at_end.result). let not = c.if-is_one_at_end.false in absurd (cc))
