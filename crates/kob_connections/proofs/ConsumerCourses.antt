-- A consumer's run goes on.
use Rattle.kob_connections.proofs.Words.{Call, Called, HasConsumerRun, IsConsumerRun, List, Move, Restarted, Point, Subscription, Tick, Ticks, [], after, ap, append-nil, calls_of, refl, start, subst, sym, ◌++◌, ◌∙◌, ◌∷◌, ◌≡◌}
use Rattle.kob_inbox.specs.Run.{State}

pub joined : (t : Subscription) (one two : List Move) (old middle new : State) → IsConsumerRun t old one middle
    → IsConsumerRun t middle two new → IsConsumerRun t old (one ++ two) new
joined t [] two old middle new first next = subst (λ (s : State). IsConsumerRun t s two new) first next
joined t (m ∷ ms) two old middle new first next = (first.0, joined t ms two (after t old m) middle new first.1 next)

pub calls_joined : (one two : List Move) → calls_of (one ++ two) ≡ calls_of one ++ calls_of two
calls_joined [] two = refl
calls_joined (Restarted ∷ ms) two = calls_joined ms two
calls_joined (Called call count ∷ ms) two = ap (λ (calls : List Call). call ∷ calls) (calls_joined ms two)

pub begins : (t : Subscription) → HasConsumerRun t start []
begins t = record { moves = []; run = refl; made = refl }

on : (t : Subscription) (old new : State) (calls now : List Call) (ms : List Move) → HasConsumerRun t old calls
    → IsConsumerRun t old ms new → now ≡ calls ++ calls_of ms → HasConsumerRun t new now
on t old new calls now ms was run told = record {
  moves = was.moves ++ ms;
  run = joined t was.moves ms start old new was.run run;
  made = told ∙ ap (λ (cs : List Call). cs ++ calls_of ms) was.made ∙ sym (calls_joined was.moves ms);
}

pub ticks : (t : Subscription) (old new : Point) (tick : Tick) → HasConsumerRun t old.state old.calls → Ticks t old new tick
    → HasConsumerRun t new.state new.calls
ticks t old new tick was done = on t old.state new.state old.calls new.calls done.moves was done.run done.calls

pub restarts : (t : Subscription) (old : State) (calls : List Call) → HasConsumerRun t old calls
    → HasConsumerRun t (after t old Restarted) calls
restarts t old calls was =
    on t old (after t old Restarted) calls calls (Restarted ∷ []) was (tt, refl) (sym (append-nil calls))
