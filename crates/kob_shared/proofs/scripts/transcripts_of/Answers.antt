use Rattle.kob_shared.proofs.Words.{IsAnswered, [], ap, append_assoc, into_iter_items, length, subst, sym, ◌++◌, ◌∙◌, ◌∷◌}
use Rattle.kob_shared.proofs.Fleets.{taken_more}
use Rattle.kob_shared.proofs.scripts.transcripts_of.Goals as goal

pub loop-one-preserved : goal.loop-one-preserved
loop-one-preserved c =
    let was = c.loop-one.invariant in
    let yielded = c.loop-one.yielded in
    let one = c.in-Some.one in
    let taken = c.into_transcript-in-loop-one in (
      was.0 ∙ ap (λ xs. yielded ++ xs) c.in-Some.ensures.steps.0
          ∙ sym (append_assoc yielded (one ∷ []) (into_iter_items c.next.new.self)),
      rw c.in_ok-push-2.ensures.items
          (taken_more c.args.first yielded one c.loop-one.transcripts.items taken.result was.1 (
            taken.ensures.value,
            subst (λ ts. IsAnswered (length one.notes.events) ts)
                (sym taken.ensures.value) taken.ensures.answered,
          )),
    )
