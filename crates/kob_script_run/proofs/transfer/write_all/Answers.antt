use Rattle.kob_script_run.proofs.Words.{Appends, Appends-kept, Appends-trans, AppendsPart, Err, List, Ok, OnErr, Option, Result, ap, append_assoc, arith, drop, length, length-append, rules, subst, sym, take, take-append-drop, take-append_seam, take_rest, ℕ, ◌++◌, ◌-◌, ◌<◌, ◌∙◌, ◌≡◌}
use Rattle.kob_script_run.proofs.transfer.write_all.Goals as goal

-- what is done is a part of the text while something is left
part_of : (a b : Option (List ℕ)) (text done rest : List ℕ) → text ≡ done ++ rest → 0 < length rest → Appends a b done
    → AppendsPart a b text
part_of a b text done rest split left appended =
    let fewer : length done < length text = omega (arith, ap length split ∙ length-append done rest, left) in (
      length done,
      fewer,
      subst (Appends a b)
          (sym (ap (take (length done)) split ∙ take-append_seam done rest)) appended,
    )

moves_front : (all done rest : List ℕ) (n : ℕ) → all ≡ done ++ rest
    → all ≡ (done ++ take n rest) ++ take (length rest - n) (drop n rest)
moves_front all done rest n e =
    e ∙ ap (λ l. done ++ l) (sym (take-append-drop n rest)) ∙ sym (append_assoc done (take n rest) (drop n rest))
    ∙ ap (λ l. (done ++ take n rest) ++ l) (sym (take_rest rest n))

on_err : {T E : Type 0} {P : Type 0} (r : Result T E) → P → OnErr r P
on_err (Ok x) p = tt
on_err (Err e) p = p

pub returns-in_err-count-clause-part : goal.returns-in_err-count-clause-part
returns-in_err-count-clause-part g c =
    let (done, split, appended) = c.loop-rest.invariant in
    on_err c.from_residual.result (part_of _ _ _ done c.loop-rest.rest.now split (search rules)
    (Appends-kept _ _ _ _ appended c.in_err-count.ensures.kept))

pub loop-rest-preserved : goal.loop-rest-preserved
loop-rest-preserved g c =
    let (done, split, appended) = c.loop-rest.invariant in (
      done ++ take c.in_ok-count.count c.loop-rest.rest.now,
      moves_front _ done c.loop-rest.rest.now c.in_ok-count.count split,
      Appends-trans _ _ _ _ _ appended c.in_ok-count.ensures.taken,
    )
