-- `start` hands out a copy of the pointer, which it opens and shuts.
use Rattle.kob_prefix_tree.proofs.Words.{ !, Goes-none_ref, List, Ptr-Good, Stays, Val, [], a_type, alloc_all, by, emp, enter, fact, fact_i, feq_i, flft, free_all, ftrue, inst_fn, keep, layouts, leaves, move, named, param, pass_all, plain, proved, ptr_val, qed, raw, refl, returns, sets, shr_Tells, shr_vals, stay_none_ref, tables, use0, walk_of, yes, ‵, ◌$◌, ◌+◌, ◌∵◌, ◌∷◌, ◌≡◌, ◌⊛◌, of_opd, fld, stop, load, through, look as of_item, look_at}
use Rattle.kob_prefix_tree.proofs.Blocks.{ends, enters, given, shut_pointer, with_pointer}
use Rattle.kob_prefix_tree.specs.contracts.link.Link as link
use Rattle.kob_prefix_tree.specs.contracts.link.Link.start as f
use Rattle.kob_prefix_tree.proofs.link.Link.start.Code as code
use Rattle.kob_prefix_tree.proofs.link.Link.start.Statement.{statement}

pub start_spec : {M : Type 1} → statement M
start_spec ghosts logic model runs wired Y laws =
    let Looked = plain (λ _. link.the_row (param 0 Y)) in
    let types = layouts (a_type ∷ []) (Y, tt) in let body = inst_fn types code.function in
    let table = tables ghosts logic.H model runs runs.env in
    let signed = f.ended Y in let clauses = f.clauses Y logic model.mem runs.returns in
    let stays : Stays signed.signature.params signed.kept = (stay_none_ref (0 ∷ []) tt Looked yes, tt) in
    let walk = walk_of logic signed stays clauses in
    proved logic signed stays clauses model runs (Goes-none_ref logic 2 (0 ∷ []) tt Looked yes, tt)
    (f.Key.name types) body (code.unfolded ghosts logic.H model runs wired (Y, tt))
    (λ _. (shr_vals, tt)) (λ lives. (shr_Tells (named 0) lives.0 (link.the_row (param 0 Y)), tt))
    (λ lives shares bounds looks asked _.
    let look = looks.0 in let first = look.now.first in let b = look.ref_ptr.0 in let o = look.ref_ptr.1 in
    let state : walk.Ghost = ((lives, shares, bounds, looks, (shr_vals look, tt)), asked) in
    let token = flft lives.0 shares.0 in let others = ‵ (flft lives.1.0 shares.1.0) ⊛ ‵ ftrue in
    qed logic (((‵ token ⊛ others) ⊛ ‵ (given Y lives.0 look)) ∷ raw ((clauses lives looks).requires asked) ∷ []) ∵
    enters Y lives.0 look token others ! laws $ move ! (1 ∷ 2 ∷ []) $
    -- [the pointer; the token; what is lent of the nodes; the link; nothing; the other tokens; what is asked]
    enter ! table.C table.Λ body (shr_vals look) (walk.post state) $
    alloc_all ! (λ places. pass_all ! refl ((tt, tt), tt) $
    with_pointer first first refl b (o + 0) ! tt (λ part.
    sets ! (of_opd ! (load ! (through ! refl (fld ! refl (stop !))) (of_item ! 0 refl))) refl (Ptr-Good first) $
    shut_pointer first first refl b (o + 0) ! tt $
    returns ! (look_at ! 0 refl) $ free_all ! refl $
    keep ! (2 ∷ 3 ∷ 0 ∷ 4 ∷ []) $ ends Y lives.0 look token others ! $
    -- [the tokens; the `&`]
    let answer : List Val = ptr_val first ∷ [] in feq_i ! (List Val) answer answer refl $
    use0 logic (raw (fact ghosts (first ≡ first))) (fact_i ghosts (first ≡ first) (emp ghosts) refl) $
    move ! (2 ∷ 3 ∷ 1 ∷ []) $ by ! (leaves logic signed stays clauses state (ptr_val first) first (tt, tt) (tt, tt)))))
