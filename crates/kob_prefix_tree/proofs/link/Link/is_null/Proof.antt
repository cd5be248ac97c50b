-- `is_null` compares a copy of the pointer with null. That this may be asked, and what the answer means, is told by
-- what the link lends of its nodes.
use Rattle.kob_prefix_tree.proofs.Words.{ !, Bool, Goes-none_ref, IsTrue, List, Ptr-Good, Stays, Val, [], a_type, alloc_all, bin, by, emp, enter, fact, fact_i, feq_i, flft, free_all, ftrue, get, inst_fn, keep, layouts, leaf, leaves, lit, move, named, param, pass_all, plain, proved, ptr_same, ptr_val, qed, raw, refl, returns, sets, shr_Tells, shr_vals, stay_none_ref, tables, tests_null, use0, vbool, vnull, walk_of, yes, ‵, ◌$◌, ◌+◌, ◌↔◌, ◌∵◌, ◌∷◌, ◌≡◌, ◌⊛◌, of_opd, fld, stop, load, through, look as of_item, look_at}
use Rattle.kob_prefix_tree.proofs.Firsts.{tells_null}
use Rattle.kob_prefix_tree.proofs.Blocks.{ends, enters, given, shut_pointer, with_pointer}
use Rattle.kob_prefix_tree.specs.contracts.link.Link as link
use Rattle.kob_prefix_tree.specs.contracts.link.Link.is_null as f
use Rattle.kob_prefix_tree.proofs.link.Link.is_null.Code as code
use Rattle.kob_prefix_tree.proofs.link.Link.is_null.Statement.{statement}

pub is_null_spec : {M : Type 1} → statement M
is_null_spec ghosts logic model runs wired Y laws =
    let Looked = plain (λ _. link.the_row (param 0 Y)) in
    let types = layouts (a_type ∷ []) (Y, tt) in let body = inst_fn types code.function in
    let table = tables ghosts logic.H model runs runs.env in
    let signed = f.ended Y in let clauses = f.clauses Y logic model.mem runs.returns in
    let stays : Stays signed.signature.params signed.kept = (stay_none_ref (0 ∷ []) tt Looked yes, tt) in
    let walk = walk_of logic signed stays clauses in
    proved logic signed stays clauses model runs (Goes-none_ref logic 2 (0 ∷ []) tt Looked yes, tt)
    (f.Key.name types) body (code.unfolded ghosts logic.H model runs wired (Y, tt))
    (λ _. (shr_vals, tt)) (λ lives. (shr_Tells (named 0) lives.0 (link.the_row (param 0 Y)), tt))
    (λ lives shares bounds looks asked _.
    let look = looks.0 in let first = look.now.first in let b = look.ref_ptr.0 in let o = look.ref_ptr.1 in
    let state : walk.Ghost = ((lives, shares, bounds, looks, (shr_vals look, tt)), asked) in
    let token = flft lives.0 shares.0 in let others = ‵ (flft lives.1.0 shares.1.0) ⊛ ‵ ftrue in
    let answer : Bool = ptr_same (ptr_val first) vnull in
    qed logic (((‵ token ⊛ others) ⊛ ‵ (given Y lives.0 look)) ∷ raw ((clauses lives looks).requires asked) ∷ []) ∵
    enters Y lives.0 look token others ! laws $
    tells_null Y ! look.now.nodes first lives.0 (λ may_ask means.
    -- [the pointer; the token; the link; nothing; the other tokens; what is asked, which is nothing]
    enter ! table.C table.Λ body (shr_vals look) (walk.post state) $
    alloc_all ! (λ places. pass_all ! refl ((tt, tt), tt) $
    with_pointer first first refl b (o + 0) ! tt (λ part.
    sets ! (of_opd ! (load ! (through ! refl (fld ! refl (stop !))) (of_item ! 0 refl))) refl (Ptr-Good first) $
    shut_pointer first first refl b (o + 0) ! tt $
    sets ! (bin ! (get ! refl) (lit ! tt) (tests_null first may_ask)) refl (tt, tt) $
    returns ! (look_at ! 0 refl) $ free_all ! refl $
    keep ! (1 ∷ 2 ∷ 0 ∷ 3 ∷ []) $ ends Y lives.0 look token others ! $
    -- [the tokens; the `&`]
    let says = IsTrue answer ↔ (look.now.nodes ≡ leaf) in let told : List Val = vbool answer ∷ [] in
    feq_i ! (List Val) told told refl $ use0 logic (raw (fact ghosts says)) (fact_i ghosts says (emp ghosts) means) $
    move ! (2 ∷ 3 ∷ 1 ∷ []) $
    by ! (leaves logic signed stays clauses state (vbool answer) answer (tt, tt) (tt, tt))))))
