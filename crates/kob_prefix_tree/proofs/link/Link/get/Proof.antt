-- `get` names the place where the pointer leads. What the link lends of its nodes has the `&` to the node that lies
-- there.
use Rattle.kob_prefix_tree.proofs.Words.{ !, Bor, Goes-none_ref, Leads, List, Stays, Tree, Val, [], a_type, after, alloc_all, at_ret, block_of, block_ptr, blocks, by, count_of, emp, enter, env, exec, fact, fact_i, feq_i, first, fjoin, flft, free_all, ftrue, inst_fn, keep, layouts, leaves, move, named, nodes_lent, param, pass_all, plain, proved, qed, raw, refl, returns, rewrite, sets, sets_last, shr_Tells, shr_vals, stay_none_ref, tables, tree_of, use0, vptr, walk_of, whole, yes, ‵, ◌$◌, ◌+◌, ◌∵◌, ◌∷◌, ◌≡◌, ◌⊑◌, ◌⊛◌, heard, of_opd, fld, stop, through, get, look_at, addr, hop, look_in, split}
use types.Kit.{drop}
use Rattle.kob_prefix_tree.proofs.Blocks.{FirstNode, ends, enters, given, shut_pointer, with_pointer}
use Rattle.kob_prefix_tree.proofs.Firsts.{first_of, sees_first}
use Rattle.kob_prefix_tree.specs.contracts.link.Link as link
use Rattle.kob_prefix_tree.specs.contracts.link.Link.get as f
use Rattle.kob_prefix_tree.proofs.link.Link.get.Code as code
use Rattle.kob_prefix_tree.proofs.link.Link.get.Statement.{statement}

pub get_spec : {M : Type 1} → statement M
get_spec ghosts logic model runs wired Y laws =
    let Looked = plain (λ _. link.the_row (param 0 Y)) in
    let types = layouts (a_type ∷ []) (Y, tt) in let body = inst_fn types code.function in
    let table = tables ghosts logic.H model runs runs.env in
    let signed = f.ended Y in let clauses = f.clauses Y logic model.mem runs.returns in
    let stays : Stays signed.signature.params signed.kept = (stay_none_ref (0 ∷ []) tt Looked yes, tt) in
    let walk = walk_of logic signed stays clauses in
    proved logic signed stays clauses model runs (Goes-none_ref logic 2 (0 ∷ []) tt Looked yes, tt)
    (f.Key.name types) body (code.unfolded ghosts logic.H model runs wired (Y, tt))
    (λ _. (shr_vals, tt)) (λ lives. (shr_Tells (named 0) lives.0 (link.the_row (param 0 Y)), tt))
    (λ lives shares bounds looks asked _.
    let look = looks.0 in let pointer = look.now.first in let b = look.ref_ptr.0 in let o = look.ref_ptr.1 in
    let state : walk.Ghost = ((lives, shares, bounds, looks, (shr_vals look, tt)), asked) in
    let token = flft lives.0 shares.0 in let others = ‵ (flft lives.1.0 shares.1.0) ⊛ ‵ ftrue in
    let wanted = raw (fact ghosts (lives.1.0 ⊑ Y.lives)) ⊛ raw (fact ghosts (Leads look.now.nodes)) in
    qed logic (((‵ token ⊛ others) ⊛ ‵ (given Y lives.0 look)) ∷ wanted ∷ []) ∵
    move ! (1 ∷ []) $ split ! $ drop ! $ heard ! (Leads look.now.nodes) (λ some_node.
    let node = (first_of look.now.nodes some_node).0 in let is_tree = (first_of look.now.nodes some_node).1 in
    enters Y lives.0 look token others ! laws $
    rewrite ! 0 (λ (t : Tree Y.Denot). ‵ (nodes_lent (param 0 Y) t pointer lives.0)) is_tree refl $
    sees_first Y ! node pointer lives.0 (λ lies.
    let there = block_ptr (block_of pointer) (count_of pointer) in
    let seen : Bor (FirstNode Y) = record { now = node; ref_ptr = (block_of pointer, count_of pointer) } in
    move ! (1 ∷ 2 ∷ []) $
    -- [the pointer; the token; the node; the link; nothing; the other tokens]
    enter ! table.C table.Λ body (shr_vals look) (walk.post state) $
    alloc_all ! (λ places. let local = env body.locals places in pass_all ! refl ((tt, tt), tt) $
    with_pointer pointer there lies b (o + 0) ! tt (λ part.
    first ! $ blocks ! $ sets_last ! (addr ! (through ! refl (fld ! refl (hop ! (look_in ! 0 (whole !)) (stop !)))))
    refl (tt, tt) $
    exec ! table.C table.Λ local (after 1 body.body) (at_ret local (walk.post state)) $
    shut_pointer pointer there lies b (o + 0) ! tt $
    sets ! (of_opd ! (get ! refl)) refl (tt, tt) $ returns ! (look_at ! 0 refl) $ free_all ! refl $
    move ! (2 ∷ 3 ∷ 0 ∷ 4 ∷ []) $ ends Y lives.0 look token others ! $
    -- [the tokens; the `&` to the link; the node]
    move ! (2 ∷ []) $ feq_i ! (List Val) (shr_vals seen) (shr_vals seen) refl $ fjoin ! $
    use0 logic (raw (fact ghosts (look.now.nodes ≡ tree_of node))) (fact_i ghosts (look.now.nodes ≡ tree_of node)
    (emp ghosts) is_tree) $
    keep ! (2 ∷ 3 ∷ 1 ∷ 0 ∷ []) $
    -- [the tokens; the `&` to the link; the `&` to the node; what is promised]
    by ! (leaves logic signed stays clauses state (vptr seen.ref_ptr.0 seen.ref_ptr.1) seen (tt, tt) (tt, tt)))))))
