-- `join` opens the siblings at their end, stores the other link there, and closes them with it.
use Rattle.kob_prefix_tree.proofs.Words.{ !, Goes-blank, Goes-dropped, Leads, Link, List, Ptr, RattleType, RawPtr, SProp, Stays, Val, WpFn, [], a_type, after, alloc_all, ap, assigns_last, at_ret, blocks, by, emp, enter, env, exec, fact, fact_i, feq_l, first, flft, free_all, fsplit, ftrue, heard, inst_fn, join, keep, last_of, layouts, leaves, move, no, owns, param, pass_all, plain, prop, proved_at, ptr_val, qed, raw, refl, regoal, returns, sets, split, split3, stay_dropped, store, tables, types_at, use0, vptr, walk_of, with_others, yes, ‵, ◌$◌, ◌++◌, ◌+◌, ◌∙◌, ◌∵◌, ◌∷◌, ◌≡◌, ◌⊑◌, ◌⊛◌, of_opd, fld, stop, through, get, look_at, fjoin, addr}
use denote.Steps.{nothing}
use types.Kit.{drop}
use Rattle.kob_prefix_tree.proofs.Ends.{closes_with, end_offset, link_lies, opens_end}
use Rattle.kob_prefix_tree.proofs.Firsts.{apart, together, word, word_fits}
use Rattle.kob_prefix_tree.specs.contracts.link.Link as link
use Rattle.kob_prefix_tree.specs.contracts.link.Link.join as f
use Rattle.kob_prefix_tree.proofs.link.Link.join.Code as code
use Rattle.kob_prefix_tree.proofs.link.Link.join.Statement.{statement}

pub join_spec : {M : Type 1} → statement M
join_spec ghosts logic model runs wired Y laws =
    let Linked : RattleType = link.the_row (param 0 Y) in
    let types = layouts (a_type ∷ []) (Y, tt) in let body = inst_fn types code.function in
    let table = tables ghosts logic.H model runs runs.env in
    let signed = f.ended Y in let clauses = f.clauses Y logic model.mem runs.returns in
    let gone = stay_dropped (plain (λ _. Linked)) no in let copied = stay_dropped (plain (λ _. RawPtr)) yes in
    let stays : Stays signed.signature.params signed.kept = (gone, (copied, (gone, tt))) in
    let walk = walk_of logic signed stays clauses in
    let used_up = Goes-blank logic 1 (plain (λ _. Linked)) no (λ _ _ _. tt) in
    let copy_gone = Goes-dropped logic 1 (plain (λ _. RawPtr)) yes (λ _ _ _. refl) in
    proved_at logic signed stays clauses model runs (used_up, (copy_gone, (used_up, tt))) (f.Key.name types) body
    (code.unfolded ghosts logic.H model runs wired (Y, tt)) (λ state _.
    let lives = state.0.0 in let these = state.0.3.0 in let last = state.0.3.1.0 in let others = state.0.3.1.1.0 in
    let Runs : List Val → SProp ghosts = λ given. WpFn ghosts logic.H table.C table.Λ body given (walk.post state) in
    let at_last = last ≡ last_of these.nodes these.first in
    let asked = raw (fact ghosts (lives.0 ⊑ Y.lives)) ⊛ raw (fact ghosts (Leads these.nodes))
    ⊛ raw (fact ghosts at_last) in
    let alive = ‵ (flft lives.0 state.0.1.0) ⊛ ‵ ftrue in
    let arrived = ‵ (owns (types_at signed.signature.params lives) state.0.3 state.0.4) in
    let words = state.0.4.0 in let pointers = state.0.4.1.0 in let other_words = state.0.4.1.1.0 in
    qed logic ((alive ⊛ arrived) ∷ asked ∷ []) ∵
    -- [what is asked; the tokens, with what arrived]
    move ! (1 ∷ []) $ split3 ! $ drop ! $ heard ! (Leads these.nodes) (λ some_node. heard ! at_last (λ is_last.
    split ! $ move ! (1 ∷ []) $ fsplit ! $ apart Y ! these words (λ is_word.
    opens_end Y laws ! _ these.nodes these.first some_node (λ b o old lies.
    let place = o + end_offset Y laws in
    let made : Link Y.Denot = record { nodes = with_others these.nodes others; first = these.first } in
    -- [the place at the end; what closes it; the pointer and the others; the tokens]
    move ! (2 ∷ []) $ fsplit ! $ feq_l ! (λ is_pointer. fsplit ! $ apart Y ! others other_words (λ is_other.
    regoal ! (λ (given : List Val). prop (Runs (given ++ (pointers ++ (other_words ++ []))))) is_word refl $
    regoal ! (λ (given : List Val). prop (Runs (word these.first ∷ (given ++ (other_words ++ [])))))
    (is_pointer ∙ ap (λ (p : Ptr). ptr_val p ∷ []) (is_last ∙ lies)) refl $
    regoal ! (λ (given : List Val). prop (Runs (word these.first ∷ vptr b o ∷ (given ++ [])))) is_other refl $
    -- [the nodes of the others; nothing; the place at the end; what closes it; the tokens]
    move ! (2 ∷ []) $
    enter ! table.C table.Λ body (word these.first ∷ vptr b o ∷ word others.first ∷ []) (walk.post state) $
    alloc_all ! (λ places. let local = env body.locals places in
    pass_all ! refl (word_fits Y these.first, ((tt, tt), (word_fits Y others.first, tt))) $
    first ! $ blocks ! $ sets ! (addr ! (through ! refl (fld ! refl (stop !)))) refl (tt, tt) $
    sets ! (of_opd ! (get ! refl)) refl (word_fits Y others.first) $
    assigns_last ! (of_opd ! (get ! refl)) (through ! refl (stop !)) (store ! 0 refl (word_fits Y others.first)) $
    exec ! table.C table.Λ local (after 1 body.body) (at_ret local (walk.post state)) $
    sets ! (of_opd ! (get ! refl)) refl (word_fits Y these.first) $ returns ! (look_at ! 0 refl) $ free_all ! refl $
    -- the other link lies there now
    move ! (1 ∷ []) $ link_lies Y laws ! others b place $ move ! (2 ∷ []) $
    closes_with Y laws ! others these.nodes these.first b place $ together Y ! made $
    -- [the link; nothing; the tokens]
    let starts = made.first ≡ these.first in let holds = made.nodes ≡ with_others these.nodes others in
    use0 logic (raw (fact ghosts holds)) (fact_i ghosts holds (emp ghosts) refl) $
    use0 logic (raw (fact ghosts starts)) (fact_i ghosts starts (emp ghosts) refl) $ join ! $ nothing ! $ nothing ! $
    fjoin ! $ nothing ! $ fjoin ! $ nothing ! $ fjoin ! $
    -- [what is left of the three; what is promised; the link; nothing; the tokens]
    keep ! (4 ∷ 0 ∷ 2 ∷ 1 ∷ []) $
    let no_more : Unit {0} × Unit {0} = (tt, tt) in
    by ! (leaves logic signed stays clauses state (word these.first) made _ (tt, (tt, no_more)))))))))))
