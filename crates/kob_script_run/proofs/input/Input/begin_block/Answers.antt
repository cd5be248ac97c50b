use Rattle.kob_script_run.proofs.Words.{EndLines, List, ap, arith, concat, drop, length, subst, sym, take, ℕ, ◌++◌, ◌-◌, ◌∙◌, ◌≡◌}
use Rattle.kob_script_run.proofs.InputLines.{cut_ends_line, cut_goes_over, lines_end_more}
use Rattle.kob_script_run.proofs.input.Input.begin_block.Goals as goal

pub returns-clause-bytes : goal.returns-clause-bytes
returns-clause-bytes c =
    let last = c.args.self.now.last.items in
    let end = c.size_of_lines-end.result in
    let lines : c.from_vec.result ≡ take end last =
    c.from_vec.ensures ∙ c.truncate.ensures.items ∙ ap (λ v. take end v.items) c.replace-lines.ensures.value in
    let next : c.replace-lines.new.dest.items ≡ take (length last - end) (drop end last) =
    ap (λ v. v.items) c.replace-lines.ensures.after ∙ c.in_ok-extend_from_slice.ensures.items
    ∙ ap (λ (front : List ℕ). front ++ take (length c.deref-2.result.now - end) (drop end c.deref-2.result.now))
    c.in_ok-next.ensures.items
    ∙ ap (λ (bytes : List ℕ). take (length bytes - end) (drop end bytes)) c.deref-2.ensures.value in
    ap (λ (blocks : List (List ℕ)). concat blocks ++ c.replace-lines.new.dest.items) c.in_ok-push.ensures.items
    ∙ cut_goes_over c.args.self.now.blocks.items last c.from_vec.result c.replace-lines.new.dest.items end lines next

pub returns-clause-lines : goal.returns-clause-lines
returns-clause-lines c = λ ends.
    let last = c.args.self.now.last.items in
    let end = c.size_of_lines-end.result in
    let lines : c.from_vec.result ≡ take end last =
    c.from_vec.ensures ∙ c.truncate.ensures.items ∙ ap (λ v. take end v.items) c.replace-lines.ensures.value in
    subst (λ (blocks : List (List ℕ)). EndLines blocks) (sym c.in_ok-push.ensures.items)
    (lines_end_more c.args.self.now.blocks.items c.from_vec.result ends
    (cut_ends_line last c.from_vec.result end (omega (arith, c.if-end-eq0.false)) (rw c.deref.ensures.value at c.size_of_lines-end.ensures.within)
    (rw c.deref.ensures.value at c.size_of_lines-end.ensures.line) lines))
