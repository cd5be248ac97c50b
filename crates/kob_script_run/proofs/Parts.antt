-- Texts that are written in several parts, of which an end is held.
use Rattle.kob_script_run.proofs.Words.{Appends, Appends-nil, Appends-trans, AppendsAllBut, AppendsPart, Err, List, Ok, OnErr, OnOk, Option, Result, [], ap, append-nil, append_assoc, arith, length, length-append, nat_tests, subst, sym, take, take-append-add, take-append-le, ℕ, ◌++◌, ◌+◌, ◌∙◌, ◌≡◌}

-- a part of what follows is a part of the whole
pub part_after : (a b c : Option (List ℕ)) (written more : List ℕ) → Appends a b written → AppendsPart b c more
    → AppendsPart a c (written ++ more)
part_after a b c written more before (count, fewer, wrote) = (
  length written + count,
  omega (arith, length-append written more, fewer),
  subst (Appends a c) (sym (take-append-add written more count))
      (Appends-trans a b c written (take count more) before wrote),
)

-- a part of a front is a part of the whole
pub part_of_front : (a b : Option (List ℕ)) (front more : List ℕ) → AppendsPart a b front
    → AppendsPart a b (front ++ more)
part_of_front a b front more (count, fewer, wrote) =
    grind (arith, nat_tests, length-append front more, take-append-le count front more)

pub all_held : (a : Option (List ℕ)) (text held : List ℕ) → held ≡ text → AppendsAllBut a a text held
all_held a text held is = ([], sym is, Appends-nil a)

module _ (a b c : Option (List ℕ)) (text held : List ℕ) (so_far : AppendsAllBut a b text held) where
  -- what is held and more goes on
  pub goes_on : (more rest : List ℕ) → AppendsAllBut b c (held ++ more) rest → AppendsAllBut a c (text ++ more) rest
  goes_on more rest (again, cut, wrote) = (
    so_far.0 ++ again,
    ap (λ t. t ++ more) so_far.1 ∙ append_assoc so_far.0 held more ∙ ap (λ t. so_far.0 ++ t) cut
        ∙ sym (append_assoc so_far.0 again rest),
    Appends-trans a b c so_far.0 again so_far.2 wrote,
  )

  -- only a part of what is held and more was written
  pub part_with_more : (more : List ℕ) → AppendsPart b c (held ++ more) → AppendsPart a c (text ++ more)
  part_with_more more part =
      subst (AppendsPart a c) (sym (ap (λ t. t ++ more) so_far.1 ∙ append_assoc so_far.0 held more))
      (part_after a b c so_far.0 (held ++ more) so_far.2 part)

  -- what is held and more was written
  pub written_with_more : (more : List ℕ) → Appends b c (held ++ more) → Appends a c (text ++ more)
  written_with_more more wrote = grind (arith, nat_tests, append_assoc)

  -- all that is held was written
  pub all_written : Appends b c held → Appends a c text
  all_written wrote = subst (Appends a c) (sym so_far.1) (Appends-trans a b c so_far.0 held so_far.2 wrote)

  -- only a part of what is held was written
  pub part_of_held : AppendsPart b c held → AppendsPart a c text
  part_of_held part = subst (AppendsPart a c) (sym so_far.1) (part_after a b c so_far.0 held so_far.2 part)

pub on_ok : {T E : Type 0} {P Q : Type 0} (r : Result T E) → (P → Q) → OnOk r P → OnOk r Q
on_ok (Ok x) follows holds = follows holds
on_ok (Err e) follows holds = tt

pub on_err : {T E : Type 0} {P Q : Type 0} (r : Result T E) → (P → Q) → OnErr r P → OnErr r Q
on_err (Ok x) follows holds = tt
on_err (Err e) follows holds = follows holds

pub is_err : {T E : Type 0} {P : Type 0} (r : Result T E) → P → OnErr r P
is_err (Ok x) holds = tt
is_err (Err e) holds = holds

-- two texts were written, and nothing is held
pub none_held : (a b c : Option (List ℕ)) (one two held : List ℕ) → held ≡ [] → Appends a b one → Appends b c two
    → AppendsAllBut a c (one ++ two) held
none_held a b c one two held none first second = (
  one ++ two,
  sym (append-nil (one ++ two)) ∙ ap (λ t. (one ++ two) ++ t) (sym none),
  Appends-trans a b c one two first second,
)

-- what is held, and then a text of three parts
pub three_parts : (held one two three text : List ℕ) → two ≡ text
    → held ++ ((one ++ text) ++ three) ≡ ((held ++ one) ++ two) ++ three
three_parts held one two three text is = grind (arith, nat_tests, append_assoc)

pub same_text : (a b : Option (List ℕ)) (text same held : List ℕ) → text ≡ same → AppendsAllBut a b text held
    → AppendsAllBut a b same held
same_text a b text same held is (written, cut, wrote) = (written, sym is ∙ cut, wrote)
