-- What was written of the text of a run.
use Rattle.kob_script_run.proofs.Words.{Appends, AppendsAllBut, AppendsPart, Clean, Err, Event, List, Ok, OnOk, Option, Reply, Result, Stopped, WritesPartOfRun, WritesRun, ap, arith, cases_lt, drop, drop_more, false, get_or, inl, inr, is_err, length, length-drop, nat_tests, refl, stopped_text, take, take_all, text_of_replies, ℕ, ◌++◌, ◌+◌, ◌<◌, ◌∷◌, ◌≡◌, ◌≤◌}
use Rattle.kob_script_run.proofs.Parts.{all_written, part_of_front, part_of_held, part_with_more, written_with_more}

pub of_ok : {T E : Type 0} {P : Type 0} (r : Result T E) → is_err r ≡ false → OnOk r P → P
of_ok (Ok x) is holds = holds
of_ok (Err e) is holds = absurd (cc is)

-- what is left from a place on begins with what stands at the place
pub next_left : {A : Type 0} (xs left more : List A) (i : ℕ) (x : A) → left ≡ drop i xs → left ≡ x ∷ more
    → (i < length xs) × (x ≡ get_or xs i x) × (more ≡ drop (i + 1) xs)
next_left xs left more i x is front = grind (arith, nat_tests, length-drop i xs, drop_more xs i x)

module _ (replies : List Event → List Reply) (events : List Event) (done : ℕ) (a b : Option (List ℕ)) where
  -- a part of the text of the first replies is a part of that of a run
  pub part_of_run : done ≤ length events → AppendsPart a b (text_of_replies (replies (take done events)))
      → WritesPartOfRun replies events a b
  part_of_run within part =
      let text = text_of_replies (replies (take done events)) in
      elim (cases_lt done (length events)) [
        | inl fewer ↦ (
          Stopped,
          text ++ stopped_text done,
          (done, fewer, refl),
          part_of_front a b text (stopped_text done) part,
        )
        | inr all ↦ (Clean, text, ap (λ some. text_of_replies (replies some)) (take_all done events all), part)
      ]

  module _ (c : Option (List ℕ)) (held : List ℕ) (so_far : AppendsAllBut a b (text_of_replies (replies (take done events))) held) where
    pub all_of_run : length events ≤ done → Appends b c held → WritesRun replies events Clean a c
    all_of_run past wrote = grind (arith, nat_tests, take_all, all_written)

    pub part_of_whole_run : length events ≤ done → AppendsPart b c held → WritesPartOfRun replies events a c
    part_of_whole_run past part =
        grind (
          arith,
          nat_tests,
          take_all done events past,
          part_of_held a b c (text_of_replies (replies (take done events))) held so_far part,
        )

    pub stopped_run : done < length events → Appends b c (held ++ stopped_text done)
        → WritesRun replies events Stopped a c
    stopped_run few wrote = (
      text_of_replies (replies (take done events)) ++ stopped_text done,
      (done, few, refl),
      written_with_more a b c (text_of_replies (replies (take done events))) held so_far (stopped_text done) wrote,
    )

    pub part_of_stopped_run : done < length events → AppendsPart b c (held ++ stopped_text done)
        → WritesPartOfRun replies events a c
    part_of_stopped_run few part = (
      Stopped,
      text_of_replies (replies (take done events)) ++ stopped_text done,
      (done, few, refl),
      part_with_more a b c (text_of_replies (replies (take done events))) held so_far (stopped_text done) part,
    )
