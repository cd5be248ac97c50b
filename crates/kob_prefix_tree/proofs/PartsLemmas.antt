-- How many bytes a tail and a key have in common at their beginning, and what stands behind them.
use Rattle.kob_prefix_tree.proofs.Words.{Branch, ChangedAt, Contents, EndsAt, Held, IsNeat, LeadsNowhere, List, Parts, PatternKind, [], arith, contents, drop, end_of, false, has_serials, held_in, kept_behind, led_by, length, length-drop, nat_tests, nothing, refl, subst, sym, take, take-append-drop, take_all, without_serials, suc, zero, ℕ, ◌++◌, ◌+◌, ◌<◌, ◌∷◌, ◌≡◌, ◌≢◌, ◌≤◌}
use Rattle.kob_prefix_tree.proofs.WayLemmas.{changed_here, held_inside, neat_inside, through, none_found, none_taken}

pub one_more : {x : ℕ} {tail key xs ys rest : List ℕ} (n : ℕ) → tail ≡ x ∷ xs → key ≡ x ∷ ys → Parts xs ys n rest
    → Parts tail key (n + 1) rest
one_more {x} {tail} {key} {xs} {ys} {rest} n tail_is key_is parts = grind arith

-- the same behind some bytes that both have
pub parts_behind : (n : ℕ) (xs ys others rest : List ℕ) (m : ℕ) → n ≤ length xs → ys ≡ take n xs ++ others
    → Parts (drop n xs) others m rest → Parts xs ys (n + m) rest
parts_behind zero xs ys others rest m le is parts = let none : m ≡ 0 + m = omega arith in
    subst (λ k. Parts xs ys k rest) none (subst (λ key. Parts xs key m rest) (sym is) parts)
parts_behind (suc n) [] ys others rest m le is parts = absurd (omega (arith, le))
parts_behind (suc n) (x ∷ xs) ys others rest m le is parts =
    let more : n + m + 1 ≡ suc n + m = omega arith in
    subst (λ k. Parts (x ∷ xs) ys k rest) more
    (one_more (n + m) refl is (parts_behind n xs (take n xs ++ others) others rest m (omega (arith, le)) refl parts))

-- a place where a tail and a key part
module _ (was now : Branch) (key rest : List ℕ) (count : ℕ) (tail_is : now.tail ≡ was.tail)
    (end_is : end_of now ≡ end_of was) (neat : IsNeat (contents was).1) (parts : Parts was.tail key count rest)
    (none : count ≡ length was.tail → LeadsNowhere rest (end_of was)) where
  pub ends : EndsAt count rest now
  ends = record {
    neat = grind (arith, neat, tail_is, end_is);
    within = grind (arith, parts.within, tail_is);
    nowhere = subst (LeadsNowhere rest) (λ i. led_by (drop count (sym tail_is i)) (sym end_is i))
        (at (drop count was.tail) rest parts.apart (λ all. none (grind (arith, length-drop count was.tail, parts.within))));
  }
    where
      at : (bytes rest : List ℕ)
          → ((b : ℕ) (more : List ℕ) → bytes ≡ b ∷ more → (byte : ℕ) (others : List ℕ) → rest ≡ byte ∷ others → byte ≢ b)
          → (bytes ≡ [] → LeadsNowhere rest (end_of was)) → LeadsNowhere rest (led_by bytes (end_of was))
      at [] rest apart none = none refl
      at (b ∷ bytes) [] apart none = tt
      at (b ∷ bytes) (byte ∷ rest) apart none = grind (arith, nat_tests, apart b bytes refl byte rest refl)

-- the bytes of a tail in two parts
pub led_by_both : (xs ys : List ℕ) (c : Contents) → led_by (xs ++ ys) c ≡ led_by xs (led_by ys c)
led_by_both [] ys c = refl
led_by_both (x ∷ xs) ys c = cc (led_by_both xs ys c)

pub led_by_parts : (n : ℕ) (tail : List ℕ) (c : Contents) → led_by tail c ≡ led_by (take n tail) (led_by (drop n tail) c)
led_by_parts n tail c = grind (arith, take-append-drop n tail, led_by_both (take n tail) (drop n tail) c)

-- at a key that leads nowhere, or within the bytes of a tail, nothing is held
pub nothing_at : (n : ℕ) (tail rest : List ℕ) (c : Contents) → LeadsNowhere rest (led_by (drop n tail) c)
    → (length rest ≡ 0 → n < length tail) → held_in (take n tail ++ rest) (led_by tail c) ≡ nothing
nothing_at n tail rest c nowhere short =
    let parts = led_by_parts n tail c in let inside = held_inside (take n tail) rest (led_by (drop n tail) c) in
    let none = at (drop n tail) rest nowhere in let left = length-drop n tail in grind arith
  where
    at : (bytes rest : List ℕ) → LeadsNowhere rest (led_by bytes c) → (length rest ≡ 0 → 0 < length bytes)
        → held_in rest (led_by bytes c) ≡ nothing
    at bytes (byte ∷ rest) nowhere some = grind (arith, nowhere)
    at (b ∷ bytes) [] nowhere some = refl
    at [] [] nowhere some = absurd (let none = some refl in omega arith)

module _ (count : ℕ) (rest : List ℕ) (here : Branch) (end : EndsAt count rest here) where
  abbrev key : List ℕ
  key = take count here.tail ++ rest

  -- nothing is taken where nothing stands
  pub none_here : (kind : PatternKind) (serials : List ℕ) → (length rest ≡ 0 → count < length here.tail)
      → (false ≡ has_serials kind serials (held_in key (contents here)))
      × ChangedAt key (without_serials kind serials) (contents here) (contents here)
  none_here kind serials short =
      let nowhere = nothing_at count here.tail rest (end_of here) end.nowhere short in
      let found = none_found kind serials in let taken = none_taken kind serials in grind (arith, nat_tests)

  -- the key ends with the bytes of the branch
  at_end : length rest ≡ 0 → count ≡ length here.tail → key ≡ here.tail ++ []
  at_end none all = grind (arith, take_all)

  pub held_at_end : length rest ≡ 0 → count ≡ length here.tail → held_in key (contents here) ≡ (end_of here).0
  held_at_end none all = grind (arith, at_end, held_inside)

  pub changed_at_end : (f : Held → Held) {bytes : List ℕ} {after now : Contents} → length rest ≡ 0
      → count ≡ length here.tail → bytes ≡ here.tail → after ≡ (f (end_of here).0, (end_of here).1)
      → now ≡ kept_behind bytes after → ChangedAt key f (contents here) now
  changed_at_end f none all bytes_are after_is now_is =
      let key_is = at_end none all in
      let inside = through f here.tail [] (end_of here) (f (end_of here).0, (end_of here).1) end.neat in
      let at_place = changed_here f (end_of here).0 (end_of here).1 (neat_inside here.tail (end_of here) end.neat) in
      grind arith
