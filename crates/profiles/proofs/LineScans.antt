-- A line that is scanned from a place of the text: its parts are tested one after the other, as the tests of a line are.
use Prim.Native.Nat.{ℕ, ◌+◌, ◌-◌, ◌≤◌, ◌<◌}
use mathlib.Core.Path.{◌≡◌, refl, sym, ap, ap₂, ◌∙◌}
use mathlib.Core.Logic.{◌≢◌}
use mathlib.Core.Bool.{Bool, true, false, cond, ◌&&◌}
use mathlib.Core.List.{List, [], ◌∷◌, ◌++◌}
use mathlib.Core.Option.{Option, none, some}
use Rattle.std.proofs.Common.{Some, None}
use Rattle.profiles.specs.declared.LineKind.TheVariants as K
use native.Mathlib.Omega.{arith}
use lib.ListN.{length, get_or, drop, length-append, length-drop}
use lib.Seq.{get_or-drop, drop-drop}
use Rattle.fields.specs.Ascii.{ascii}
use Rattle.lists.specs.Lists.{joined}
use Rattle.profiles.specs.Profiles.{Mode, PathEntry, mode_text, modes_text, profile_word, profile_end, modes_start, modes_end, profile_line, entry_line, end_line, path_good, modes_good, entry_good}
use Rattle.profiles.specs.Tokens.{given, starts, tokens}
use Rattle.profiles.specs.Reading.{Line, opens, enters, closes, line_text, line_good, path_in, modes_in, entry_in, lines_to_try, line_among, line_in, lines_in}
use Rattle.profiles.specs.Scanning.{mode_bits, line_scan, line_at, letter_p, closing_brace}
use Rattle.profiles.proofs.TokenLaws.{starts_split, starts_append, tokens_step}
use Rattle.profiles.proofs.ProfileLines.{and-false, path_front, mode_long, modes_front, line_long, line_passed, no_profile_line, no_entry_line, no_end_line}

-- ---- what is scanned ends within the text

pub starts_room : (w t : List ℕ) (at : ℕ) → starts w (drop at t) ≡ true → at ≤ length t → at + length w ≤ length t
starts_room w t at h l = omega (arith, ap length (starts_split w (drop at t) h), length-append w (drop (length w) (drop at t)), length-drop at t)

pub path_room : (t : List ℕ) (at : ℕ) → at ≤ length t → at + length (path_in (drop at t)) ≤ length t
path_room t at l = starts_room (path_in (drop at t)) t at (path_front (drop at t)) l

pub modes_room : (t : List ℕ) (at : ℕ) → at ≤ length t → at + length (modes_text (modes_in (drop at t))) ≤ length t
modes_room t at l = starts_room (modes_text (modes_in (drop at t))) t at (modes_front (drop at t)) l

-- ---- modes that are none

pub modes_some : (ms : List Mode) (at : ℕ) → (at + length (modes_text ms) ≡ at → ⊥) → modes_good ms ≡ true
unfolding modes_good modes_text joined
modes_some [] at n = absurd (n (omega arith))
modes_some (m ∷ ms) at n = refl

pub modes_none : (ms : List Mode) (at : ℕ) → at + length (modes_text ms) ≡ at → modes_good ms ≡ false
unfolding modes_good modes_text joined
modes_none [] at e = refl
modes_none (m ∷ ms) at e = absurd (omega (arith, length-append (mode_text m) (modes_text ms), mode_long m))

-- ---- the tests in the order of the code

profile_order : (a b c : Bool) → (b && (a && c)) ≡ (a && (b && c))
profile_order true b c = refl
profile_order false b c = and-false b

entry_order : (a b c d : Bool) → ((a && b) && (c && d)) ≡ (a && (c && (b && d)))
entry_order true true c d = refl
entry_order true false c d = sym (and-false c)
entry_order false b c d = refl

-- ---- one line is left to try

tried : (b : Bool) (l : Line) (at : ℕ) → given (cond b (some l) none) None (λ x. Some (line_scan at x)) ≡ cond b (Some (line_scan at l)) None
tried true l at = refl
tried false l at = refl

first_at : (t : List ℕ) (at : ℕ) → get_or (drop at t) 0 0 ≡ get_or t at 0
first_at t at = let e : at + 0 ≡ at = omega arith in get_or-drop at t 0 0 ∙ ap (λ (k : ℕ). get_or t k 0) e

-- ---- `profile PATH {`

module _ (t : List ℕ) (at end : ℕ) (f : get_or t at 0 ≡ letter_p) (e : end ≡ at + 8 + length (path_in (drop (at + 8) t))) where
  profile_tried : line_in (drop at t)
      ≡ cond (path_good (path_in (drop (at + 8) t)) && starts (profile_line (path_in (drop (at + 8) t))) (drop at t)) (some (opens (path_in (drop (at + 8) t)))) none
  unfolding line_in lines_to_try line_among line_good line_text profile_word ascii
  profile_tried =
      let u = drop at t in
      ap (λ (o : Option Line). cond (path_good (path_in (drop 8 u)) && starts (profile_line (path_in (drop 8 u))) u) (some (opens (path_in (drop 8 u)))) o)
      (line_passed (enters (entry_in u)) (closes ∷ []) u (no_entry_line u (λ q. omega (arith, first_at t at)))
      ∙ line_passed closes [] u (no_end_line u (λ q. omega (arith, first_at t at))))
      ∙ ap (λ (v : List ℕ). cond (path_good (path_in v) && starts (profile_line (path_in v)) u) (some (opens (path_in v))) none) (drop-drop 8 at t)

  profile_parts : starts (profile_line (path_in (drop (at + 8) t))) (drop at t) ≡ (starts profile_word (drop at t) && starts profile_end (drop end t))
  unfolding profile_line profile_word ascii
  profile_parts =
      let p = path_in (drop (at + 8) t) in
      starts_append profile_word (p ++ profile_end) (drop at t)
      ∙ ap (λ (b : Bool). starts profile_word (drop at t) && b)
      (ap (starts (p ++ profile_end)) (drop-drop 8 at t)
      ∙ starts_append p profile_end (drop (at + 8) t)
      ∙ ap₂ ◌&&◌ (path_front (drop (at + 8) t)) (ap (starts profile_end) (drop-drop (length p) (at + 8) t ∙ ap (λ (k : ℕ). drop k t) (sym e))))

  profile_scan : line_at t at
      ≡ cond (starts profile_word (drop at t) && (path_good (path_in (drop (at + 8) t)) && starts profile_end (drop end t))) (Some (line_scan at (opens (path_in (drop (at + 8) t))))) None
  unfolding line_at
  profile_scan =
      let p = path_in (drop (at + 8) t) in
      ap (λ (o : Option Line). given o None (λ x. Some (line_scan at x))) profile_tried
      ∙ tried (path_good p && starts (profile_line p) (drop at t)) (opens p) at
      ∙ ap (λ (b : Bool). cond b (Some (line_scan at (opens p))) None)
      (ap (λ (b : Bool). path_good p && b) profile_parts ∙ profile_order (starts profile_word (drop at t)) (path_good p) (starts profile_end (drop end t)))

  pub profile_no_word : starts profile_word (drop at t) ≡ false → None ≡ line_at t at
  profile_no_word a = sym (rw a at profile_scan)

  pub profile_no_path : starts profile_word (drop at t) ≡ true → path_good (path_in (drop (at + 8) t)) ≡ false → None ≡ line_at t at
  profile_no_path a b = sym (rw (a, b) at profile_scan)

  pub profile_no_end : starts profile_word (drop at t) ≡ true → path_good (path_in (drop (at + 8) t)) ≡ true → starts profile_end (drop end t) ≡ false → None ≡ line_at t at
  profile_no_end a b c = sym (rw (a, b, c) at profile_scan)

  profile_next : at + length (line_text (opens (path_in (drop (at + 8) t)))) ≡ end + 3
  unfolding line_text profile_line profile_word profile_end ascii
  profile_next = omega (arith, e, length-append (path_in (drop (at + 8) t)) profile_end)

  pub profile_scanned : starts profile_word (drop at t) ≡ true → path_good (path_in (drop (at + 8) t)) ≡ true → starts profile_end (drop end t) ≡ true
      → Some (record { kind = K.Profile; path = at + 8; length = end - (at + 8); modes = 0; next = end + 3 }) ≡ line_at t at
  unfolding line_scan profile_word ascii
  profile_scanned a b c =
      let n : end - (at + 8) ≡ length (path_in (drop (at + 8) t)) = omega arith in
      (λ i. Some (record { kind = K.Profile; path = at + 8; length = n i; modes = 0; next = sym profile_next i })) ∙ sym (rw (a, b, c) at profile_scan)

-- ---- `PATH MODES,`

module _ (t : List ℕ) (at end next : ℕ) (f : get_or t at 0 ≢ letter_p) (g : get_or t at 0 ≢ closing_brace) (e : end ≡ at + length (path_in (drop at t)))
    (n : next ≡ end + 1 + length (modes_text (modes_in (drop (end + 1) t)))) where
  entry_is : entry_in (drop at t) ≡ record { path = path_in (drop at t); modes = modes_in (drop (end + 1) t) }
  unfolding entry_in
  entry_is =
      let k : at + (length (path_in (drop at t)) + 1) ≡ end + 1 = omega arith in
      let q : modes_in (drop (length (path_in (drop at t)) + 1) (drop at t)) ≡ modes_in (drop (end + 1) t)
      = ap modes_in (drop-drop (length (path_in (drop at t)) + 1) at t ∙ ap (λ (j : ℕ). drop j t) k) in
      λ i. record { path = path_in (drop at t); modes = q i }

  entry_tried : line_in (drop at t)
      ≡ cond ((path_good (path_in (drop at t)) && modes_good (modes_in (drop (end + 1) t)))
      && starts (entry_line (record { path = path_in (drop at t); modes = modes_in (drop (end + 1) t) })) (drop at t))
      (some (enters (record { path = path_in (drop at t); modes = modes_in (drop (end + 1) t) }))) none
  unfolding line_in lines_to_try line_among line_good line_text entry_good
  entry_tried =
      let u = drop at t in
      line_passed (opens (path_in (drop (length profile_word) u))) (enters (entry_in u) ∷ closes ∷ []) u
      (no_profile_line (path_in (drop (length profile_word) u)) u (λ q. f (sym (q ∙ first_at t at))))
      ∙ ap (λ (o : Option Line). cond (entry_good (entry_in u) && starts (entry_line (entry_in u)) u) (some (enters (entry_in u))) o)
      (line_passed closes [] u (no_end_line u (λ q. g (sym (q ∙ first_at t at)))))
      ∙ ap (λ (x : PathEntry). cond (entry_good x && starts (entry_line x) u) (some (enters x)) none) entry_is

  entry_parts : starts (entry_line (record { path = path_in (drop at t); modes = modes_in (drop (end + 1) t) })) (drop at t) ≡ (starts modes_start (drop end t) && starts modes_end (drop next t))
  unfolding entry_line modes_start ascii
  entry_parts =
      let p = path_in (drop at t) in
      let m = modes_text (modes_in (drop (end + 1) t)) in
      starts_append p (modes_start ++ (m ++ modes_end)) (drop at t)
      ∙ ap₂ ◌&&◌ (path_front (drop at t))
      (ap (starts (modes_start ++ (m ++ modes_end))) (drop-drop (length p) at t ∙ ap (λ (k : ℕ). drop k t) (sym e))
      ∙ starts_append modes_start (m ++ modes_end) (drop end t)
      ∙ ap (λ (b : Bool). starts modes_start (drop end t) && b)
      (ap (starts (m ++ modes_end)) (drop-drop 1 end t)
      ∙ starts_append m modes_end (drop (end + 1) t)
      ∙ ap₂ ◌&&◌ (modes_front (drop (end + 1) t)) (ap (starts modes_end) (drop-drop (length m) (end + 1) t ∙ ap (λ (k : ℕ). drop k t) (sym n)))))

  entry_scan : line_at t at
      ≡ cond (path_good (path_in (drop at t)) && (starts modes_start (drop end t) && (modes_good (modes_in (drop (end + 1) t)) && starts modes_end (drop next t))))
      (Some (line_scan at (enters (record { path = path_in (drop at t); modes = modes_in (drop (end + 1) t) })))) None
  unfolding line_at
  entry_scan =
      let p = path_in (drop at t) in
      let ms = modes_in (drop (end + 1) t) in
      let x : PathEntry = record { path = p; modes = ms } in
      ap (λ (o : Option Line). given o None (λ x. Some (line_scan at x))) entry_tried
      ∙ tried ((path_good p && modes_good ms) && starts (entry_line x) (drop at t)) (enters x) at
      ∙ ap (λ (b : Bool). cond b (Some (line_scan at (enters x))) None)
      (ap (λ (b : Bool). (path_good p && modes_good ms) && b) entry_parts ∙ entry_order (path_good p) (modes_good ms) (starts modes_start (drop end t)) (starts modes_end (drop next t)))

  pub entry_no_path : path_good (path_in (drop at t)) ≡ false → None ≡ line_at t at
  entry_no_path a = sym (rw a at entry_scan)

  pub entry_no_space : path_good (path_in (drop at t)) ≡ true → starts modes_start (drop end t) ≡ false → None ≡ line_at t at
  entry_no_space a b = sym (rw (a, b) at entry_scan)

  pub entry_no_mode : path_good (path_in (drop at t)) ≡ true → starts modes_start (drop end t) ≡ true → next ≡ end + 1 → None ≡ line_at t at
  entry_no_mode a b c = sym (rw (a, b, modes_none (modes_in (drop (end + 1) t)) (end + 1) (sym n ∙ c)) at entry_scan)

  pub entry_no_end : path_good (path_in (drop at t)) ≡ true → starts modes_start (drop end t) ≡ true → (next ≡ end + 1 → ⊥) → starts modes_end (drop next t) ≡ false → None ≡ line_at t at
  entry_no_end a b c d = sym (rw (a, b, modes_some (modes_in (drop (end + 1) t)) (end + 1) (λ q. c (n ∙ q)), d) at entry_scan)

  entry_next : at + length (line_text (enters (record { path = path_in (drop at t); modes = modes_in (drop (end + 1) t) }))) ≡ next + 2
  unfolding line_text entry_line modes_start modes_end ascii
  entry_next =
      let m = modes_text (modes_in (drop (end + 1) t)) in
      omega (arith, e, n, length-append (path_in (drop at t)) (modes_start ++ (m ++ modes_end)), length-append m modes_end)

  pub entry_scanned : path_good (path_in (drop at t)) ≡ true → starts modes_start (drop end t) ≡ true → (next ≡ end + 1 → ⊥) → starts modes_end (drop next t) ≡ true
      → (bits : ℕ) → bits ≡ mode_bits (modes_in (drop (end + 1) t)) → Some (record { kind = K.Entry; path = at; length = end - at; modes = bits; next = next + 2 }) ≡ line_at t at
  unfolding line_scan
  entry_scanned a b c d bits w =
      let k : end - at ≡ length (path_in (drop at t)) = omega arith in
      (λ i. Some (record { kind = K.Entry; path = at; length = k i; modes = w i; next = sym entry_next i }))
      ∙ sym (rw (a, b, modes_some (modes_in (drop (end + 1) t)) (end + 1) (λ q. c (n ∙ q)), d) at entry_scan)

-- ---- `}`

module _ (t : List ℕ) (at : ℕ) (f : get_or t at 0 ≡ closing_brace) where
  end_scan : line_at t at ≡ cond (starts end_line (drop at t)) (Some (line_scan at closes)) None
  unfolding line_at line_in lines_to_try line_among line_good line_text
  end_scan =
      let u = drop at t in
      ap (λ (o : Option Line). given o None (λ x. Some (line_scan at x)))
      (line_passed (opens (path_in (drop (length profile_word) u))) (enters (entry_in u) ∷ closes ∷ []) u
      (no_profile_line (path_in (drop (length profile_word) u)) u (λ q. omega (arith, first_at t at)))
      ∙ line_passed (enters (entry_in u)) (closes ∷ []) u (no_entry_line u (λ q. omega (arith, first_at t at))))
      ∙ tried (starts end_line u) closes at

  pub end_no_line : starts end_line (drop at t) ≡ false → None ≡ line_at t at
  end_no_line a = sym (rw a at end_scan)

  pub end_scanned : starts end_line (drop at t) ≡ true → Some (record { kind = K.End; path = at; length = 0; modes = 0; next = at + 2 }) ≡ line_at t at
  unfolding line_scan line_text end_line ascii
  end_scanned a = sym (rw a at end_scan)

-- ---- one line after the other

pub lines_more : (t : List ℕ) (at : ℕ) (l : Line) → at < length t → line_in (drop at t) ≡ some l → lines_in (drop at t) ≡ l ∷ lines_in (drop (at + length (line_text l)) t)
unfolding lines_in
lines_more t at l i e =
    tokens_step line_in line_text (drop at t) l e (omega (arith, length-drop at t)) (line_long l)
    ∙ ap (λ (u : List ℕ). l ∷ tokens line_in line_text u) (drop-drop (length (line_text l)) at t)
