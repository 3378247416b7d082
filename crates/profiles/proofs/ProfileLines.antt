-- Paths, modes and lines are read back as they were written, and what is read is good and in front of the text.
use Prim.Native.Nat.{ℕ, ◌+◌, ◌<◌}
use mathlib.Core.Path.{◌≡◌, refl, sym, ap, ◌∙◌}
use mathlib.Core.Bool.{Bool, true, false, cond, ◌&&◌}
use mathlib.Core.List.{List, [], ◌∷◌, ◌++◌, map, append_assoc}
use mathlib.Core.Option.{none, some}
use native.Mathlib.Omega.{arith}
use lib.Dec.{eqb, leb}
use lib.ListN.{length, get_or, drop, length-append}
use lib.Seq.{drop-append-add}
use borrow.Author.Tests.{eqb-true, eq-eqb, ne_eqb}
use Rattle.fields.specs.Ascii.{ascii}
use Rattle.lists.specs.Lists.{every, joined}
use Rattle.lists.proofs.Bools.{and_in, and_0, and_1, clash, refuted}
use Rattle.lists.proofs.Every.{every_cons, every_all}
use Rattle.lists.proofs.Places.{some_inj, none_some}
use Rattle.profiles.specs.Profiles.{Mode, mode_r, mode_w, mode_a, mode_l, mode_m, mode_ix, mode_px, mode_Px, mode_ux, mode_Ux}
use Rattle.profiles.specs.Profiles.{PathEntry, slash, mode_text, modes_text, profile_word, profile_end, modes_start, modes_end, profile_line}
use Rattle.profiles.specs.Profiles.{entry_line, end_line, is_between, is_digit, is_letter, is_path_byte, path_good, modes_good, entry_good}
use Rattle.profiles.specs.Tokens.{starts, tokens}
use Rattle.profiles.specs.Reading.{Line, opens, enters, closes, line_text, line_good, path_byte_in, byte_text, path_in, mode_among}
use Rattle.profiles.specs.Reading.{all_modes, mode_in, modes_in, entry_in, lines_to_try, line_among, line_in, lines_in, lines_text}
use Rattle.profiles.proofs.TokenLaws.{starts_split, starts_seam, tokens_front, tokens_every, tokens_back}

-- ---- paths

byte_cond : (b c : ℕ) (e : Bool) → cond e (some b) none ≡ some c → (b ≡ c) × (e ≡ true)
byte_cond b c true h = (some_inj h, refl)
byte_cond b c false h = absurd (none_some h)

pub path_byte_front : (t : List ℕ) (b : ℕ) → path_byte_in t ≡ some b → starts (byte_text b) t ≡ true
unfolding path_byte_in starts
path_byte_front [] b h = absurd (none_some h)
path_byte_front (c ∷ t) b h = and_in (eq-eqb b c (sym (byte_cond c b (is_path_byte c) h).0)) refl

pub path_byte_good : (t : List ℕ) (b : ℕ) → path_byte_in t ≡ some b → is_path_byte b ≡ true
unfolding path_byte_in
path_byte_good [] b h = absurd (none_some h)
path_byte_good (c ∷ t) b h = let g = byte_cond c b (is_path_byte c) h in ap is_path_byte (sym g.0) ∙ g.1

path_byte_back : (b : ℕ) (r : List ℕ) → is_path_byte b ≡ true → path_byte_in (byte_text b ++ r) ≡ some b
unfolding path_byte_in
path_byte_back b r h = rw h

pub byte_long : (b : ℕ) → 0 < length (byte_text b)
byte_long b = omega arith

pub joined_bytes : (p : List ℕ) → joined (map byte_text p) ≡ p
unfolding joined
joined_bytes [] = refl
joined_bytes (b ∷ p) = ap (λ (q : List ℕ). b ∷ q) (joined_bytes p)

pub path_front : (t : List ℕ) → starts (path_in t) t ≡ true
unfolding path_in
path_front t =
    ap (λ (p : List ℕ). starts p t) (sym (joined_bytes (tokens path_byte_in byte_text t))) ∙ tokens_front path_byte_in byte_text byte_long path_byte_front t

pub path_back : (p r : List ℕ) → every is_path_byte p ≡ true → path_byte_in r ≡ none → path_in (p ++ r) ≡ p
unfolding path_in
path_back p r h e =
    ap (λ (q : List ℕ). tokens path_byte_in byte_text (q ++ r)) (sym (joined_bytes p)) ∙ tokens_back path_byte_in byte_text is_path_byte byte_long path_byte_back p r h e

pub path_bytes : (p : List ℕ) → path_good p ≡ true → every is_path_byte p ≡ true
unfolding path_good is_path_byte is_letter is_digit is_between
path_bytes [] h = clash h refl
path_bytes (b ∷ p) h =
    every_cons is_path_byte b p (ap is_path_byte (eqb-true b slash (and_0 (eqb b slash) _ h)))
    (and_1 (leb 1 (length p) && leb (length p) 63) (and_1 (eqb b slash) h))

-- ---- modes

pub mode_long : (m : Mode) → 0 < length (mode_text m)
unfolding mode_text ascii
mode_long mode_r = omega arith
mode_long mode_w = omega arith
mode_long mode_a = omega arith
mode_long mode_l = omega arith
mode_long mode_m = omega arith
mode_long mode_ix = omega arith
mode_long mode_px = omega arith
mode_long mode_Px = omega arith
mode_long mode_ux = omega arith
mode_long mode_Ux = omega arith

-- at least one mode has a letter
pub modes_text_long : (ms : List Mode) → modes_good ms ≡ true → 0 < length (modes_text ms)
unfolding modes_good modes_text joined
modes_text_long [] h = clash h refl
modes_text_long (m ∷ ms) h = omega (arith, length-append (mode_text m) (joined (map mode_text ms)), mode_long m)

mode_among_lem : (ms : List Mode) (t : List ℕ) (m : Mode) → mode_among ms t ≡ some m → starts (mode_text m) t ≡ true
unfolding mode_among
mode_among_lem [] t m h = absurd (none_some h)
mode_among_lem (n ∷ ms) t m h = by (starts (mode_text n) t) refl h (mode_among_lem ms t m)
  where
    by : (e : Bool) → starts (mode_text n) t ≡ e → cond e (some n) (mode_among ms t) ≡ some m → (mode_among ms t ≡ some m → starts (mode_text m) t ≡ true) → starts (mode_text m) t ≡ true
    by true q h ih = ap (λ (x : Mode). starts (mode_text x) t) (sym (some_inj h)) ∙ q
    by false q h ih = ih h

pub mode_front : (t : List ℕ) (m : Mode) → mode_in t ≡ some m → starts (mode_text m) t ≡ true
unfolding mode_in
mode_front t m h = mode_among_lem all_modes t m h

pub mode_back : (m : Mode) (r : List ℕ) → true ≡ true → mode_in (mode_text m ++ r) ≡ some m
unfolding mode_in mode_among all_modes mode_text ascii starts
mode_back mode_r r h = refl
mode_back mode_w r h = refl
mode_back mode_a r h = refl
mode_back mode_l r h = refl
mode_back mode_m r h = refl
mode_back mode_ix r h = refl
mode_back mode_px r h = refl
mode_back mode_Px r h = refl
mode_back mode_ux r h = refl
mode_back mode_Ux r h = refl

pub modes_front : (t : List ℕ) → starts (modes_text (modes_in t)) t ≡ true
unfolding modes_text modes_in
modes_front t = tokens_front mode_in mode_text mode_long mode_front t

pub modes_back : (ms : List Mode) (r : List ℕ) → mode_in r ≡ none → modes_in (modes_text ms ++ r) ≡ ms
unfolding modes_text modes_in
modes_back ms r e = tokens_back mode_in mode_text (λ m. true) mode_long mode_back ms r (every_all (λ m. true) ms (λ m. refl)) e

-- ---- lines

line_among_lem : (ls : List Line) (t : List ℕ) (l : Line) → line_among ls t ≡ some l → (line_good l && starts (line_text l) t) ≡ true
unfolding line_among
line_among_lem [] t l h = absurd (none_some h)
line_among_lem (n ∷ ls) t l h = by (line_good n && starts (line_text n) t) refl h (line_among_lem ls t l)
  where
    by : (e : Bool) → (line_good n && starts (line_text n) t) ≡ e → cond e (some n) (line_among ls t) ≡ some l
        → (line_among ls t ≡ some l → (line_good l && starts (line_text l) t) ≡ true) → (line_good l && starts (line_text l) t) ≡ true
    by true q h ih = ap (λ (x : Line). line_good x && starts (line_text x) t) (sym (some_inj h)) ∙ q
    by false q h ih = ih h

pub line_front : (t : List ℕ) (l : Line) → line_in t ≡ some l → starts (line_text l) t ≡ true
unfolding line_in
line_front t l h = and_1 (line_good l) (line_among_lem (lines_to_try t) t l h)

pub line_good_lem : (t : List ℕ) (l : Line) → line_in t ≡ some l → line_good l ≡ true
unfolding line_in
line_good_lem t l h = and_0 (line_good l) (starts (line_text l) t) (line_among_lem (lines_to_try t) t l h)

pub line_long : (l : Line) → 0 < length (line_text l)
unfolding line_text profile_line entry_line end_line profile_word modes_start ascii
line_long (opens p) = omega arith
line_long (enters e) = omega (arith, length-append e.path (modes_start ++ (modes_text e.modes ++ modes_end)))
line_long closes = omega arith

-- a line is read back

pub line_taken : (l : Line) (ls : List Line) (t : List ℕ) → line_good l ≡ true → starts (line_text l) t ≡ true → line_among (l ∷ ls) t ≡ some l
unfolding line_among
line_taken l ls t g h = rw (g, h)

pub line_passed : (l : Line) (ls : List Line) (t : List ℕ) → (line_good l && starts (line_text l) t) ≡ false → line_among (l ∷ ls) t ≡ line_among ls t
unfolding line_among
line_passed l ls t h = rw h

pub and-false : (a : Bool) → (a && false) ≡ false
and-false true = refl
and-false false = refl

-- a text that begins with another byte than `p` is no profile's first line
pub no_profile_line : (p t : List ℕ) → (112 ≡ get_or t 0 0 → ⊥) → (line_good (opens p) && starts (line_text (opens p)) t) ≡ false
unfolding line_text profile_line profile_word ascii starts
no_profile_line p [] n = and-false (line_good (opens p))
no_profile_line p (b ∷ t) n = let e : eqb 112 b ≡ false = ne_eqb 112 b n in rw e (and-false (line_good (opens p)))

slash_first : (p r : List ℕ) → path_good p ≡ true → get_or (p ++ r) 0 0 ≡ slash
unfolding path_good
slash_first [] r h = clash h refl
slash_first (b ∷ p) r h = eqb-true b slash (and_0 (eqb b slash) _ h)

-- a text that does not begin with a slash is no entry's line
pub no_entry_line : (t : List ℕ) → (slash ≡ get_or t 0 0 → ⊥) → (line_good (enters (entry_in t)) && starts (line_text (enters (entry_in t))) t) ≡ false
unfolding line_good line_text entry_good entry_in
no_entry_line t n =
    refuted (line_good (enters (entry_in t)) && starts (line_text (enters (entry_in t))) t)
    (λ h. n (sym (ap (λ (u : List ℕ). get_or u 0 0) (sym (starts_split (path_in t) t (path_front t))) ∙ slash_first (path_in t) (drop (length (path_in t)) t)
    (and_0 (path_good (path_in t)) (modes_good (entry_in t).modes) (and_0 (entry_good (entry_in t)) (starts (line_text (enters (entry_in t))) t) h)))))

-- a text that begins with another byte than `}` is no profile's last line
pub no_end_line : (t : List ℕ) → (125 ≡ get_or t 0 0 → ⊥) → (line_good closes && starts (line_text closes) t) ≡ false
unfolding line_good line_text end_line ascii starts
no_end_line [] n = refl
no_end_line (b ∷ t) n = let e : eqb 125 b ≡ false = ne_eqb 125 b n in rw e

pub profile_path : (p r : List ℕ) → path_good p ≡ true → path_in (drop (length profile_word) (profile_line p ++ r)) ≡ p
unfolding profile_line profile_word profile_end ascii path_byte_in is_path_byte is_letter is_digit is_between
profile_path p r h = ap path_in (append_assoc p profile_end r) ∙ path_back p (profile_end ++ r) (path_bytes p h) refl

profile_back : (p r : List ℕ) → path_good p ≡ true → line_in (profile_line p ++ r) ≡ some (opens p)
unfolding line_in lines_to_try line_good line_text
profile_back p r h =
    let t = profile_line p ++ r in
    ap (λ (q : List ℕ). line_among (opens q ∷ enters (entry_in t) ∷ closes ∷ []) t) (profile_path p r h)
    ∙ line_taken (opens p) (enters (entry_in t) ∷ closes ∷ []) t h (starts_seam (profile_line p) r)

module _ (p : List ℕ) (ms : List Mode) (r : List ℕ) (h : path_good p ≡ true) where
  entry_split : entry_line (record { path = p; modes = ms }) ++ r ≡ p ++ (32 ∷ ((modes_text ms ++ modes_end) ++ r))
  unfolding entry_line modes_start ascii
  entry_split = append_assoc p (32 ∷ (modes_text ms ++ modes_end)) r

  entry_path : path_in (p ++ (32 ∷ ((modes_text ms ++ modes_end) ++ r))) ≡ p
  unfolding path_byte_in is_path_byte is_letter is_digit is_between
  entry_path = path_back p (32 ∷ ((modes_text ms ++ modes_end) ++ r)) (path_bytes p h) refl

  entry_modes : modes_in (drop (length p + 1) (p ++ (32 ∷ ((modes_text ms ++ modes_end) ++ r)))) ≡ ms
  unfolding modes_end ascii mode_in mode_among all_modes mode_text starts
  entry_modes =
      ap modes_in (drop-append-add p (32 ∷ ((modes_text ms ++ modes_end) ++ r)) 1 ∙ append_assoc (modes_text ms) modes_end r) ∙ modes_back ms (modes_end ++ r) refl

  pub entry_path_read : path_in (entry_line (record { path = p; modes = ms }) ++ r) ≡ p
  entry_path_read = ap path_in entry_split ∙ entry_path

  entry_is : entry_in (entry_line (record { path = p; modes = ms }) ++ r) ≡ record { path = p; modes = ms }
  unfolding entry_in
  entry_is =
      ap entry_in entry_split
      ∙ (let e : modes_in (drop (length (path_in (p ++ (32 ∷ ((modes_text ms ++ modes_end) ++ r)))) + 1) (p ++ (32 ∷ ((modes_text ms ++ modes_end) ++ r)))) ≡ ms
      = ap (λ (q : List ℕ). modes_in (drop (length q + 1) (p ++ (32 ∷ ((modes_text ms ++ modes_end) ++ r))))) entry_path ∙ entry_modes in
      λ i. record { path = entry_path i; modes = e i })

entry_back : (e : PathEntry) (r : List ℕ) → entry_good e ≡ true → line_in (entry_line e ++ r) ≡ some (enters e)
unfolding line_in lines_to_try line_good line_text entry_good
entry_back e r h =
    let t = entry_line e ++ r in
    let g : path_good e.path ≡ true = and_0 (path_good e.path) (modes_good e.modes) h in
    let f : get_or t 0 0 ≡ slash = ap (λ (u : List ℕ). get_or u 0 0) (entry_split e.path e.modes r g) ∙ slash_first e.path (32 ∷ ((modes_text e.modes ++ modes_end) ++ r)) g in
    line_passed (opens (path_in (drop (length profile_word) t))) (enters (entry_in t) ∷ closes ∷ []) t (no_profile_line (path_in (drop (length profile_word) t)) t (λ q. omega arith))
    ∙ ap (λ (x : PathEntry). line_among (enters x ∷ closes ∷ []) t) (entry_is e.path e.modes r g)
    ∙ line_taken (enters e) (closes ∷ []) t h (starts_seam (entry_line e) r)

end_back : (r : List ℕ) → line_in (end_line ++ r) ≡ some closes
unfolding line_in lines_to_try line_good line_text end_line ascii path_byte_in is_path_byte is_letter is_digit is_between
end_back r =
    let t = end_line ++ r in
    line_passed (opens (path_in (drop (length profile_word) t))) (enters (entry_in t) ∷ closes ∷ []) t (no_profile_line (path_in (drop (length profile_word) t)) t (λ q. omega arith))
    ∙ line_passed (enters (entry_in t)) (closes ∷ []) t (no_entry_line t (λ q. omega arith))
    ∙ line_taken closes [] t refl (starts_seam end_line r)

pub line_back : (l : Line) (r : List ℕ) → line_good l ≡ true → line_in (line_text l ++ r) ≡ some l
unfolding line_text line_good
line_back (opens p) r h = profile_back p r h
line_back (enters e) r h = entry_back e r h
line_back closes r h = end_back r

pub lines_front : (t : List ℕ) → starts (lines_text (lines_in t)) t ≡ true
unfolding lines_text lines_in
lines_front t = tokens_front line_in line_text line_long line_front t

pub lines_good : (t : List ℕ) → every line_good (lines_in t) ≡ true
unfolding lines_in
lines_good t = tokens_every line_in line_text line_long line_front line_good line_good_lem t

pub lines_back : (ls : List Line) (r : List ℕ) → every line_good ls ≡ true → line_in r ≡ none → lines_in (lines_text ls ++ r) ≡ ls
unfolding lines_text lines_in
lines_back ls r h e = tokens_back line_in line_text line_good line_long line_back ls r h e
