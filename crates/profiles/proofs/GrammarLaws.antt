-- The grammar line by line is the grammar by the text that profiles are.
use Prim.Native.Nat.{ℕ}
use mathlib.Core.Path.{◌≡◌, refl, sym, ap, ◌∙◌, subst}
use mathlib.Core.Bool.{true, ◌&&◌}
use mathlib.Core.List.{List, [], ◌∷◌, ◌++◌, append_assoc, append-nil}
use Rattle.fields.specs.Ascii.{ascii}
use Rattle.lists.specs.Lists.{every, joined}
use Rattle.lists.proofs.Bools.{and_in, and_0, and_1, clash}
use Rattle.lists.proofs.Every.{every_0, every_1, every_nil, every_cons}
use Rattle.profiles.specs.Profiles.{Mode, PathEntry, Profile, mode_text, modes_text, profile_word, profile_end, modes_start, modes_end, profile_line}
use Rattle.profiles.specs.Profiles.{entry_line, end_line, entries_text, text_of_one, text_of, path_good, modes_good, entry_good, profile_good}
use Rattle.profiles.specs.Grammar.{Grammar, ModesIn, last_mode, next_mode, EntriesIn, no_entry, next_entry, ProfilesIn, no_profile, next_profile}

-- ---- modes

modes_in : (m : Mode) (ms : List Mode) → ModesIn (modes_text (m ∷ ms)) (m ∷ ms)
unfolding modes_text joined
modes_in m [] = subst (λ (t : List ℕ). ModesIn t (m ∷ [])) (sym (append-nil (mode_text m))) last_mode
modes_in m (n ∷ ms) = next_mode (modes_in n ms)

modes_out : {t : List ℕ} {ms : List Mode} → ModesIn t ms → (modes_text ms ≡ t) × (modes_good ms ≡ true)
unfolding modes_text joined modes_good
modes_out (last_mode {m}) = (append-nil (mode_text m), refl)
modes_out (next_mode {m} {t} {ms} d) = (ap (λ (u : List ℕ). mode_text m ++ u) (modes_out d).0, refl)

some_modes_in : (ms : List Mode) → modes_good ms ≡ true → ModesIn (modes_text ms) ms
unfolding modes_good
some_modes_in [] h = clash h refl
some_modes_in (m ∷ ms) h = modes_in m ms

-- ---- entries

entry_text : (e : PathEntry) (t : List ℕ) → entry_line e ++ t ≡ e.path ++ (modes_start ++ (modes_text e.modes ++ (modes_end ++ t)))
unfolding entry_line modes_start ascii
entry_text e t =
    append_assoc e.path (modes_start ++ (modes_text e.modes ++ modes_end)) t
    ∙ ap (λ (u : List ℕ). e.path ++ (modes_start ++ u)) (append_assoc (modes_text e.modes) modes_end t)

entries_in : (es : List PathEntry) → every entry_good es ≡ true → EntriesIn (entries_text es) es
unfolding entries_text joined entry_good modes_start modes_end ascii
entries_in [] h = no_entry
entries_in (e ∷ es) h =
    let g : (path_good e.path && modes_good e.modes) ≡ true = every_0 entry_good e es h in
    subst (λ (t : List ℕ). EntriesIn t (e ∷ es)) (sym (entry_text e (entries_text es)))
    (next_entry (and_0 (path_good e.path) (modes_good e.modes) g) (some_modes_in e.modes (and_1 (path_good e.path) g)) (entries_in es (every_1 entry_good e es h)))

entries_out : {t : List ℕ} {es : List PathEntry} → EntriesIn t es → (entries_text es ≡ t) × (every entry_good es ≡ true)
unfolding entries_text joined entry_good modes_start modes_end ascii
entries_out no_entry = (refl, every_nil entry_good)
entries_out (next_entry {p} {s} {t} {ms} {es} g m d) =
    let a = modes_out m in
    let b = entries_out d in
    let e : PathEntry = record { path = p; modes = ms } in (
      entry_text e (entries_text es)
          ∙ ap (λ (u : List ℕ). p ++ (modes_start ++ (u ++ (modes_end ++ entries_text es)))) a.0
          ∙ ap (λ (u : List ℕ). p ++ (modes_start ++ (s ++ (modes_end ++ u)))) b.0,
      every_cons entry_good e es (and_in g a.1) b.1,
    )

-- ---- profiles

profile_text : (p : Profile) (t : List ℕ) → text_of_one p ++ t ≡ profile_word ++ (p.path ++ (profile_end ++ (entries_text p.entries ++ (end_line ++ t))))
unfolding text_of_one profile_line profile_word profile_end ascii
profile_text p t =
    append_assoc (profile_line p.path) (entries_text p.entries ++ end_line) t
    ∙ ap (λ (u : List ℕ). profile_line p.path ++ u) (append_assoc (entries_text p.entries) end_line t)
    ∙ ap (λ (u : List ℕ). profile_word ++ u) (append_assoc p.path profile_end (entries_text p.entries ++ (end_line ++ t)))

pub profiles_in : (ps : List Profile) → every profile_good ps ≡ true → ProfilesIn (text_of ps) ps
unfolding text_of joined profile_good profile_word profile_end end_line ascii
profiles_in [] h = no_profile
profiles_in (p ∷ ps) h =
    let g : (path_good p.path && every entry_good p.entries) ≡ true = every_0 profile_good p ps h in
    subst (λ (t : List ℕ). ProfilesIn t (p ∷ ps)) (sym (profile_text p (text_of ps)))
    (next_profile (and_0 (path_good p.path) (every entry_good p.entries) g) (entries_in p.entries (and_1 (path_good p.path) g)) (profiles_in ps (every_1 profile_good p ps h)))

pub profiles_out : {t : List ℕ} {ps : List Profile} → ProfilesIn t ps → Grammar t ps
unfolding text_of joined profile_good profile_word profile_end end_line ascii
profiles_out no_profile = (refl, every_nil profile_good)
profiles_out (next_profile {p} {s} {t} {es} {ps} g m d) =
    let a = entries_out m in
    let b = profiles_out d in
    let q : Profile = record { path = p; entries = es } in (
      profile_text q (text_of ps)
          ∙ ap (λ (u : List ℕ). profile_word ++ (p ++ (profile_end ++ (u ++ (end_line ++ text_of ps))))) a.0
          ∙ ap (λ (u : List ℕ). profile_word ++ (p ++ (profile_end ++ (s ++ (end_line ++ u))))) b.0,
      every_cons profile_good q ps (and_in g a.1) b.1,
    )
