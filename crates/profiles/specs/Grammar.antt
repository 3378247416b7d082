-- The grammar of a text (change request No. 1), in two wordings that are proved the same: by the text that profiles are, and
-- line by line.
use Rattle.std.specs.Prelude.{ℕ, ◌≡◌, true, List, [], ◌∷◌, ◌++◌}
use Rattle.fields.specs.Ascii.{ascii}
use Rattle.lists.specs.Lists.{every}
use Rattle.profiles.specs.Profiles.{Mode, PathEntry, Profile, newline, mode_text, text_of, path_good, profile_good}

-- t is the text of the profiles ps, whose paths and modes are good
abbrev pub Grammar : List ℕ → List Profile → Type 0
Grammar t ps = (text_of ps ≡ t) × (every profile_good ps ≡ true)

-- ---- line by line

-- "modes are letters .., at least one, run together, read left to right"
pub data ModesIn : List ℕ → List Mode → Type 0 where
  last_mode : {m : Mode} → ModesIn (mode_text m) (m ∷ [])
  next_mode : {m : Mode} {t : List ℕ} {ms : List Mode} → ModesIn t ms → ModesIn (mode_text m ++ t) (m ∷ ms)

-- "any number of lines `PATH MODES,`"
pub data EntriesIn : List ℕ → List PathEntry → Type 0 where
  no_entry : EntriesIn [] []
  next_entry : {p s t : List ℕ} {ms : List Mode} {es : List PathEntry} → path_good p ≡ true → ModesIn s ms → EntriesIn t es
      → EntriesIn (p ++ (ascii " " ++ (s ++ (ascii "," ++ (newline ∷ t))))) (record { path = p; modes = ms } ∷ es)

-- "any number of profiles, each a line `profile PATH {`, .. and a line `}`"
pub data ProfilesIn : List ℕ → List Profile → Type 0 where
  no_profile : ProfilesIn [] []
  next_profile : {p s t : List ℕ} {es : List PathEntry} {ps : List Profile} → path_good p ≡ true → EntriesIn s es → ProfilesIn t ps
      → ProfilesIn (ascii "profile " ++ (p ++ (ascii " {" ++ (newline ∷ (s ++ (ascii "}" ++ (newline ∷ t)))))))
      (record { path = p; entries = es } ∷ ps)
