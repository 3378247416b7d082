-- One list of profiles for each clause of change request No. 1, and document 001's example, by computation.
use Prim.Native.Nat.{ℕ, zero, suc, ◌+◌, ◌^◌}
use Prim.Native.String.{String}
use mathlib.Core.Path.{◌≡◌, refl, ap}
use mathlib.Core.Bool.{true, false}
use mathlib.Core.List.{List, [], ◌∷◌, map}
use lib.ListN.{length, replicate}
use Rattle.fields.specs.Ascii.{ascii}
use Rattle.lists.specs.Lists.{every, elem, same_list, joined, known_by, position_by}
use Rattle.rules.specs.Sets.{holds}
use Rattle.rules.specs.Rules.{distinct, held_in, unheld_in, insert, sort, normal, unrestricted}
use Rattle.fields.specs.Bytes.{bytes_of}
use Rattle.image.specs.Limits.{file_kind, process_kind, no_atom, unrestricted_number, no_owner}
use Rattle.image.specs.Policy.{Container, Policy, unrestricted_rule, rule_at, owner_at}
use Rattle.image.specs.Normal.{normal_at, use_at, owned_place, owned, place_uses, uses, same_use, free_use, noted, numbered, number_of, container_of, written_by}
use Rattle.image.specs.Normal.{written_uses, policy_of, normal_policy, container_bytes, span_bytes, spans_of, pair, header, framed, encode, normal_image}
use Rattle.profiles.specs.Profiles.{Mode, mode_r, mode_w, mode_a, mode_l, mode_m, mode_ix, mode_px, mode_Px, mode_ux, mode_Ux, PathEntry, Profile, mode_text, slash}
use Rattle.confinement.specs.Confinement.{names_of, with_path, with_paths, paths_of, is_one_of, some_of, reading, executing, writing, unconfined, inheriting}
use Rattle.confinement.specs.Confinement.{confined, modes_among, modes_on, file_atoms, atoms_from, run_mixture, programs_with, profiles_at, or_else, if_some}
use Rattle.confinement.specs.Confinement.{permit_mixtures, run_mixtures, rules_from, rules_of, files_from, initial_process, profile_policy}
use Rattle.confinement.specs.Images.{limits_good}

-- a line `PATH MODES,`
abbrev line : String → List Mode → PathEntry
line q ms = record { path = ascii q; modes = ms }

-- a profile
abbrev profile : String → List PathEntry → Profile
profile q es = record { path = ascii q; entries = es }

-- the data atom and the running atom (the twin) of the path with atom k
abbrev d : ℕ → ℕ
d k = 2 ^ k

abbrev r : ℕ → ℕ
r k = 2 ^ (32 + k)

abbrev any : List ℕ
any = unrestricted_rule

-- ---- the clauses

pub record Clauses : Type 0 where
  -- "Each path becomes a file with the next atom in order of first appearance": profile and entry lines alike
  pub first_appearance : paths_of (profile "/p" (line "/b" (mode_r ∷ []) ∷ line "/a" (mode_l ∷ []) ∷ []) ∷ profile "/a" (line "/p" (mode_r ∷ []) ∷ line "/c" (mode_r ∷ []) ∷ []) ∷ profile "/q" [] ∷ [])
      ≡ map ascii ("/p" ∷ "/b" ∷ "/a" ∷ "/c" ∷ "/q" ∷ [])
  -- "A program's run mixture is its own twin": permit rule and run rule of /p
  pub own_twin : rules_of (profile "/p" [] ∷ []) ≡ (d 0 ∷ []) ∷ (r 0 ∷ []) ∷ []
  -- "the atoms of files it may read (r, m) and the twins of those it may execute (any x mode)"; a, l, w are neither
  pub reads_executes : run_mixture (map ascii ("/p" ∷ "/r" ∷ "/m" ∷ "/ix" ∷ "/px" ∷ "/Px" ∷ "/ux" ∷ "/Ux" ∷ "/w" ∷ "/a" ∷ "/l" ∷ []))
      (profile "/p"
      (line "/r" (mode_r ∷ []) ∷ line "/m" (mode_m ∷ []) ∷ line "/ix" (mode_ix ∷ []) ∷ line "/px" (mode_px ∷ []) ∷ line "/Px" (mode_Px ∷ [])
      ∷ line "/ux" (mode_ux ∷ []) ∷ line "/Ux" (mode_Ux ∷ []) ∷ line "/w" (mode_w ∷ []) ∷ line "/a" (mode_a ∷ []) ∷ line "/l" (mode_l ∷ []) ∷ []))
      ≡ r 0 + d 1 + d 2 + r 3 + r 4 + r 5 + r 6 + r 7
  -- it may read itself
  pub reads_itself : rules_of (profile "/p" (line "/p" (mode_r ∷ []) ∷ []) ∷ []) ≡ (d 0 ∷ []) ∷ ((r 0 + d 0) ∷ []) ∷ []
  -- "a path's lines within a profile add up": /f is read and written, with /g between
  pub lines_add_up : rules_of (profile "/p" (line "/f" (mode_w ∷ []) ∷ line "/g" (mode_l ∷ []) ∷ line "/f" (mode_r ∷ []) ∷ []) ∷ [])
      ≡ (d 0 ∷ []) ∷ ((r 0 + d 1) ∷ []) ∷ ((r 0 + d 1) ∷ []) ∷ any ∷ (d 2 ∷ []) ∷ any ∷ []
  -- within that profile alone: /q may write what /p reads
  pub lines_of_one : rules_of (profile "/p" (line "/f" (mode_r ∷ []) ∷ []) ∷ profile "/q" (line "/f" (mode_w ∷ []) ∷ []) ∷ [])
      ≡ (d 0 ∷ []) ∷ ((r 0 + d 1) ∷ []) ∷ ((r 2 + d 1) ∷ []) ∷ any ∷ (d 2 ∷ []) ∷ (r 2 ∷ []) ∷ []
  -- "for each program with w or a on it, that program's run mixture with the file's atom added": two programs, two mixtures
  pub two_writers : rules_of (profile "/p" (line "/f" (mode_w ∷ []) ∷ []) ∷ profile "/q" (line "/f" (mode_a ∷ []) ∷ []) ∷ [])
      ≡ (d 0 ∷ []) ∷ (r 0 ∷ []) ∷ ((r 0 + d 1) ∷ (r 2 + d 1) ∷ []) ∷ any ∷ (d 2 ∷ []) ∷ (r 2 ∷ []) ∷ []
  -- in normal form: /q may execute /p, so its mixture holds the other
  pub one_held : rules_of (profile "/p" (line "/f" (mode_w ∷ []) ∷ []) ∷ profile "/q" (line "/f" (mode_a ∷ []) ∷ line "/p" (mode_px ∷ []) ∷ []) ∷ [])
      ≡ (d 0 ∷ []) ∷ (r 0 ∷ []) ∷ ((r 0 + r 2 + d 1) ∷ []) ∷ any ∷ (d 2 ∷ []) ∷ ((r 0 + r 2) ∷ []) ∷ []
  -- "with none, its own atom", though it is read
  pub unwritten : rules_of (profile "/p" (line "/f" (mode_r ∷ []) ∷ []) ∷ []) ≡ (d 0 ∷ []) ∷ ((r 0 + d 1) ∷ []) ∷ (d 1 ∷ []) ∷ any ∷ []
  -- "that mixture is a profiled path's run rule", whatever names it: /q by ix and ux
  pub profiled : rules_of (profile "/p" (line "/q" (mode_ix ∷ mode_ux ∷ []) ∷ []) ∷ profile "/q" [] ∷ []) ≡ (d 0 ∷ []) ∷ ((r 0 + r 1) ∷ []) ∷ (d 1 ∷ []) ∷ (r 1 ∷ []) ∷ []
  -- "A path without a profile is unrestricted to run if some ux or Ux names it", though another names it by ix
  pub ux_before_ix : rules_of (profile "/p" (line "/f" (mode_ix ∷ []) ∷ []) ∷ profile "/q" (line "/f" (mode_ux ∷ []) ∷ []) ∷ [])
      ≡ (d 0 ∷ []) ∷ ((r 0 + r 1) ∷ []) ∷ (d 1 ∷ []) ∷ any ∷ (d 2 ∷ []) ∷ ((r 1 + r 2) ∷ []) ∷ []
  pub Ux_before_px : rules_of (profile "/p" (line "/f" (mode_px ∷ mode_Ux ∷ []) ∷ []) ∷ []) ≡ (d 0 ∷ []) ∷ ((r 0 + r 1) ∷ []) ∷ (d 1 ∷ []) ∷ any ∷ []
  -- "else takes the run mixtures of programs naming it by ix", though another names it by px
  pub ix_before_px : rules_of (profile "/p" (line "/f" (mode_px ∷ []) ∷ []) ∷ profile "/q" (line "/f" (mode_ix ∷ []) ∷ []) ∷ [])
      ≡ (d 0 ∷ []) ∷ ((r 0 + r 1) ∷ []) ∷ (d 1 ∷ []) ∷ ((r 1 + r 2) ∷ []) ∷ (d 2 ∷ []) ∷ ((r 1 + r 2) ∷ []) ∷ []
  -- of each such program
  pub two_inherited : rules_of (profile "/p" (line "/f" (mode_ix ∷ []) ∷ []) ∷ profile "/q" (line "/f" (mode_ix ∷ []) ∷ []) ∷ [])
      ≡ (d 0 ∷ []) ∷ ((r 0 + r 1) ∷ []) ∷ (d 1 ∷ []) ∷ ((r 0 + r 1) ∷ (r 1 + r 2) ∷ []) ∷ (d 2 ∷ []) ∷ ((r 1 + r 2) ∷ []) ∷ []
  -- "else has no mixture if px or Px names it"
  pub px_alone : rules_of (profile "/p" (line "/f" (mode_px ∷ []) ∷ line "/g" (mode_Px ∷ []) ∷ []) ∷ [])
      ≡ (d 0 ∷ []) ∷ ((r 0 + r 1 + r 2) ∷ []) ∷ (d 1 ∷ []) ∷ [] ∷ (d 2 ∷ []) ∷ [] ∷ []
  -- "else is unrestricted"
  pub no_x : rules_of (profile "/p" (line "/f" (mode_l ∷ []) ∷ []) ∷ []) ≡ (d 0 ∷ []) ∷ (r 0 ∷ []) ∷ (d 1 ∷ []) ∷ any ∷ []

pub clauses : Clauses
unfolding ascii mode_text names_of with_path with_paths paths_of is_one_of some_of reading executing writing unconfined inheriting confined
    modes_among modes_on file_atoms atoms_from run_mixture programs_with profiles_at or_else if_some permit_mixtures run_mixtures rules_from rules_of
    known_by position_by same_list unrestricted_rule unrestricted normal sort insert distinct elem unheld_in held_in holds
clauses =
    record {
      first_appearance = refl;
      own_twin = refl;
      reads_executes = refl;
      reads_itself = refl;
      lines_add_up = refl;
      lines_of_one = refl;
      two_writers = refl;
      one_held = refl;
      unwritten = refl;
      profiled = refl;
      ux_before_ix = refl;
      Ux_before_px = refl;
      ix_before_px = refl;
      two_inherited = refl;
      px_alone = refl;
      no_x = refl;
    }

-- ---- the limits

-- n lines with these modes, of paths that are a slash and n letters or fewer
abbrev lines_of : ℕ → List Mode → List PathEntry
lines_of zero ms = []
lines_of (suc n) ms = record { path = slash ∷ replicate (suc n) 97; modes = ms } ∷ lines_of n ms

-- n profiles of such paths, each with these lines
abbrev profiles_of : ℕ → List PathEntry → List Profile
profiles_of zero es = []
profiles_of (suc n) es = record { path = slash ∷ replicate (suc n) 97; entries = es } ∷ profiles_of n es

pub record Limits : Type 0 where
  -- "over 32 paths"
  pub paths_32 : limits_good (profile "/p/" (lines_of 31 (mode_r ∷ [])) ∷ []) ≡ true
  pub paths_33 : limits_good (profile "/p/" (lines_of 32 (mode_r ∷ [])) ∷ []) ≡ false
  -- "a rule over 8 mixtures": of a file's writers, and of the programs that a path inherits from
  pub writers_8 : limits_good (profiles_of 8 (line "/f/" (mode_w ∷ []) ∷ [])) ≡ true
  pub writers_9 : limits_good (profiles_of 9 (line "/f/" (mode_w ∷ []) ∷ [])) ≡ false
  pub inherited_8 : limits_good (profiles_of 8 (line "/f/" (mode_ix ∷ []) ∷ [])) ≡ true
  pub inherited_9 : limits_good (profiles_of 9 (line "/f/" (mode_ix ∷ []) ∷ [])) ≡ false
  -- "in normal form": a tenth, which may execute the nine, holds their mixtures
  pub held_9 : limits_good (profile "/p/" (line "/f/" (mode_w ∷ []) ∷ lines_of 9 (mode_px ∷ [])) ∷ profiles_of 9 (line "/f/" (mode_w ∷ []) ∷ [])) ≡ true

pub limits : Limits
unfolding limits_good every ascii mode_text names_of with_path with_paths paths_of is_one_of some_of reading executing writing unconfined inheriting
    confined modes_among modes_on file_atoms atoms_from run_mixture programs_with profiles_at or_else if_some permit_mixtures run_mixtures rules_from
    rules_of
    known_by position_by same_list unrestricted_rule unrestricted normal sort insert distinct elem unheld_in held_in holds
limits = record { paths_32 = refl; paths_33 = refl; writers_8 = refl; writers_9 = refl; inherited_8 = refl; inherited_9 = refl; held_9 = refl }

-- ---- document 001's example: its two profiles, their lines in its order

abbrev pub document : List Profile
document =
    profile "/usr/bin/apache" (line "/etc/apache2.conf" (mode_w ∷ []) ∷ line "/etc/apache2.conf" (mode_r ∷ []) ∷ line "/www/index.php" (mode_r ∷ []) ∷ line "/usr/bin/ftpd" (mode_px ∷ []) ∷ [])
    ∷ profile "/usr/bin/ftpd" (line "/etc/ftpd.conf" (mode_w ∷ []) ∷ line "/etc/ftpd.conf" (mode_r ∷ []) ∷ line "/home/ftpd/data" (mode_w ∷ []) ∷ [])
    ∷ []

pub document_paths : paths_of document ≡ map ascii ("/usr/bin/apache" ∷ "/etc/apache2.conf" ∷ "/www/index.php" ∷ "/usr/bin/ftpd" ∷ "/etc/ftpd.conf" ∷ "/home/ftpd/data" ∷ [])
unfolding ascii names_of with_path with_paths paths_of known_by same_list
document_paths = refl

-- the run rules of the two programs
pub apache_runs : run_mixtures (paths_of document) document (ascii "/usr/bin/apache") ≡ 0x900000006 ∷ []
unfolding ascii mode_text names_of with_path with_paths paths_of is_one_of some_of reading executing modes_among modes_on file_atoms
    atoms_from run_mixture profiles_at or_else run_mixtures known_by position_by same_list
apache_runs = refl

pub ftpd_runs : run_mixtures (paths_of document) document (ascii "/usr/bin/ftpd") ≡ 0x800000010 ∷ []
unfolding ascii mode_text names_of with_path with_paths paths_of is_one_of some_of reading executing modes_among modes_on file_atoms
    atoms_from run_mixture profiles_at or_else run_mixtures known_by position_by same_list
ftpd_runs = refl

-- permit rule and run rule of each path
pub document_rules : rules_of document
    ≡ (1 ∷ []) ∷ (0x900000006 ∷ [])
    ∷ (0x900000006 ∷ []) ∷ any
    ∷ (4 ∷ []) ∷ any
    ∷ (8 ∷ []) ∷ (0x800000010 ∷ [])
    ∷ (0x800000010 ∷ []) ∷ any
    ∷ (0x800000030 ∷ []) ∷ any
    ∷ []
unfolding ascii mode_text names_of with_path with_paths paths_of is_one_of some_of reading executing writing unconfined inheriting confined
    modes_among modes_on file_atoms atoms_from run_mixture programs_with profiles_at or_else if_some permit_mixtures run_mixtures rules_from rules_of
    known_by position_by same_list unrestricted_rule unrestricted normal sort insert distinct elem unheld_in held_in holds
document_rules = refl

abbrev file : ℕ → ℕ → ℕ → Container
file k permit run = record { kind = file_kind; atom = k; permit = permit; run = run }

-- the policy in normal form: six files, a process and a user, six rules
abbrev pub policy : Policy
policy =
    record {
      containers =
          file 0 0 1
          ∷ file 1 1 unrestricted_number
          ∷ file 2 2 unrestricted_number
          ∷ file 3 3 4
          ∷ file 4 4 unrestricted_number
          ∷ file 5 5 unrestricted_number
          ∷ record { kind = process_kind; atom = no_atom; permit = unrestricted_number; run = unrestricted_number }
          ∷ [];
      users = unrestricted_number ∷ [];
      rules = (1 ∷ []) ∷ (0x900000006 ∷ []) ∷ (4 ∷ []) ∷ (8 ∷ []) ∷ (0x800000010 ∷ []) ∷ (0x800000030 ∷ []) ∷ [];
      owners = no_owner ∷ no_owner ∷ no_owner ∷ no_owner ∷ no_owner ∷ no_owner ∷ [];
    }

policy_is : normal_policy (profile_policy document) ≡ policy
unfolding profile_policy files_from initial_process ascii mode_text names_of with_path with_paths paths_of is_one_of some_of reading executing writing
    unconfined inheriting confined modes_among modes_on file_atoms atoms_from run_mixture programs_with profiles_at or_else if_some permit_mixtures
    run_mixtures rules_from rules_of
    normal_policy policy_of written_by written_uses container_of number_of position_by numbered noted known_by same_use free_use uses place_uses owned
    owned_place use_at owner_at normal_at rule_at same_list unrestricted_rule unrestricted normal sort insert distinct elem unheld_in held_in holds
policy_is = refl

pub image_is : normal_image (profile_policy document) ≡ encode policy
unfolding normal_image
image_is = ap encode policy_is

-- an image of 146 bytes
pub image_length : length (normal_image (profile_policy document)) ≡ 146
unfolding encode framed header pair container_bytes span_bytes spans_of bytes_of joined
image_length = ap length image_is

-- no profile: an image of 26 bytes
pub empty_length : length (normal_image (profile_policy [])) ≡ 26
unfolding profile_policy files_from initial_process names_of with_paths paths_of rules_from rules_of
    normal_image normal_policy policy_of written_by written_uses container_of number_of position_by numbered noted known_by same_use free_use uses
    place_uses owned owned_place use_at owner_at normal_at rule_at same_list unrestricted_rule unrestricted normal sort insert distinct elem
    unheld_in held_in holds
    encode framed header pair container_bytes span_bytes spans_of bytes_of joined
empty_length = refl
