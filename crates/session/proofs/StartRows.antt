-- The session that a policy starts, row by row.
use Prim.Native.Nat.{ℕ, ◌≤◌, ◌<◌}
use mathlib.Core.Path.{◌≡◌, sym, ap, ◌∙◌}
use mathlib.Core.Bool.{true}
use mathlib.Core.List.{[], map}
use native.Mathlib.Omega.{arith}
use native.Mathlib.Decide.{dec_lt}
use lib.ListN.{length, get_or, replicate, length-map, get_or-eq_default}
use Rattle.rules.specs.Answers.{mixture_limit}
use Rattle.image.specs.Limits.{container_limit, user_limit}
use Rattle.image.specs.Policy.{Container, Policy, Sound}
use Rattle.image.specs.Normal.{Place, normal_at, place_of, meaning}
use Rattle.lists.proofs.Every.{every_get_d}
use Rattle.lists.proofs.Places.{map_at}
use Rattle.image.proofs.WrittenMeaning.{form_good, place_good, Encodable, form_normal, meaning_encodable}
use Rattle.session.specs.Limits.{session_length, row_width, user_width}
use Rattle.session.specs.Rows.{row_of, free_words, container_row_good, InUse, user_words, undeclared_words, user_row_good, container_row, user_row}
use Rattle.session.specs.Session.{start_row, place_words, start_of}
use Rattle.session.proofs.RowMeaning.{row_words_lem, row_good, free_good, user_good, undeclared_good}
use Rattle.session.proofs.StartedSession.{form_short, place_used, session_length_lem, session_row, session_user}

no_place : Place
no_place = record { kind = 0; atom = 0; permit = []; run = [] }

module _ (p : Policy) (h : Sound p) where
  encodable : Encodable (meaning p)
  encodable = meaning_encodable p h

  pub start_length : length (start_of p) ≡ session_length
  unfolding start_of
  start_length = session_length_lem (meaning p) encodable

  -- ---- containers

  module _ (c : ℕ) (z : Container) (l : c < length p.containers) where
    place_at : get_or (meaning p).places c no_place ≡ place_of p.rules (get_or p.containers c z)
    unfolding meaning
    place_at = map_at (place_of p.rules) p.containers c z no_place l

    place_in : c < length (meaning p).places
    unfolding meaning
    place_in = omega (arith, length-map p.containers (place_of p.rules))

    start_good : place_good (place_of p.rules (get_or p.containers c z)) ≡ true
    start_good = rw (sym place_at) (every_get_d place_good (meaning p).places c no_place place_in encodable.places_good)

    pub start_row_lem : container_row (start_of p) c ≡ place_words (place_of p.rules (get_or p.containers c z))
    unfolding start_of
    start_row_lem =
        session_row (meaning p) encodable c (omega (arith, h.few_containers))
        ∙ map_at place_words (meaning p).places c no_place (replicate row_width 0) place_in
        ∙ ap place_words place_at

    pub start_used : InUse (start_row (place_of p.rules (get_or p.containers c z)))
    start_used = place_used (place_of p.rules (get_or p.containers c z)) start_good

    pub start_said : row_of (container_row (start_of p) c) ≡ start_row (place_of p.rules (get_or p.containers c z))
    unfolding place_words
    start_said =
        ap row_of start_row_lem ∙ row_words_lem (start_row (place_of p.rules (get_or p.containers c z))) start_used.permit_short start_used.run_short

    start_kept : container_row_good (container_row (start_of p) c) ≡ true
    unfolding place_words
    start_kept = ap container_row_good start_row_lem ∙ row_good (start_row (place_of p.rules (get_or p.containers c z))) start_used

  pub start_free : (c : ℕ) → length p.containers ≤ c → c < container_limit → container_row (start_of p) c ≡ free_words
  unfolding start_of free_words meaning
  start_free c l k =
      session_row (meaning p) encodable c k
      ∙ get_or-eq_default (map place_words (meaning p).places) (replicate row_width 0) {n = c}
      (omega (arith, length-map (map (place_of p.rules) p.containers) place_words, length-map p.containers (place_of p.rules)))

  pub start_rows_good : (c : ℕ) → c < container_limit → container_row_good (container_row (start_of p) c) ≡ true
  start_rows_good c k = by (dec_lt c (length p.containers))
    where
      by : Dec (c < length p.containers) → container_row_good (container_row (start_of p) c) ≡ true
      by (yes l) = start_kept c (record { kind = 0; atom = 0; permit = 0; run = 0 }) l
      by (no l) = ap container_row_good (start_free c (omega arith) k) ∙ free_good

  -- ---- users

  module _ (u : ℕ) (l : u < length p.users) where
    rule_at_lem : get_or (meaning p).users u [] ≡ normal_at p.rules (get_or p.users u 0)
    unfolding meaning
    rule_at_lem = map_at (normal_at p.rules) p.users u 0 [] l

    rule_in : u < length (meaning p).users
    unfolding meaning
    rule_in = omega (arith, length-map p.users (normal_at p.rules))

    rule_good : form_good (normal_at p.rules (get_or p.users u 0)) ≡ true
    rule_good = rw (sym rule_at_lem) (every_get_d form_good (meaning p).users u [] rule_in encodable.users_good)

    pub start_user : user_row (start_of p) u ≡ user_words (normal_at p.rules (get_or p.users u 0))
    unfolding start_of
    start_user =
        session_user (meaning p) encodable u (omega (arith, h.few_users))
        ∙ map_at user_words (meaning p).users u [] (replicate user_width 0) rule_in
        ∙ ap user_words rule_at_lem

    pub start_user_short : length (normal_at p.rules (get_or p.users u 0)) ≤ mixture_limit
    start_user_short = form_short (normal_at p.rules (get_or p.users u 0)) rule_good

    start_user_kept : user_row_good (user_row (start_of p) u) ≡ true
    start_user_kept =
        ap user_row_good start_user
        ∙ user_good (normal_at p.rules (get_or p.users u 0)) start_user_short (form_normal (normal_at p.rules (get_or p.users u 0)) rule_good)

  pub start_undeclared : (u : ℕ) → length p.users ≤ u → u < user_limit → user_row (start_of p) u ≡ undeclared_words
  unfolding start_of undeclared_words meaning
  start_undeclared u l k =
      session_user (meaning p) encodable u k
      ∙ get_or-eq_default (map user_words (meaning p).users) (replicate user_width 0) {n = u}
      (omega (arith, length-map (map (normal_at p.rules) p.users) user_words, length-map p.users (normal_at p.rules)))

  pub start_users_good : (u : ℕ) → u < user_limit → user_row_good (user_row (start_of p) u) ≡ true
  start_users_good u k = by (dec_lt u (length p.users))
    where
      by : Dec (u < length p.users) → user_row_good (user_row (start_of p) u) ≡ true
      by (yes l) = start_user_kept u l
      by (no l) = ap user_row_good (start_undeclared u (omega arith) k) ∙ undeclared_good
