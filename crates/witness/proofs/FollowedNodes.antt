-- The records of a trace, from the session that the image starts and the nodes that it begins with.
use Prim.Native.Nat.{ℕ, ◌≤◌}
use native.Mathlib.Omega.{arith}
use mathlib.Core.Path.{◌≡◌, sym, subst, ◌∙◌, ap}
use mathlib.Core.Bool.{true, false, not}
use mathlib.Core.List.{List}
use lib.ListN.{length}
use Rattle.image.specs.Image.{check_of, policy_in}
use Rattle.session.specs.Limits.{session_length}
use Rattle.session.specs.Session.{start_of, start_answer}
use Rattle.session.proofs.StartRefusals.{length_good, given_by_image}
use Rattle.chains.specs.Demand.{history_of}
use Rattle.records.specs.Records.{step_of}
use Rattle.records.specs.Traces.{trace_records}
use Rattle.monitor.specs.Runs.{step_on}
use Rattle.witness.specs.Told.{told_history, accepted_numbers, told_numbers}
use Rattle.witness.specs.Links.{node_of, Family, of_atom, of_rule, links_left, told_links}
use Rattle.witness.specs.Nodes.{Tracks, tracks, tracks_all, is_rule, FamilyFollowed, family_links, Tracked, Begun}
use Rattle.witness.specs.Explains.{rule_numbers, rule_links, atom_numbers, atom_links}
use Rattle.witness.proofs.TrackLaws.{followed_all, followed_told}
use Rattle.witness.proofs.BeginLaws.{tracked_begin}

-- an accepted image starts a session
pub start_given : (i s : List ℕ) → check_of i ≡ 0 → length s ≡ session_length → start_answer i s ≡ 0
start_given i s e l = (given_by_image i s 0 (λ z. omega arith)).1 ((length_good s).1 l, e)

module _ (image trace s held links held' links' : List ℕ) (es : s ≡ start_of (policy_in image)) (room : node_of (length (trace_records trace)) ≤ length links) where
  module _ (rule : List ℕ) (B : Begun (policy_in image).containers (policy_in image).rules (of_rule rule) held)
      (te : tracks held' links' ≡ tracks_all true false (tracks held links) 0 s (trace_records trace)) where
    rule_followed : FamilyFollowed image trace (of_rule rule) held' links' × (links' ≡ rule_links image trace rule links)
    unfolding rule_numbers rule_links
    rule_followed =
        let ts : Tracks = tracks_all true false (tracks held links) 0 (start_of (policy_in image)) (trace_records trace) in
        let e : ts ≡ tracks held' links' = sym (te ∙ ap (λ (z : List ℕ). tracks_all true false (tracks held links) 0 z (trace_records trace)) es) in
        let f = followed_all (policy_in image) (of_rule rule) (tracks held links) (start_of (policy_in image)) (trace_records trace) room
        (tracked_begin (policy_in image) (of_rule rule) (accepted_numbers (start_of (policy_in image)) (trace_records trace)) held links B) in
        subst (λ (t : Tracks). Tracked (policy_in image) (of_rule rule) (accepted_numbers (start_of (policy_in image)) (trace_records trace))
        (history_of step_on step_of (start_of (policy_in image)) (trace_records trace)) (length (trace_records trace)) t.held t.links ×
        (t.links ≡ links_left (policy_in image) (of_rule rule) (start_of (policy_in image)) (trace_records trace) links)) e f

  module _ (d : ℕ) (B : Begun (policy_in image).containers (policy_in image).rules (of_atom d) held)
      (te : tracks held' links' ≡ tracks_all false true (tracks held links) 0 s (trace_records trace)) where
    atom_followed : FamilyFollowed image trace (of_atom d) held' links' × (links' ≡ atom_links image trace d links)
    unfolding atom_numbers atom_links
    atom_followed =
        let ts : Tracks = tracks_all false true (tracks held links) 0 (start_of (policy_in image)) (trace_records trace) in
        let e : ts ≡ tracks held' links' = sym (te ∙ ap (λ (z : List ℕ). tracks_all false true (tracks held links) 0 z (trace_records trace)) es) in
        let f = followed_told (policy_in image) d (tracks held links) (start_of (policy_in image)) (trace_records trace) room
        (tracked_begin (policy_in image) (of_atom d) (told_numbers (start_of (policy_in image)) (trace_records trace)) held links B) in
        subst (λ (t : Tracks). Tracked (policy_in image) (of_atom d) (told_numbers (start_of (policy_in image)) (trace_records trace))
        (told_history (start_of (policy_in image)) (trace_records trace)) (length (trace_records trace)) t.held t.links ×
        (t.links ≡ told_links (policy_in image) (of_atom d) (start_of (policy_in image)) (trace_records trace) links)) e f

  pub followed : (F : Family) → Begun (policy_in image).containers (policy_in image).rules F held
      → tracks held' links' ≡ tracks_all (is_rule F) (not (is_rule F)) (tracks held links) 0 s (trace_records trace)
      → FamilyFollowed image trace F held' links' × (links' ≡ family_links image trace F links)
  followed (of_rule r) B te = rule_followed r B te
  followed (of_atom d) B te = atom_followed d B te
