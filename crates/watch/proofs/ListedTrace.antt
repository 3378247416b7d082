-- The trace listed part by part: what is read so far is run, counted, and its lines are handed on.
use Prim.Native.Nat.{ℕ, ◌+◌, ◌%◌}
use native.Mathlib.Omega.{arith}
use mathlib.Core.Path.{◌≡◌, refl, sym, ap, ap₂, subst, ◌∙◌}
use mathlib.Core.Bool.{true, false}
use mathlib.Core.Logic.{inl, inr}
use mathlib.Core.List.{List, [], ◌++◌}
use lib.ListN.{length, take, length-append, length-take}
use borrow.Author.Tests.{eq-eqb}
use Rattle.std.specs.Prelude.{Result, Ok, Err}
use Rattle.fields.specs.Ascii.{ascii}
use Rattle.answers.specs.declared.Refusal.{Refusal}
use Rattle.answers.specs.Outcomes.{refusal_number, outcome_number}
use Rattle.answers.proofs.Outcomes.{accepted, refused_by, not_accepted}
use Rattle.answers.specs.declared.Tally.{Tally}
use Rattle.answers.specs.Tallies.{no_tally, tallied_all}
use Rattle.records.specs.Records.{record_length}
use Rattle.records.specs.Traces.{trace_records}
use Rattle.monitor.specs.Runs.{run_answers, run_effect}
use Rattle.image.specs.Limits.{image_limit}
use Rattle.image.specs.Image.{check_of, policy_in}
use Rattle.session.specs.Limits.{session_length}
use Rattle.session.specs.Session.{start_of, start_answer, start_effect}
use Rattle.session.proofs.StartRefusals.{length_passed, length_good}
use Rattle.session.proofs.Canonical.{started_effect}
use Rattle.listing.specs.Lines.{heading, policy_line}
use Rattle.files.specs.declared.Part.{Part}
use Rattle.files.specs.Calls.{Handed, handed_none, handed_then, handed_as, Taken, taken_none, taken_then, Absent, FileIs, FileLoaded, PartRead}
use Rattle.trace_listing.specs.declared.Listed.{Listed}
use Rattle.monitor.specs.PartSessions.{part_tally, part_session}
use Rattle.listing.specs.Lines.{total_of}
use Rattle.trace_listing.specs.Listings.{lines_of, part_text, listing_of}
use Rattle.trace_listing.specs.PartListings.{part_limit, ListedPart}
use Rattle.listing.proofs.Theorems.{listed_front}
use Rattle.monitor.proofs.TraceCuts.{tally_cut, session_cut}
use Rattle.trace_listing.proofs.CutListings.{text_cut}
use Rattle.trace_listing.proofs.Theorems.{listing_refused}
use Rattle.watch.specs.Runs.{TraceListed, Watched, ListingShown}

-- ---- no record

pub no_text_lem : (t : Tally) (s : List ℕ) → part_text t s [] ≡ []
no_text_lem t s = unfold part_text lines_of trace_records Rattle.fields.specs.Bytes.cut in refl

pub no_count : (t : Tally) (s : List ℕ) → part_tally t s [] ≡ t
no_count t s = unfold part_tally tallied_all run_answers trace_records Rattle.fields.specs.Bytes.cut in refl

pub no_step : (s : List ℕ) → part_session s [] ≡ s
no_step s = unfold part_session run_effect trace_records Rattle.fields.specs.Bytes.cut in refl

-- ---- the loop over the parts

-- the bytes read so far, run from session s on
pub record ListedSoFar (name s : List ℕ) (sent : ℕ) (trace s' : List ℕ) (t : Tally) (place sent' : ℕ) : Type 0 where
  pub taken : Taken name trace 0 place
  pub leaves : s' ≡ part_session s trace
  pub counts : t ≡ part_tally no_tally s trace
  pub handed : Handed (part_text no_tally s trace) sent sent'

-- between two parts these are whole records
pub record Between (name s : List ℕ) (sent : ℕ) (s' part : List ℕ) (t : Tally) (place sent' : ℕ) : Type 0 where
  pub trace : List ℕ
  pub whole : length trace % record_length ≡ 0
  pub long : length part ≡ part_limit
  pub session : length s' ≡ length s
  pub so_far : ListedSoFar name s sent trace s' t place sent'

pub between_start : (name s part : List ℕ) (t : Tally) (sent : ℕ) → t ≡ no_tally → length part ≡ part_limit → Between name s sent s part t 0 sent
between_start name s part t sent e l =
    record {
      trace = [];
      whole = refl;
      long = l;
      session = refl;
      so_far =
          record {
            taken = taken_none name 0;
            leaves = sym (no_step s);
            counts = e ∙ sym (no_count no_tally s);
            handed = handed_as (sym (no_text_lem no_tally s)) (handed_none sent);
          };
    }

module _ (name s : List ℕ) (a : ℕ) (s₁ part₁ : List ℕ) (t₁ : Tally) (p₁ a₁ : ℕ) (h : Between name s a s₁ part₁ t₁ p₁ a₁)
    (got : Part) (part₂ : List ℕ) (p₂ : ℕ) (r : PartRead name got part₂ p₁ p₂)
    (out out₂ s₂ : List ℕ) (listed : Listed) (l : (length part₂ ≡ part_limit) × ListedPart (take got.size part₂) t₁ s₁ s₂ out out₂ listed)
    (a₂ : ℕ) (w : Handed (take listed.end out₂) a₁ a₂) where
  -- one part more
  pub next_so_far : ListedSoFar name s a (h.trace ++ take got.size part₂) s₂ listed.tally p₂ a₂
  next_so_far =
      let x : List ℕ = h.trace in
      let y : List ℕ = take got.size part₂ in
      let f = h.so_far in
      record {
        taken = taken_then f.taken r.taken;
        leaves = l.1.leaves ∙ ap (λ (z : List ℕ). part_session z y) f.leaves ∙ sym (session_cut s x y h.whole);
        counts = l.1.counts ∙ ap₂ (λ (t : Tally) (z : List ℕ). part_tally t z y) f.counts f.leaves ∙ sym (tally_cut s x y h.whole no_tally);
        handed =
            handed_as (sym (text_cut no_tally s x y h.whole))
            (handed_then f.handed
            (handed_as (listed_front (part_text t₁ s₁ y) out out₂ listed.end l.1.lines ∙ ap₂ (λ (t : Tally) (z : List ℕ). part_text t z y) f.counts f.leaves) w));
      }

  -- the last part
  pub trace_listed : got.last ≡ true → TraceListed name s s₂ listed.tally a a₂
  trace_listed e =
      let n = next_so_far in
      record {
        trace = h.trace ++ take got.size part₂;
        file = inl (record { end = p₂; taken = n.taken; ends = r.ends e });
        leaves = n.leaves;
        counts = n.counts;
        handed = n.handed;
      }

  -- any other is full, and so of whole records
  pub between_next : got.last ≡ false → length s₂ ≡ length s₁ → Between name s a s₂ part₂ listed.tally p₂ a₂
  between_next e k =
      record {
        trace = h.trace ++ take got.size part₂;
        whole = omega (arith, h.whole, length-append h.trace (take got.size part₂), length-take got.size part₂, r.full e, l.0);
        long = l.0;
        session = k ∙ h.session;
        so_far = next_so_far;
      }

-- ---- the whole listing

-- a missing trace has no record
pub trace_missing : (name s : List ℕ) (t : Tally) (a : ℕ) → Absent name → t ≡ no_tally → TraceListed name s s t a a
trace_missing name s t a m e =
    record {
      trace = [];
      file = inr (m, refl);
      leaves = sym (no_step s);
      counts = e ∙ sym (no_count no_tally s);
      handed = handed_as (sym (no_text_lem no_tally s)) (handed_none a);
    }

pub all_watched : {name : List ℕ} (s s' : List ℕ) (t : Tally) (a b d e : ℕ) → name ≡ ascii "trace.bin" → Handed heading a b → TraceListed name s s' t b d → Handed (total_of t) d e → Watched s a e
all_watched s s' t a b d e n x h y =
    record {
      trace = h.trace;
      file = subst (λ (l : List ℕ). FileIs l h.trace) n h.file;
      handed = handed_then x (handed_then h.handed (handed_as (ap total_of h.counts) y));
    }

-- ---- the program

module _ {name : List ℕ} {room : ℕ} (policy lent : List ℕ) (n : name ≡ ascii "policy.bin") (k : room ≡ image_limit + 1) (f : FileLoaded name policy room)
    (l : length lent ≡ session_length) (started : Result (Unit {0}) Refusal) (r : outcome_number started ≡ start_answer policy lent) where
  checked : outcome_number started ≡ check_of policy
  checked = r ∙ length_passed policy lent ((length_good lent).1 l)

  read_policy : FileLoaded (ascii "policy.bin") policy (image_limit + 1)
  read_policy = subst (λ (x : List ℕ). FileLoaded x policy (image_limit + 1)) n (subst (λ (x : ℕ). FileLoaded name policy x) k f)

  pub shown_refused : (refusal : Refusal) → started ≡ Err refusal → (a b : ℕ) → Handed (policy_line (refusal_number refusal)) a b → ListingShown a b
  shown_refused refusal w a b h =
      let d : check_of policy ≡ 0 → ⊥ = not_accepted checked w in
      record {
        policy = policy;
        trace = [];
        policy_file = read_policy;
        trace_file = λ e. absurd (d e);
        handed = handed_as (ap policy_line (sym (refused_by checked w)) ∙ sym (listing_refused policy [] d)) h;
      }

  pub shown_listing : (u : Unit {0}) → started ≡ Ok u → (s : List ℕ) (a b : ℕ) → s ≡ start_effect policy lent → Watched s a b → ListingShown a b
  unfolding listing_of
  shown_listing u w s a b e h =
      let good : check_of policy ≡ 0 = accepted checked w in
      let start : s ≡ start_of (policy_in policy) = e ∙ started_effect policy lent good l in
      record {
        policy = policy;
        trace = h.trace;
        policy_file = read_policy;
        trace_file = λ _. h.file;
        handed = handed_as (ap (λ (x : List ℕ). heading ++ (part_text no_tally x h.trace ++ total_of (part_tally no_tally x h.trace))) start ∙ sym (rw (eq-eqb (check_of policy) 0 good))) h.handed;
      }
