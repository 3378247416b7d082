-- The two files, and the whole text.
use Prim.Native.Nat.{ℕ, ◌+◌, ◌≤◌, ◌<◌}
use native.Mathlib.Omega.{arith}
use mathlib.Core.Path.{◌≡◌, sym, ap, subst, ◌∙◌}
use mathlib.Core.Logic.{inl, inr}
use mathlib.Core.List.{List, []}
use lib.ListN.{length}
use borrow.Author.Tests.{eq-eqb, ne_eqb}
use Rattle.std.specs.Prelude.{Result, Ok, Err}
use Rattle.fields.specs.Ascii.{ascii}
use Rattle.answers.specs.declared.Refusal.{Refusal}
use Rattle.answers.specs.Outcomes.{refusal_number, outcome_number}
use Rattle.answers.proofs.Outcomes.{accepted, refused_by, not_accepted}
use Rattle.image.specs.Limits.{image_limit}
use Rattle.image.specs.Image.{check_of, policy_in}
use Rattle.session.specs.Limits.{session_length}
use Rattle.session.specs.Session.{start_of, start_answer, start_effect}
use Rattle.session.proofs.StartRefusals.{length_passed, length_good}
use Rattle.session.proofs.Canonical.{started_effect}
use Rattle.listing.specs.Lines.{policy_line}
use Rattle.files.specs.Calls.{Handed, handed_as, FileIs, FileLoaded}
use Rattle.explain.specs.Texts.{trace_text, explanations_of}
use Rattle.explain.specs.Runs.{trace_size, TraceExplained, ExplanationsShown}

-- a file that leaves room was read whole
file_whole : {name bytes : List ℕ} {room : ℕ} → FileLoaded name bytes room → length bytes < room → FileIs name bytes
file_whole (inl f) l = f
file_whole (inr f) l = absurd (omega (arith, f.1))

pub trace_shown : {name : List ℕ} {room : ℕ} (i trace : List ℕ) (a b : ℕ) → name ≡ ascii "trace.bin" → room ≡ trace_size + 1
    → FileLoaded name trace room → length trace ≤ trace_size → Handed (trace_text i trace) a b → TraceExplained i a b
trace_shown i trace a b n k f l h =
    record {
      trace = trace;
      file = subst (λ (x : List ℕ). FileIs x trace) n (file_whole f (omega (arith, k)));
      few = l;
      handed = h;
    }

module _ {name : List ℕ} {room : ℕ} (policy lent : List ℕ) (n : name ≡ ascii "policy.bin") (k : room ≡ image_limit + 1) (f : FileLoaded name policy room)
    (l : length lent ≡ session_length) (start : Result (Unit {0}) Refusal) (r : outcome_number start ≡ start_answer policy lent) where
  checked : outcome_number start ≡ check_of policy
  checked = r ∙ length_passed policy lent ((length_good lent).1 l)

  read_policy : FileLoaded (ascii "policy.bin") policy (image_limit + 1)
  read_policy = subst (λ (x : List ℕ). FileLoaded x policy (image_limit + 1)) n (subst (λ (x : ℕ). FileLoaded name policy x) k f)

  pub started : (u : Unit {0}) → start ≡ Ok u → (s : List ℕ) → s ≡ start_effect policy lent → (check_of policy ≡ 0) × (s ≡ start_of (policy_in policy))
  started u w s e = (accepted checked w, e ∙ started_effect policy lent (accepted checked w) l)

  pub shown_refused : (refusal : Refusal) → start ≡ Err refusal → (a b : ℕ) → Handed (policy_line (refusal_number refusal)) a b → ExplanationsShown a b
  unfolding explanations_of
  shown_refused refusal w a b h =
      let d : check_of policy ≡ 0 → ⊥ = not_accepted checked w in
      record {
        policy = policy;
        trace = [];
        policy_file = read_policy;
        trace_file = λ e. absurd (d e);
        few = λ e. absurd (d e);
        handed = handed_as (ap policy_line (sym (refused_by checked w)) ∙ sym (rw (ne_eqb (check_of policy) 0 d))) h;
      }

  pub shown_explained : (u : Unit {0}) → start ≡ Ok u → (a b : ℕ) → TraceExplained policy a b → ExplanationsShown a b
  unfolding explanations_of
  shown_explained u w a b h =
      let good : check_of policy ≡ 0 = accepted checked w in
      record {
        policy = policy;
        trace = h.trace;
        policy_file = read_policy;
        trace_file = λ _. h.file;
        few = λ _. h.few;
        handed = handed_as (sym (rw (eq-eqb (check_of policy) 0 good))) h.handed;
      }
