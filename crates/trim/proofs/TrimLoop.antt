-- The passes one after the other, until one drops nothing.
use Prim.Native.Nat.{ℕ, ◌+◌, ◌≤◌, ◌<◌}
use native.Mathlib.Omega.{arith}
use mathlib.Core.Path.{◌≡◌, sym, ap, ◌∙◌}
use mathlib.Core.Logic.{◌⊎◌, inl, inr}
use mathlib.Core.Bool.{Bool, true}
use mathlib.Core.List.{List, []}
use lib.ListN.{length, take, drop}
use lib.Seq.{length-take-le}
use Rattle.lists.specs.Lists.{every}
use Rattle.image.specs.Image.{check_of, policy_in}
use Rattle.session.specs.Limits.{session_length}
use Rattle.session.specs.Session.{start_of, start_effect}
use Rattle.session.proofs.Canonical.{started_effect}
use Rattle.trim.specs.Cuts.{pass, trim_in}
use Rattle.trim.specs.Trims.{trim_limit, cut_counts, kept_front}
use Rattle.trim.specs.Replays.{in_trace, Leaves, Passable, Passed, Trimmable, Kept}
use Rattle.trim.proofs.MinimalTraces.{cut_every, pass_cut, pass_counts, pass_shorter, trim_next, trim_still}
use Rattle.trim.proofs.WholeTraces.{front_fits}

-- so many positions are kept at the front; the pass before it, over n of them, has been made unless n is over the last
pub record Trimming (image t : List ℕ) (last m : ℕ) (before work ps : List ℕ) (n kept : ℕ) : Type 0 where
  pub ok : check_of image ≡ 0
  pub first : length before ≡ session_length
  pub second : length work ≡ session_length
  pub wide : m ≤ session_length
  pub leaves : Leaves t m
  pub alike : drop m work ≡ drop m (start_of (policy_in image))
  pub last_fits : in_trace t last ≡ true
  pub small : last < trim_limit
  pub fewer : kept ≤ last
  pub room : length ps ≡ trim_limit
  pub fits : every (in_trace t) (take kept ps) ≡ true
  pub counts : cut_counts (start_of (policy_in image)) t last (take kept ps) ≡ true
  pub is : trim_in (cut_counts (start_of (policy_in image)) t last) kept (take kept ps) ≡ kept_front (start_of (policy_in image)) t
  pub fixed : n ≤ kept → pass (cut_counts (start_of (policy_in image)) t last) (take kept ps) ≡ take kept ps

pub trimming_start : (image t : List ℕ) (last m : ℕ) (before work ps : List ℕ) → Trimmable image t ps before work last m
    → Trimming image t last m before work ps (last + 1) last
unfolding kept_front
trimming_start image t last m before work ps h = record {
  ok = h.ok;
  first = h.first;
  second = h.second;
  wide = h.wide;
  leaves = h.leaves;
  alike = h.alike;
  last_fits = h.last_fits;
  small = h.small;
  fewer = omega arith;
  room = h.room;
  fits = ap (every (in_trace t)) h.front ∙ front_fits t last h.ends h.last_fits;
  counts = ap (cut_counts (start_of (policy_in image)) t last) h.front ∙ h.counts;
  is = rw (← h.ends, h.front);
  fixed = λ l. absurd (omega arith);
}

module _ (image t : List ℕ) (last m : ℕ) (before work ps : List ℕ) (n kept : ℕ) (g : Trimming image t last m before work ps n kept)
    (before' : List ℕ) (e : before' ≡ start_effect image before) where
  anew : before' ≡ start_of (policy_in image)
  anew = e ∙ started_effect image before g.ok g.first

  pub trimming_ready : length before' ≡ length before → Passable before' work t ps kept last m
  trimming_ready l = record {
    paired = record { even = l ∙ g.first ∙ sym g.second; wide = omega (arith, g.wide, l, g.first); leaves = g.leaves; alike = g.alike ∙ ap (drop m) (sym anew) };
    room = omega (arith, g.fewer, g.small, g.room);
    fits = g.fits;
    last_fits = g.last_fits;
    small = g.small;
    counts = ap (λ (s : List ℕ). cut_counts s t last (take kept ps)) anew ∙ g.counts;
  }

  pub trimming_next : (ps' work' before'' : List ℕ) (r : ℕ) → Passed before' t ps kept last m ps' work' r
      → length before'' ≡ length before → length work' ≡ length work → length ps' ≡ length ps
      → Trimming image t last m before'' work' ps' kept r
  unfolding pass
  trimming_next ps' work' before'' r p lb lw lp = record {
    ok = g.ok;
    first = lb ∙ g.first;
    second = lw ∙ g.second;
    wide = g.wide;
    leaves = g.leaves;
    alike = p.alike ∙ ap (drop m) anew;
    last_fits = g.last_fits;
    small = g.small;
    fewer = omega (arith, p.fewer, g.fewer);
    room = lp ∙ g.room;
    fits = ap (every (in_trace t)) left ∙ cut_every (in_trace t) (pass_cut counts [] ks) g.fits;
    counts = ap counts left ∙ pass_counts counts [] ks g.counts;
    is = by (pass_shorter counts ks);
    fixed = λ l. still l (pass_shorter counts ks);
  }
    where
      counts : List ℕ → Bool
      counts = cut_counts (start_of (policy_in image)) t last

      ks : List ℕ
      ks = take kept ps

      left : take r ps' ≡ pass counts ks
      left = p.is ∙ ap (λ (s : List ℕ). pass (cut_counts s t last) ks) anew

      long : length ks ≡ kept
      long = length-take-le kept ps (omega (arith, g.fewer, g.small, g.room))

      count : length (pass counts ks) ≡ r
      count = sym (ap length left) ∙ length-take-le r ps' (omega (arith, p.fewer, g.fewer, g.small, g.room, lp))

      by : (length (pass counts ks) < length ks) ⊎ (pass counts ks ≡ ks) → trim_in counts r (take r ps') ≡ kept_front (start_of (policy_in image)) t
      by (inl s) = rw (left, ← count) (sym (trim_next counts kept ks (omega (arith, long)) s) ∙ g.is)
      by (inr s) = let z : r ≡ kept = sym count ∙ ap length s ∙ long in rw (left, s, z) g.is

      still : kept ≤ r → (length (pass counts ks) < length ks) ⊎ (pass counts ks ≡ ks) → pass counts (take r ps') ≡ take r ps'
      still l (inl s) = absurd (omega (arith, l, s, count, long))
      still l (inr s) = rw (left, s) s

pub trimming_end : (image t : List ℕ) (last m : ℕ) (before work ps : List ℕ) (n kept : ℕ) → Trimming image t last m before work ps n kept → n ≤ kept
    → Kept image t ps last kept
trimming_end image t last m before work ps n kept g l = record {
  fewer = g.fewer;
  is = sym (trim_still (cut_counts (start_of (policy_in image)) t last) kept (take kept ps) (g.fixed l)) ∙ g.is;
}
