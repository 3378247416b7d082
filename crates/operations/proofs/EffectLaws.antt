-- Each operation does what the table says: what it wrote to the receiver's row, and its answer, are `late_effect` and `late_answer`.
use Prim.Native.Nat.{ℕ, ◌+◌, ◌-◌, ◌*◌, ◌≤◌, ◌<◌}
use mathlib.Core.Path.{◌≡◌, refl, sym, ap, ap₂, ◌∙◌}
use mathlib.Core.Bool.{Bool, true, false, not, cond, ◌&&◌}
use mathlib.Core.List.{List, [], ◌∷◌}
use native.Mathlib.Omega.{arith}
use lib.Bits.{bit_or}
use lib.Dec.{eqb}
use lib.ListN.{length, get_or, take, drop, replicate}
use borrow.Author.Tests.{not-true, not-false}
use borrow.Rule.Slice.PartMut.{put_mid}
use Rattle.lists.specs.Lists.{every}
use Rattle.lists.proofs.Bools.{and_1}
use Rattle.answers.specs.Refusals.{over_limit}
use Rattle.answers.specs.declared.Answer.{Answer}
use Rattle.answers.specs.declared.Answer.TheVariants.{Given}
use Rattle.answers.specs.Answers.{received, refused, quiet, alert, blocked}
use Rattle.rules.specs.Sets.{data_of, running_of}
use Rattle.rules.specs.Rules.{covers, no_position, cover_from, cover_place, meet, unrestricted}
use Rattle.rules.specs.Answers.{data_width, tag_width, mixture_limit, padded, bounded_of}
use Rattle.rules.specs.declared.Bounded.{Bounded}
use Rattle.rules.proofs.BoundedLaws.{padded_take}
use Rattle.rules.proofs.CoverLaws.{place_missed, place_empty}
use Rattle.image.specs.Limits.{container_limit, user_limit, file_kind, volatile_kind, process_kind, is_guarded}
use Rattle.image.specs.Policy.{unrestricted_rule}
use Rattle.rule_words.specs.Words.{rule_width, rule_of, words_of}
use Rattle.session.specs.Limits.{session_length, row_width, user_width, users_at, kind_at, permit_at, run_at, user_rule_at, nobody}
use Rattle.session.specs.Rows.{Row, row_of, row_words, free_words, permit_words, run_words, put_row}
use Rattle.session.proofs.RowPuts.{container_row_length, row_lent, row_returned}
use Rattle.chains.specs.History.{Step, read, write, append, exec, fork, new_file, new_volatile, receiver}
use Rattle.chains.specs.Demand.{judged}
use Rattle.image.proofs.KindLaws.{process_free, is_process_lem}
use Rattle.chains.specs.Table.{free_row, read_row, write_row, append_row, exec_row, fork_row, new_file_row, new_volatile_row, rule_or, entry, fits, meet_good, alerts, blocks, verdict}
use Rattle.operations.specs.View.{view}
use Rattle.operations.specs.Effects.{made_answer, made_effect}
use Rattle.operations.specs.EarlyTests.{Ready, UsedAt, Kept, words_from, content_words, new_words, cover_verdict, cover_answer, guards_at, late_answer, late_effect}
use Rattle.operations.specs.EarlyTests.{shared_run, absorbed, absorb_answer, absorb_effect, withheld_answer, launch_tag, launch_answer, launch_effect}
use Rattle.operations.proofs.ViewLaws.{view_row}
use Rattle.operations.proofs.RefusalTests.{kind_read}
use Rattle.operations.proofs.ReadyLaws.{process_kind_lem, ready_process, ready_object, ready_user}
use Rattle.operations.proofs.RowSteps.{KeptAs, words_lent, permit_kept, row_used, row_counts, row_long, run_kept, run_single}
use Rattle.operations.proofs.RowSteps.{user_kept_as, Made, met, content_row, new_row, fits_short}

-- the answer a and the session s₁ afterwards are as the step t asks
abbrev pub Done : List ℕ → Step → Answer → List ℕ → Type 0
Done s t a s₁ = (a ≡ late_answer s t) × (s₁ ≡ late_effect s t)

-- the row of c as it is lent
abbrev pub lent : List ℕ → ℕ → List ℕ
lent s c = take (c * row_width + row_width - c * row_width) (drop (c * row_width) s)

-- the session with the numbers ws as the row of c, as it comes back
abbrev pub returned : List ℕ → ℕ → List ℕ → List ℕ
returned s c ws = put_mid (c * row_width) (c * row_width + row_width - c * row_width) s ws

-- ---- a row that `update` takes

pub lent_fit : (s : List ℕ) (c : ℕ) → UsedAt s c → (length (lent s c) ≡ row_width) × (get_or (permit_words (lent s c)) 0 0 ≤ mixture_limit)
lent_fit s c h = rw row_lent (row_long s c h, (row_counts s c h).0)

-- and where its run rule has one mixture, `narrow`
pub lent_single : (s : List ℕ) (c : ℕ) → UsedAt s c → get_or s (c * row_width + run_at) 0 ≡ 1
    → (length (lent s c) ≡ row_width) × (get_or (permit_words (lent s c)) 0 0 ≤ mixture_limit) × (Kept (run_words (lent s c))) × (get_or (run_words (lent s c)) 0 0 ≡ 1)
lent_single s c h e = let r = run_single s c h e in rw row_lent (row_long s c h, (row_counts s c h).0, r.0, r.1)

pub lent_long : (s : List ℕ) (c : ℕ) → length s ≡ session_length → c < container_limit → length (lent s c) ≡ row_width
lent_long s c l h = rw row_lent (container_row_length s c l h)

lent_permit : (s : List ℕ) (c : ℕ) → c < container_limit → (row_of (lent s c)).permit ≡ ((view s).row c).permit
lent_permit s c l = ap (λ (x : List ℕ). (row_of x).permit) (row_lent s c) ∙ ap (λ (w : Row). w.permit) (sym (view_row s c l))

-- the rules of a row in use
pub permit_short_lem : (s : List ℕ) (c : ℕ) → UsedAt s c → length ((view s).row c).permit ≤ mixture_limit
permit_short_lem s c h = rw (view_row s c h.low) (row_used s c h).permit_short

-- another tag and run rule, as a row
content_seen : (s : List ℕ) (c : ℕ) → UsedAt s c → (t : ℕ) (r : List ℕ) (m : Bounded) → m ≡ bounded_of r → (ws : List ℕ) → ws ≡ content_words (lent s c) t m
    → ws ≡ row_words (record { kind = ((view s).row c).kind; tag = t; permit = ((view s).row c).permit; run = r; behalf = ((view s).row c).behalf })
content_seen s c h t r m e ws ew =
    ew ∙ ap (λ (x : List ℕ). content_words x t m) (row_lent s c) ∙ content_row s c h t r m e
    ∙ ap (λ (w : Row). row_words (record { kind = w.kind; tag = t; permit = w.permit; run = r; behalf = w.behalf })) (sym (view_row s c h.low))

-- ---- answers

-- a judged step is blocked where its receiver is guarded and the tag not covered
guard_blocks : (t : Step) (w : Row) → judged t ≡ true → blocks t w ≡ (is_guarded w.kind && not (covers w.permit w.tag))
unfolding blocks alerts
guard_blocks t w j = rw j refl

-- what is not guarded is not blocked
unguarded : (t : Step) (w : Row) → is_guarded w.kind ≡ false → blocks t w ≡ false
unfolding blocks
unguarded t w e = rw e

verdict_covers : (t : Step) (w : Row) → blocks t w ≡ false → judged t ≡ true → cover_answer (receiver t) w.permit w.tag ≡ verdict t w
unfolding verdict alerts cover_answer
verdict_covers t w f j = rw (f, j) (by (covers w.permit w.tag))
  where
    k : ℕ
    k = cover_place w.permit w.tag

    by : (b : Bool) → ◌≡◌ {A = Answer} (Given (cover_verdict b) (received (receiver t) w.tag k)) (cond (not b) alert quiet (receiver t) w.tag k)
    by true = refl
    by false = refl

unblocked : (t : Step) (w : Row) → judged t ≡ false → blocks t w ≡ false
unfolding blocks alerts
unblocked t w j = rw j (by (is_guarded w.kind))
  where
    by : (g : Bool) → (g && false) ≡ false
    by true = refl
    by false = refl

verdict_unjudged : (t : Step) (w : Row) → judged t ≡ false → quiet (receiver t) w.tag (cover_place w.permit w.tag) ≡ verdict t w
unfolding verdict alerts
verdict_unjudged t w j = rw (unblocked t w j, j)

-- ---- the rule of a `Bounded`

bounded_rule : (r : List ℕ) (m : Bounded) → m ≡ bounded_of r → (m.count ≡ length r) × (take m.count m.mixtures ≡ r)
unfolding bounded_of
bounded_rule r m e = rw e (refl, padded_take r (length r) refl)

-- a process is not guarded
process_unguarded : (w : Row) → w.kind ≡ process_kind → is_guarded w.kind ≡ false
process_unguarded w e = process_free w.kind (is_process_lem w.kind e)

-- ---- the three ways in which an operation ends

-- 15
refused_done : (s : List ℕ) (t : Step) → meet_good (view s) t ≡ false → Done s t (refused over_limit) s
unfolding late_answer late_effect
refused_done s t g = (rw g, rw g)

module _ (s : List ℕ) (t : Step) (g : meet_good (view s) t ≡ true) where
  put_done : blocks t (entry (view s) t).row ≡ false
      → (a : Answer) (ws : List ℕ) → a ≡ verdict t (entry (view s) t).row → ws ≡ row_words (entry (view s) t).row
      → Done s t a (returned s (receiver t) ws)
  unfolding late_answer late_effect made_answer made_effect
  put_done f a ws ea e = (rw g ea, row_returned s (receiver t) ws ∙ rw (g, f, e))

  -- all of it new
  new_done : (w : Row) → is_guarded w.kind ≡ false → (entry (view s) t).row ≡ w → (m n : Bounded) (a : Answer) (ws : List ℕ)
      → m ≡ bounded_of w.permit → n ≡ bounded_of w.run
      → a ≡ verdict t w → ws ≡ new_words w.kind w.tag m n w.behalf
      → Done s t a (returned s (receiver t) ws)
  new_done w free ew m n a ws em en ea e =
      put_done (ap (blocks t) ew ∙ unguarded t w free) a ws (ea ∙ ap (verdict t) (sym ew)) (e ∙ new_row w.kind w.tag w.permit w.run m n w.behalf em en ∙ ap row_words (sym ew))

  -- of a process
  replace_done : (w : Row) → (entry (view s) t).row ≡ w → (m n : Bounded) (a : Answer) (ws : List ℕ) → judged t ≡ true → w.kind ≡ process_kind
      → m ≡ bounded_of w.permit → n ≡ bounded_of w.run
      → a ≡ cover_answer (receiver t) (take m.count m.mixtures) w.tag → ws ≡ new_words process_kind w.tag m n w.behalf
      → Done s t a (returned s (receiver t) ws)
  replace_done w ew m n a ws j ek em en ea e =
      new_done w (process_unguarded w ek) ew m n a ws em en
      (ea ∙ ap (λ (x : List ℕ). cover_answer (receiver t) x w.tag) (bounded_rule w.permit m em).1 ∙ verdict_covers t w (unguarded t w (process_unguarded w ek)) j)
      (e ∙ ap (λ (k : ℕ). new_words k w.tag m n w.behalf) (sym ek))

-- ---- whether the access is blocked

kind_seen : (s : List ℕ) (c : ℕ) → c < container_limit → get_or s (c * row_width + kind_at) 0 ≡ ((view s).row c).kind
kind_seen s c l = kind_read s c ∙ ap (λ (w : Row). w.kind) (sym (view_row s c l))

module _ (s : List ℕ) (c tag : ℕ) (h : UsedAt s c) (b : Bool) (e : b ≡ is_guarded (get_or s (c * row_width + kind_at) 0)) where
  kind_told : is_guarded ((view s).row c).kind ≡ b
  kind_told = ap is_guarded (sym (kind_seen s c h.low)) ∙ sym e

  pub guards_not : not b ≡ true → false ≡ guards_at s c tag
  unfolding guards_at
  guards_not n = rw (kind_told ∙ not-true b n)

  pub guards_told : not b ≡ false → (rule : List ℕ) → rule ≡ rule_of (take (c * row_width + permit_at + rule_width - (c * row_width + permit_at)) (drop (c * row_width + permit_at) s))
      → (v : Bool) → v ≡ covers rule tag → not v ≡ guards_at s c tag
  unfolding guards_at
  guards_told n rule er v ev =
      let r : rule ≡ ((view s).row c).permit = er ∙ ap rule_of (words_lent s (c * row_width + permit_at)) ∙ (permit_kept s c h).said in
      rw (kind_told ∙ not-false b n, ev, r)

-- ---- a container that takes in what another has

module _ (s : List ℕ) (c d t : ℕ) where
  -- the meet does not fit
  module _ (f : fits (meet ((view s).row c).run ((view s).row d).run) ≡ false) where
    pub absorb_over : (refused over_limit ≡ absorb_answer s c d t) × (s ≡ absorb_effect s c d t)
    unfolding absorb_answer absorb_effect shared_run
    absorb_over = (rw f, rw f)

    -- where it is withheld
    pub withheld_over : refused over_limit ≡ withheld_answer s c d t
    unfolding withheld_answer shared_run
    withheld_over = rw f

  -- it fits
  pub withheld_fits : fits (meet ((view s).row c).run ((view s).row d).run) ≡ true → (a : Answer) → a ≡ blocked c t no_position → a ≡ withheld_answer s c d t
  unfolding withheld_answer shared_run
  withheld_fits f a ea = ea ∙ rw f

  pub absorb_done : UsedAt s c → (m : Bounded) → Made (meet ((view s).row c).run ((view s).row d).run) m → (a : Answer) (ws : List ℕ)
      → a ≡ cover_answer c (row_of (lent s c)).permit t → ws ≡ content_words (lent s c) t m
      → (a ≡ absorb_answer s c d t) × (returned s c ws ≡ absorb_effect s c d t)
  unfolding absorb_answer absorb_effect absorbed shared_run
  absorb_done h m k a ws ea ew =
      let g : fits (shared_run s c d) ≡ true = k.small in
      let e : ws ≡ row_words (absorbed s c d t) = content_seen s c h t (shared_run s c d) m k.said ws ew in
      (ea ∙ ap (λ (x : List ℕ). cover_answer c x t) (lent_permit s c h.low) ∙ rw g, row_returned s c ws ∙ rw (g, e))

-- what an absorbing step is answered, and does, is what the table says
module _ (s : List ℕ) (c d t : ℕ) (step : Step) (j : judged step ≡ true) (er : receiver step ≡ c) (ew : (entry (view s) step).row ≡ absorbed s c d t)
    (eg : meet_good (view s) step ≡ fits (shared_run s c d)) where
  -- it does not block
  module _ (f : blocks step (absorbed s c d t) ≡ false) where
    absorb_answer_lem : absorb_answer s c d t ≡ late_answer s step
    unfolding late_answer made_answer absorb_answer absorbed
    absorb_answer_lem =
        ap (λ (x : Answer). cond (fits (shared_run s c d)) x (refused over_limit))
        (ap (λ (k : ℕ). cover_answer k ((view s).row c).permit t) (sym er) ∙ verdict_covers step (absorbed s c d t) f j)
        ∙ rw (ew, eg)

    absorb_effect_lem : absorb_effect s c d t ≡ late_effect s step
    unfolding late_effect made_effect absorb_effect
    absorb_effect_lem = rw (ew, eg, er, f)

    absorb_late : (a : Answer) (s₁ : List ℕ) → (a ≡ absorb_answer s c d t) × (s₁ ≡ absorb_effect s c d t) → Done s step a s₁
    absorb_late a s₁ h = (h.0 ∙ absorb_answer_lem, h.1 ∙ absorb_effect_lem)

  -- it does
  module _ (b : blocks step (absorbed s c d t) ≡ true) where
    either : (x : Bool) → cond x s s ≡ s
    either true = refl
    either false = refl

    -- what is blocked is not covered
    withheld_missed : cover_place ((view s).row c).permit t ≡ no_position
    unfolding absorbed
    withheld_missed = place_missed ((view s).row c).permit t (not-true (covers ((view s).row c).permit t) (and_1 (is_guarded ((view s).row c).kind) (sym (guard_blocks step (absorbed s c d t) j) ∙ b)))

    withheld_late : (a : Answer) → a ≡ withheld_answer s c d t → Done s step a s
    unfolding late_answer late_effect made_answer made_effect withheld_answer verdict absorbed
    withheld_late a ea = (
      ea ∙ ap (λ (k : ℕ). cond (fits (shared_run s c d)) (blocked k t no_position) (refused over_limit)) (sym er)
          ∙ rw (ew, eg, b, withheld_missed),
      rw (ew, b) (sym (either (meet_good (view s) step))),
    )

one_fits : (r : List ℕ) → every fits (r ∷ []) ≡ fits r
unfolding every
one_fits r = by (fits r)
  where
    by : (b : Bool) → (b && true) ≡ b
    by true = refl
    by false = refl

-- ---- the operations, one by one

module _ (s : List ℕ) (p o : ℕ) where
  pub read_done : Ready s (read p o) → (t : ℕ) → t ≡ bit_or ((view s).row p).tag (data_of data_width ((view s).row o).tag) → (a : Answer) (s₁ : List ℕ)
      → (a ≡ absorb_answer s p o t) × (s₁ ≡ absorb_effect s p o t) → Done s (read p o) a s₁
  unfolding entry read_row absorbed shared_run meet_good
  read_done h t et =
      absorb_late s p o t (read p o) refl refl (rw et) (one_fits (shared_run s p o))
      (unguarded (read p o) (absorbed s p o t) (process_unguarded (absorbed s p o t) (process_kind_lem s (read p o) h)))

  append_blocks : (t : ℕ) → blocks (append p o) (absorbed s o p t) ≡ guards_at s o t
  unfolding absorbed guards_at
  append_blocks t = guard_blocks (append p o) (absorbed s o p t) refl

  pub append_done : (t : ℕ) → t ≡ bit_or ((view s).row o).tag ((view s).row p).tag → guards_at s o t ≡ false → (a : Answer) (s₁ : List ℕ)
      → (a ≡ absorb_answer s o p t) × (s₁ ≡ absorb_effect s o p t) → Done s (append p o) a s₁
  unfolding entry append_row absorbed shared_run meet_good
  append_done t et f = absorb_late s o p t (append p o) refl refl (rw et) (one_fits (shared_run s o p)) (append_blocks t ∙ f)

  pub append_blocked : (t : ℕ) → t ≡ bit_or ((view s).row o).tag ((view s).row p).tag → guards_at s o t ≡ true → (a : Answer) → a ≡ withheld_answer s o p t → Done s (append p o) a s
  unfolding entry append_row absorbed shared_run meet_good
  append_blocked t et b = withheld_late s o p t (append p o) refl refl (rw et) (one_fits (shared_run s o p)) (append_blocks t ∙ b)

  write_blocks : (t : ℕ) → t ≡ ((view s).row p).tag → blocks (write p o) (entry (view s) (write p o)).row ≡ guards_at s o t
  unfolding entry write_row guards_at
  write_blocks t et = guard_blocks (write p o) (write_row ((view s).row p) ((view s).row o)) refl ∙ rw et

  -- what is blocked is not covered
  write_missed : (t : ℕ) → t ≡ ((view s).row p).tag → guards_at s o t ≡ true → cover_place ((view s).row o).permit ((view s).row p).tag ≡ no_position
  unfolding guards_at
  write_missed t et g = rw et at (place_missed ((view s).row o).permit t (not-true (covers ((view s).row o).permit t) (and_1 (is_guarded ((view s).row o).kind) g)))

  pub write_blocked : (t : ℕ) → t ≡ ((view s).row p).tag → guards_at s o t ≡ true → (a : Answer) → a ≡ blocked o t no_position → Done s (write p o) a s
  unfolding late_answer late_effect made_answer made_effect verdict entry write_row meet_good every
  write_blocked t et g a ea = (ea ∙ rw (write_blocks t et ∙ g, et, write_missed t et g), rw (write_blocks t et ∙ g))

  pub write_done : Ready s (write p o) → (m : Bounded) → m ≡ bounded_of ((view s).row p).run → (t : ℕ) → t ≡ ((view s).row p).tag → guards_at s o t ≡ false → (a : Answer) (ws : List ℕ)
      → a ≡ cover_answer o (row_of (lent s o)).permit t → ws ≡ content_words (lent s o) t m → Done s (write p o) a (returned s o ws)
  unfolding entry write_row meet_good every guards_at
  write_done h m em t et free a ws ea ew =
      let uo : UsedAt s o = ready_object s (write p o) h refl in
      let w : Row = write_row ((view s).row p) ((view s).row o) in
      put_done s (write p o) refl (write_blocks t et ∙ free) a ws
      (ea ∙ ap₂ (λ (x : List ℕ) (y : ℕ). cover_answer o x y) (lent_permit s o uo.low) et ∙ verdict_covers (write p o) w (write_blocks t et ∙ free) refl)
      (content_seen s o uo t ((view s).row p).run m em ws ew
      ∙ ap (λ (y : ℕ). row_words (record { kind = ((view s).row o).kind; tag = y; permit = ((view s).row o).permit; run = ((view s).row p).run; behalf = ((view s).row o).behalf })) et)

  pub fork_fit : Ready s (fork p o) → (m : Bounded) → m ≡ bounded_of ((view s).row p).permit → (length (lent s o) ≡ row_width) × (m.count ≤ mixture_limit)
  unfolding entry
  fork_fit h m em =
      (lent_long s o h.long h.object, omega (arith, (bounded_rule ((view s).row p).permit m em).0, permit_short_lem s p (ready_process s (fork p o) h)))

  pub fork_done : Ready s (fork p o)
      → (m : Bounded) → m ≡ bounded_of ((view s).row p).permit → (n : Bounded) → n ≡ bounded_of ((view s).row p).run → (t : ℕ) → t ≡ ((view s).row p).tag
      → (b : ℕ) → b ≡ ((view s).row p).behalf → (a : Answer) (ws : List ℕ) → a ≡ cover_answer o (take m.count m.mixtures) t
      → ws ≡ new_words process_kind t m n b → Done s (fork p o) a (returned s o ws)
  unfolding entry fork_row meet_good every
  fork_done h m em n en t et b eb a ws ea ew =
      replace_done s (fork p o) refl (fork_row ((view s).row p)) refl m n a ws refl (process_kind_lem s (fork p o) h) em en
      (rw et at ea) (rw (et, eb) at ew)

-- the two rules that an exec meets, and their places
module _ (s : List ℕ) (p o u : ℕ) (h : Ready s (exec p o u)) where
  pub exec_places : (length s ≡ session_length) × (o < container_limit) × (u < user_limit)
  unfolding entry
  exec_places = (h.long, h.object, h.user u refl)

  pub exec_run : KeptAs s (o * row_width + run_at) ((view s).row o).run
  unfolding entry
  exec_run = run_kept s o (ready_object s (exec p o u) h refl)

  pub exec_user : KeptAs s (users_at + u * user_width + user_rule_at) (rule_or ((view s).user u))
  unfolding entry
  exec_user = user_kept_as s u (ready_user s (exec p o u) h u refl)

  pub exec_met : meet (rule_of (words_from s (o * row_width + run_at))) (rule_of (words_from s (users_at + u * user_width + user_rule_at)))
      ≡ meet ((view s).row o).run (rule_or ((view s).user u))
  exec_met = met s _ _ _ _ exec_run exec_user

pub launch_done : (s : List ℕ) (p o u : ℕ) (m n : Bounded) → n ≡ bounded_of ((view s).row o).run → (t : ℕ) → t ≡ launch_tag s p o → (a : Answer) (ws : List ℕ)
    → a ≡ cover_answer p (take m.count m.mixtures) t → ws ≡ new_words process_kind t m n u → (a ≡ launch_answer s p o m) × (returned s p ws ≡ launch_effect s p o u m)
unfolding launch_answer launch_effect
launch_done s p o u m n en t et a ws ea ew = (ea ∙ rw et, row_returned s p ws ∙ rw (ew, en, et))

-- the tag, made of the running atoms n of o and the data atoms of p
pub launch_tag_lem : (s : List ℕ) (p o n k t r : ℕ) → n ≡ ((view s).row o).tag → r ≡ running_of data_width n → k ≡ ((view s).row p).tag → t ≡ bit_or r (data_of data_width k) → t ≡ launch_tag s p o
unfolding launch_tag
launch_tag_lem s p o n k t r en er ek et = et ∙ rw (er, en, ek)

module _ (s : List ℕ) (p o u : ℕ) (h : Ready s (exec p o u)) where
  exec_meet : meet_good (view s) (exec p o u) ≡ fits (meet ((view s).row o).run (rule_or ((view s).user u)))
  unfolding entry meet_good
  exec_meet = one_fits (meet ((view s).row o).run (rule_or ((view s).user u)))

  pub exec_over : fits (meet ((view s).row o).run (rule_or ((view s).user u))) ≡ false → Done s (exec p o u) (refused over_limit) s
  exec_over f = refused_done s (exec p o u) (exec_meet ∙ f)

  module _ (m : Bounded) (k : Made (meet ((view s).row o).run (rule_or ((view s).user u))) m) where
    pub exec_fit : (UsedAt s p) × (UsedAt s o) × (m.count ≤ mixture_limit)
    unfolding entry
    exec_fit =
        let l : length (meet ((view s).row o).run (rule_or ((view s).user u))) ≤ mixture_limit = fits_short (meet ((view s).row o).run (rule_or ((view s).user u))) k.small in (
          ready_process s (exec p o u) h,
          ready_object s (exec p o u) h refl,
          omega (arith, (bounded_rule (meet ((view s).row o).run (rule_or ((view s).user u))) m k.said).0),
        )

    pub exec_done : (a : Answer) (s₁ : List ℕ) → (a ≡ launch_answer s p o m) × (s₁ ≡ launch_effect s p o u m) → Done s (exec p o u) a s₁
    unfolding entry exec_row launch_tag launch_answer launch_effect
    exec_done a s₁ (ea, es) =
        let ws : List ℕ = new_words process_kind (launch_tag s p o) m (bounded_of ((view s).row o).run) u in
        let d : Done s (exec p o u) a (returned s p ws) =
        replace_done s (exec p o u) (exec_meet ∙ k.small) (exec_row ((view s).row p) ((view s).row o) (rule_or ((view s).user u)) u) refl m
        (bounded_of ((view s).row o).run) a ws refl (process_kind_lem s (exec p o u) h) k.said refl ea refl in
        (d.0, es ∙ sym (row_returned s p ws) ∙ d.1)

-- the position of the empty tag in the rule of a `Bounded`
empty_place : (r : List ℕ) (m : Bounded) → m ≡ bounded_of r → (k : ℕ) → k ≡ cond (eqb m.count 0) no_position 0 → k ≡ cover_place r 0
empty_place r m e k ek = ek ∙ rw (bounded_rule r m e).0 (sym (place_empty r))

pub file_done : (s : List ℕ) (p o u : ℕ) → Ready s (new_file p o u) → (m : Bounded) → m ≡ bounded_of (rule_or ((view s).user u))
    → (n : Bounded) → n ≡ bounded_of (unrestricted tag_width) → (ws : List ℕ)
    → ws ≡ new_words file_kind 0 m n nobody → (k : ℕ) → k ≡ cond (eqb m.count 0) no_position 0 → Done s (new_file p o u) (quiet o 0 k) (returned s o ws)
unfolding entry new_file_row unrestricted_rule meet_good every is_guarded
file_done s p o u h m em n en ws ew k ek =
    let w : Row = new_file_row (rule_or ((view s).user u)) in
    new_done s (new_file p o u) refl w refl refl m n (quiet o 0 k) ws em en
    (ap (quiet o 0) (empty_place (rule_or ((view s).user u)) m em k ek) ∙ verdict_unjudged (new_file p o u) w refl) ew

pub volatile_done : (s : List ℕ) (p o : ℕ) (m : Bounded) → m ≡ bounded_of (unrestricted tag_width) → (ws : List ℕ)
    → ws ≡ new_words volatile_kind 0 m m nobody → Done s (new_volatile p o) (quiet o 0 0) (returned s o ws)
unfolding entry new_volatile_row unrestricted_rule unrestricted meet_good every is_guarded
volatile_done s p o m em ws ew =
    new_done s (new_volatile p o) refl new_volatile_row refl refl m m (quiet o 0 0) ws em em
    (ap (quiet o 0) (sym (place_empty (unrestricted tag_width))) ∙ verdict_unjudged (new_volatile p o) new_volatile_row refl) ew

-- ---- what leaves

free_words_lem : row_words free_row ≡ free_words
unfolding free_row row_words free_words words_of padded
free_words_lem = refl

-- the row as it comes back when its words are cleared
pub cleared : (s : List ℕ) (c : ℕ) → length s ≡ session_length → c < container_limit → (ws : List ℕ) → ws ≡ replicate (length (lent s c)) 0 → returned s c ws ≡ put_row s c free_words
unfolding free_words
cleared s c l h ws e = row_returned s c ws ∙ ap (put_row s c) (e ∙ ap (λ (n : ℕ). replicate n 0) (lent_long s c l h))

-- a step that frees its receiver's row
pub left_done : (s : List ℕ) (t : Step) → (entry (view s) t).row ≡ free_row → meet_good (view s) t ≡ true → judged t ≡ false → (a : Answer) (s₁ : List ℕ)
    → (a ≡ quiet (receiver t) 0 no_position) × (s₁ ≡ put_row s (receiver t) free_words) → Done s t a s₁
unfolding late_answer late_effect made_answer made_effect free_row cover_place cover_from
left_done s t er g j a s₁ (ea, es) =
    (ea ∙ verdict_unjudged t free_row j ∙ ap (verdict t) (sym er) ∙ rw g, es ∙ ap (put_row s (receiver t)) (sym free_words_lem ∙ ap row_words (sym er)) ∙ rw (g, unblocked t (entry (view s) t).row j))
