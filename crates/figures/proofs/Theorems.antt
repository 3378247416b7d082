-- THE MONTH'S FIGURES: what is proved of them (change requests No. 6 and 9). `month_text` (specs/Months.antt) is every byte that the program
-- prints. It is stated over `run_answers`, the answers of which demand 3 speaks (crates/monitor/proofs/Theorems.antt). What the program
-- hands on are the texts of `put_trace` and `put_total` for what `add_part` and `add_total` have counted.
use Rattle.std.proofs.Common.{◌≡◌, ℕ, zero, suc, ◌+◌, ◌-◌, ◌*◌, ◌/◌, ◌%◌, ◌^◌, ◌<◌, ◌≤◌, Bool, true, false, ◌≢◌, ◌⊎◌, ◌↔◌, List, [], ◌∷◌, ◌++◌, map, length, take, sym, refl, ap, ◌∙◌, inl}
use Rattle.std.proofs.Common.{inr, mod-lt, arith, take_all, take-take, eq-eqb, ne_eqb}
use native.Mathlib.Nat.{div-add-mod}
use lib.ListN.{length-map}
use Rattle.lists.proofs.Bools.{decide}
use Rattle.lists.specs.Counting.{count_below, sum_below}
use Rattle.fields.specs.Ascii.{ascii}
use Rattle.fields.specs.Bytes.{Bytes}
use Rattle.answers.specs.declared.Answer.{Answer}
use Rattle.answers.specs.Answers.{accepted, is_alert, is_blocked, is_refused}
use Rattle.answers.specs.Refusals.{trace_length}
use Rattle.answers.specs.Tallies.{no_tally, count_of}
use Rattle.answers.proofs.Theorems.{tally_counts}
use Rattle.image.specs.Limits.{container_limit}
use Rattle.image.specs.Image.{check_of, policy_in}
use Rattle.session.specs.Session.{start_of}
use Rattle.chains.specs.History.{step_count, start}
use Rattle.records.specs.Records.{record_length}
use Rattle.records.specs.Traces.{trace_records}
use Rattle.monitor.specs.Runs.{run_answers, history_in}
use Rattle.monitor.proofs.Theorems.{demand3}
use Rattle.monitor.proofs.Guarded.{blocked_exactly}
use Rattle.listing.specs.Text.{decimal}
use Rattle.listing.specs.Lines as watched
use Rattle.listing.specs.Lines.{line, total_of, policy_line}
use Rattle.monitor.specs.PartSessions.{part_tally, part_session, together}
use Rattle.monitor.proofs.TraceCuts.{answers_length}
use Rattle.figures.specs.Figures.{Figures, test_at, accepted_in, alerts_in, refused_in, blocked_in, alert_at, figures_of, no_figures, sum_of, record_limit, too_many}
use Rattle.figures.specs.Lines.{name_of, rate_fields, fields_from, count_fields, alert_fields, figure_fields, trace_line}
use Rattle.figures.specs.Months.{trace_figures, counting, total_figures, trace_limit, month_text, FrontsOf}
use Rattle.figures.proofs.MonthReads.{fronts_text}
use Rattle.figures.specs.Counters.{figures_in, no_counters, part_counters, text_by_parts, InParts}
use Rattle.figures.specs.Positions.{ForbiddenAt, ForbiddenInto, BlockedAt}
use Rattle.figures.proofs.MonthLaws as months
use Rattle.figures.proofs.MonthLaws.{text_parts, records_length}
use Rattle.figures.proofs.AlertLaws.{history_size, answers_split, alerts_summed, count_told, alert_at_lem, alert_into, blocked_at}
use Rattle.figures.proofs.LongLaws.{many_records, long_line, figures_line_apart}

-- ---- the counts of a list of answers

-- by their names: the accepted, the alerts, the refused, the blocked
pub counts_told : (l : List Answer)
    → (accepted_in (figures_of l) ≡ count_of accepted l) × (alerts_in (figures_of l) ≡ count_of is_alert l)
    × (refused_in (figures_of l) ≡ count_of is_refused l) × (blocked_in (figures_of l) ≡ count_of is_blocked l)
unfolding figures_of test_at
counts_told l = (refl, refl, refl, refl)

-- ---- the figures of a run: of any session and any records

module _ (s : List ℕ) (rs : List (List ℕ)) where
  -- the accepted steps are those of the history
  pub accepted_history : accepted_in (figures_of (run_answers s rs)) ≡ step_count (history_in rs (run_answers s rs))
  unfolding figures_of test_at history_in
  accepted_history = sym (history_size start s rs ∙ omega arith)

  -- each record is accepted, refused or blocked
  pub records_told : (figures_of (run_answers s rs)).records ≡ length rs
  unfolding figures_of
  records_told = answers_length s rs

  pub accepted_refused : accepted_in (figures_of (run_answers s rs)) + refused_in (figures_of (run_answers s rs)) + blocked_in (figures_of (run_answers s rs)) ≡ length rs
  unfolding figures_of test_at
  accepted_refused = answers_split (run_answers s rs) ∙ answers_length s rs

  -- each alert is one container's
  pub alerts_alerted : alerts_in (figures_of (run_answers s rs)) ≡ sum_below (figures_of (run_answers s rs)).alerts_at container_limit
  unfolding figures_of test_at
  alerts_alerted = alerts_summed s rs

-- a trace has a record for each 8 bytes, and one for what is left
pub records_counted : (s t : List ℕ) → (trace_figures s t).records ≡ (length t + (record_length - 1)) / record_length
unfolding trace_figures
records_counted s t = records_told s (trace_records t) ∙ records_length t

-- ---- demand 3 in the figures

module _ (image : List ℕ) (bytes : Bytes image) (ok : check_of image ≡ 0) (rs : List (List ℕ)) where
  -- The alerts are the accepted and judged steps whose receiver is forbidden what it holds: there is a test of positions that passes
  -- exactly for them, and so many pass.
  pub alerts_exact : (t : ℕ → Bool)
      × ((n : ℕ) → n < length rs → (t n ≡ true) ↔ ForbiddenAt (start_of (policy_in image)) (policy_in image) rs n)
      × (alerts_in (figures_of (run_answers (start_of (policy_in image)) rs)) ≡ count_below t (length rs))
  unfolding figures_of test_at
  alerts_exact =
      let s : List ℕ = start_of (policy_in image) in
      let x = count_told is_alert (ForbiddenAt s (policy_in image) rs) (run_answers s rs) (λ n a g. alert_at_lem s (policy_in image) (demand3 image bytes ok) rs n a g) in
      (x.0, λ n b. x.1 n (omega (arith, answers_length s rs)), x.2 ∙ ap (count_below x.0) (answers_length s rs))

  -- and those of a container are those that it receives
  pub alerts_exact_at : (c : ℕ) → (t : ℕ → Bool)
      × ((n : ℕ) → n < length rs → (t n ≡ true) ↔ ForbiddenInto (start_of (policy_in image)) (policy_in image) rs c n)
      × ((figures_of (run_answers (start_of (policy_in image)) rs)).alerts_at c ≡ count_below t (length rs))
  unfolding figures_of
  alerts_exact_at c =
      let s : List ℕ = start_of (policy_in image) in
      let x = count_told (alert_at c) (ForbiddenInto s (policy_in image) rs c) (run_answers s rs) (λ n a g. alert_into s (policy_in image) (demand3 image bytes ok) rs n a g c) in
      (x.0, λ n b. x.1 n (omega (arith, answers_length s rs)), x.2 ∙ ap (count_below x.0) (answers_length s rs))

  -- The blocked records are those that would be forbidden at a guarded file.
  pub blocked_exact : (t : ℕ → Bool)
      × ((n : ℕ) → n < length rs → (t n ≡ true) ↔ BlockedAt (start_of (policy_in image)) (policy_in image) rs n)
      × (blocked_in (figures_of (run_answers (start_of (policy_in image)) rs)) ≡ count_below t (length rs))
  unfolding figures_of test_at
  blocked_exact =
      let s : List ℕ = start_of (policy_in image) in
      let x = count_told is_blocked (BlockedAt s (policy_in image) rs) (run_answers s rs) (λ n a g. blocked_at s (policy_in image) (blocked_exactly image bytes ok) rs n a g) in
      (x.0, λ n b. x.1 n (omega (arith, answers_length s rs)), x.2 ∙ ap (count_below x.0) (answers_length s rs))

-- ---- 19

-- "19 when a trace has over 1,000,000 records; .. only its name and 19 are printed.", and never else: the line of a trace is its name
-- and 19 exactly if it has so many records
pub too_long_exactly : (n : ℕ) (s t : List ℕ) → (trace_line n (trace_figures s t) ≡ line (name_of n) (decimal trace_length ∷ [])) ↔ (record_limit < length (trace_records t))
too_long_exactly n s t = (λ e. by e (decide (too_many (trace_figures s t).records)), back)
  where
    by : trace_line n (trace_figures s t) ≡ line (name_of n) (decimal trace_length ∷ []) → (too_many (trace_figures s t).records ≡ true) ⊎ (too_many (trace_figures s t).records ≡ false)
        → record_limit < length (trace_records t)
    by e (inl k) = (many_records s t).0 k
    by e (inr k) = absurd (figures_line_apart n (trace_figures s t) k e)

    back : record_limit < length (trace_records t) → trace_line n (trace_figures s t) ≡ line (name_of n) (decimal trace_length ∷ [])
    back h = long_line n (trace_figures s t) ((many_records s t).1 h)

-- ---- the watch program

-- the total line of the watch program has the records, alerts and refused steps of the month's figures
pub total_watched : (s t : List ℕ) → length t < 2 ^ 64
    → total_of (part_tally no_tally s t) ≡ watched.total_line (trace_figures s t).records (alerts_in (trace_figures s t)) (refused_in (trace_figures s t))
unfolding total_of part_tally trace_figures figures_of test_at
total_watched s t h =
    let l : length (run_answers s (trace_records t)) < 2 ^ 64 = omega (arith, answers_length s (trace_records t), records_length t) in
    let k = tally_counts (run_answers s (trace_records t)) l in
    rw (k.0, k.1, k.2)

-- ---- a trace in parts

-- The figures of a trace cut between records are the sums of its parts', the second run on the session that the first leaves.
pub figures_cut : (s x y : List ℕ) → length x % record_length ≡ 0 → trace_figures s (x ++ y) ≡ sum_of (trace_figures s x) (trace_figures (part_session s x) y)
figures_cut = months.figures_cut

-- ---- the total

-- A trace that is not too long adds its history and its other figures, one that is too long adds nothing.
pub total_next : (s t : List ℕ) (ts : List (List ℕ)) → too_many (trace_figures s t).records ≡ false
    → total_figures s (t ∷ ts) ≡ sum_of (trace_figures s t) (total_figures s ts)
unfolding total_figures counting
total_next s t ts h = rw h

pub total_without : (s t : List ℕ) (ts : List (List ℕ)) → too_many (trace_figures s t).records ≡ true → total_figures s (t ∷ ts) ≡ total_figures s ts
total_without = months.total_without

-- so that the accepted steps in total are the sizes of the histories that count, one after the other
pub total_accepted : (s t : List ℕ) (ts : List (List ℕ)) → too_many (trace_figures s t).records ≡ false
    → accepted_in (total_figures s (t ∷ ts)) ≡ step_count (history_in (trace_records t) (run_answers s (trace_records t))) + accepted_in (total_figures s ts)
total_accepted s t ts h =
    ap accepted_in (total_next s t ts h)
    ∙ unfold sum_of trace_figures in (ap (λ (n : ℕ). n + accepted_in (total_figures s ts)) (accepted_history s (trace_records t)))

pub total_alerts : (s t : List ℕ) (ts : List (List ℕ)) → too_many (trace_figures s t).records ≡ false
    → alerts_in (total_figures s (t ∷ ts)) ≡ alerts_in (trace_figures s t) + alerts_in (total_figures s ts)
total_alerts s t ts h = ap alerts_in (total_next s t ts h) ∙ unfold sum_of in refl

-- ---- the rate

-- the line of any figures shows the rate of their own counts: that of the total those of the total
pub fields_shown : (f : Figures)
    → figure_fields f
    ≡ decimal (accepted_in f) ∷ decimal (alerts_in f) ∷ decimal (refused_in f) ∷ decimal (blocked_in f) ∷ (rate_fields (alerts_in f) (accepted_in f) ++ alert_fields f.alerts_at)
unfolding figure_fields count_fields fields_from
fields_shown f = refl

-- without an accepted step it is `none`, else two fields, which are whole quotient and remainder
pub rate_none : (alerts : ℕ) → rate_fields alerts 0 ≡ ascii "none" ∷ []
unfolding rate_fields
rate_none alerts = refl

pub rate_exact : (alerts accepted : ℕ) → accepted ≢ 0
    → (accepted * (1000 * alerts / accepted) + 1000 * alerts % accepted ≡ 1000 * alerts) × (1000 * alerts % accepted < accepted)
rate_exact alerts accepted h = (div-add-mod (1000 * alerts) accepted, mod-lt (1000 * alerts) (some accepted h))
  where
    some : (n : ℕ) → n ≢ 0 → 0 < n
    some zero e = absurd (e refl)
    some (suc n) e = omega arith

pub rate_shown : (alerts accepted : ℕ) → accepted ≢ 0 → rate_fields alerts accepted ≡ decimal (1000 * alerts / accepted) ∷ decimal (1000 * alerts % accepted) ∷ []
unfolding rate_fields
rate_shown alerts accepted h = rw (ne_eqb accepted 0 h)

-- ---- the text of a month

-- However each trace is cut into parts of whole records, of which the last may end short: the lines of what was counted and the line
-- of the total, one behind the other, are the text of the month. No count of at most 64 traces leaves its bits.
pub month_by_parts : (image : List ℕ) (traces : List (List (List ℕ))) → InParts traces → length traces ≤ trace_limit → check_of image ≡ 0
    → text_by_parts (start_of (policy_in image)) traces ≡ month_text image (map together traces)
unfolding month_text
month_by_parts image traces w l ok =
    rw (eq-eqb (check_of image) 0 ok, take_all trace_limit (map together traces) (omega (arith, length-map traces together)))
    (text_parts (start_of (policy_in image)) traces w l)

-- A trace need not be read further once it is too long: its line is the one of the whole, and it adds nothing.
pub front_too_long : (n : ℕ) (s x y : List ℕ) → length x % record_length ≡ 0 → length (x ++ y) < 2 ^ 64 → too_many (part_counters no_counters s x).records ≡ true
    → (trace_line n (figures_in (part_counters no_counters s x)) ≡ trace_line n (trace_figures s (x ++ y))) × (counting (trace_figures s (x ++ y)) ≡ no_figures)
front_too_long = months.front_too_long

-- So of a whole month: where of each trace all was read, or a front of whole records that is too long already, what was read shows as
-- the whole traces do.
pub month_of_fronts : (image : List ℕ) (fronts traces : List (List ℕ)) → FrontsOf (start_of (policy_in image)) fronts traces → month_text image fronts ≡ month_text image traces
month_of_fronts = fronts_text

-- A refused policy has its one line, whatever the traces; a trace behind the 64th is never shown.
pub month_refused : (image : List ℕ) (traces : List (List ℕ)) → check_of image ≢ 0 → month_text image traces ≡ policy_line (check_of image)
unfolding month_text
month_refused image traces h = rw (ne_eqb (check_of image) 0 h)

pub month_limit : (image : List ℕ) (traces : List (List ℕ)) → month_text image (take trace_limit traces) ≡ month_text image traces
unfolding month_text
month_limit image traces =
    let e : take trace_limit (take trace_limit traces) ≡ take trace_limit traces = take-take trace_limit trace_limit traces (omega arith) in
    rw e
