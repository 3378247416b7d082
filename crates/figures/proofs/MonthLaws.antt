-- A month part by part: what the counters hold behind the parts of each trace are its figures, and what the total's counters hold
-- behind all traces are the sums of those that count. No count leaves its bits.
use Rattle.std.proofs.Common.{◌≡◌, ℕ, zero, suc, ◌+◌, ◌-◌, ◌*◌, ◌/◌, ◌%◌, ◌^◌, ◌<◌, ◌≤◌, Bool, true, false, List, [], ◌∷◌, ◌++◌, map, length, sym, refl, ap, ◌∙◌, ap₂, append-nil, arith}
use Rattle.std.proofs.Common.{length-append, ltb-false, ltb-true, lt-ltb}
use lib.ListN.{length-map}
use Rattle.fields.specs.Ascii.{ascii}
use Rattle.answers.specs.declared.Answer.{Answer}
use Rattle.image.specs.Limits.{container_limit}
use Rattle.fields.proofs.SectionRecords.{cut_count}
use Rattle.records.specs.Records.{record_length}
use Rattle.records.specs.Traces.{trace_records}
use Rattle.records.proofs.TraceRecords.{records_append}
use Rattle.monitor.specs.Runs.{run_answers, run_effect}
use Rattle.monitor.proofs.RunHistories.{run_answers_append}
use Rattle.listing.specs.Text.{decimal}
use Rattle.monitor.proofs.TraceCuts.{answers_length}
use Rattle.monitor.specs.PartSessions.{part_session, WholeRecords, together}
use Rattle.figures.specs.Figures.{Figures, count_limit, test_at, record_limit, alert_at, figures_of, no_figures, sum_of, too_many}
use Rattle.figures.specs.Lines.{name_of, container_fields, fields_from, count_fields, alert_fields, figure_fields, figures_line, trace_line, month_total_line}
use Rattle.figures.specs.Months.{trace_figures, counting, trace_lines, total_figures, trace_limit, traces_text}
use Rattle.figures.specs.Counters.{Counters, counted_all, counters_of, figures_in, no_counters, total_with, part_counters, parts_counters, lines_by_parts, total_by_parts, text_by_parts, InParts}
use Rattle.figures.proofs.FigureLaws.{count_most, figures_append, sum_none_left, sum_none_right, sum_assoc}
use Rattle.figures.proofs.CounterLaws.{values_at, counted_append, counted_from, summed_from}

-- ---- a trace in parts

pub figures_cut : (s x y : List ℕ) → length x % record_length ≡ 0 → trace_figures s (x ++ y) ≡ sum_of (trace_figures s x) (trace_figures (part_session s x) y)
unfolding trace_figures part_session
figures_cut s x y h =
    ap (λ (rs : List (List ℕ)). figures_of (run_answers s rs)) (records_append x y h)
    ∙ ap figures_of (run_answers_append s (trace_records x) (trace_records y))
    ∙ figures_append (run_answers s (trace_records x)) (run_answers (run_effect s (trace_records x)) (trace_records y))

pub part_cut : (k : Counters) (s x y : List ℕ) → length x % record_length ≡ 0 → part_counters k s (x ++ y) ≡ part_counters (part_counters k s x) (part_session s x) y
unfolding part_counters part_session
part_cut k s x y h =
    ap (λ (rs : List (List ℕ)). counted_all k (run_answers s rs)) (records_append x y h)
    ∙ ap (counted_all k) (run_answers_append s (trace_records x) (trace_records y))
    ∙ counted_append k (run_answers s (trace_records x)) (run_answers (run_effect s (trace_records x)) (trace_records y))

parts_counters_lem : (k : Counters) (s : List ℕ) (ps : List (List ℕ)) → WholeRecords ps → parts_counters k s ps ≡ part_counters k s (together ps)
unfolding parts_counters together
parts_counters_lem k s [] w = unfold part_counters counted_all run_answers trace_records Rattle.fields.specs.Bytes.cut in refl
parts_counters_lem k s (p ∷ []) w = ap (part_counters k s) (sym (append-nil p))
parts_counters_lem k s (p ∷ q ∷ ps) w =
    parts_counters_lem (part_counters k s p) (part_session s p) (q ∷ ps) w.1 ∙ sym (part_cut k s p (together (q ∷ ps)) w.0)

-- the counters of a trace hold its figures
pub trace_counters : (s t : List ℕ) → part_counters no_counters s t ≡ counters_of (trace_figures s t)
unfolding part_counters no_counters trace_figures
trace_counters s t =
    counted_from no_figures (run_answers s (trace_records t)) ∙ ap counters_of (sum_none_left (figures_of (run_answers s (trace_records t))))

pub parts_held : (s : List ℕ) (ps : List (List ℕ)) → WholeRecords ps → parts_counters no_counters s ps ≡ counters_of (trace_figures s (together ps))
parts_held s ps w = parts_counters_lem no_counters s ps w ∙ trace_counters s (together ps)

-- ---- figures that show as the same line

pub record Agree (f g : Figures) : Type 0 where
  pub counts : (k : ℕ) → k < count_limit → f.counts k ≡ g.counts k
  pub each : (c : ℕ) → c < container_limit → f.alerts_at c ≡ g.alerts_at c

fields_agree : (f g : ℕ → List (List ℕ)) (k n : ℕ) → ((i : ℕ) → i < k + n → f i ≡ g i) → fields_from f k n ≡ fields_from g k n
unfolding fields_from
fields_agree f g k zero e = refl
fields_agree f g k (suc n) e = ap₂ (λ (x y : List (List ℕ)). x ++ y) (e k (omega arith)) (fields_agree f g (suc k) n (λ i l. e i (omega arith)))

counts_agree : (f g : ℕ → ℕ) → ((k : ℕ) → k < count_limit → f k ≡ g k) → count_fields f ≡ count_fields g
unfolding count_fields
counts_agree f g e =
    fields_agree (λ k. decimal (f k) ∷ []) (λ k. decimal (g k) ∷ []) 0 count_limit (λ k l. ap (λ (n : ℕ). decimal n ∷ []) (e k (omega arith)))

alerts_agree : (f g : ℕ → ℕ) → ((c : ℕ) → c < container_limit → f c ≡ g c) → alert_fields f ≡ alert_fields g
unfolding alert_fields
alerts_agree f g e =
    fields_agree (λ c. container_fields c (f c)) (λ c. container_fields c (g c)) 0 container_limit (λ c l. ap (container_fields c) (e c (omega arith)))

pub lines_agree : (name : List ℕ) (f g : Figures) → Agree f g → figures_line name f ≡ figures_line name g
unfolding figures_line figure_fields
lines_agree name f g h =
    rw (counts_agree f.counts g.counts h.counts, h.counts 0 (omega arith), h.counts 1 (omega arith), alerts_agree f.alerts_at g.alerts_at h.each)

-- ---- figures that stay within bits

pub record FiguresWithin (f : Figures) (n : ℕ) : Type 0 where
  pub counts : (k : ℕ) → f.counts k ≤ n
  pub each : (c : ℕ) → f.alerts_at c ≤ n

small : (n m : ℕ) → n ≤ m → m < 2 ^ 32 → n % 2 ^ 32 ≡ n
small n m l h = omega arith

pub held_agree : (f : Figures) (n : ℕ) → FiguresWithin f n → n < 2 ^ 32 → Agree (figures_in (counters_of f)) f
unfolding figures_in counters_of
held_agree f n w h =
    record {
      counts = λ k l. values_at (λ i. f.counts i % 2 ^ 32) count_limit k l ∙ small (f.counts k) n (w.counts k) h;
      each = λ c l. values_at (λ k. f.alerts_at k % 2 ^ 32) container_limit c l ∙ small (f.alerts_at c) n (w.each c) h;
    }

answers_within : (l : List Answer) → FiguresWithin (figures_of l) (length l)
unfolding figures_of
answers_within l = record { counts = λ k. count_most (test_at k) l; each = λ c. count_most (alert_at c) l }

within_more : (f : Figures) (m n : ℕ) → m ≤ n → FiguresWithin f m → FiguresWithin f n
within_more f m n l w = record { counts = λ k. omega (arith, w.counts k); each = λ c. omega (arith, w.each c) }

sum_within : (f g : Figures) (m n : ℕ) → FiguresWithin f m → FiguresWithin g n → FiguresWithin (sum_of f g) (m + n)
unfolding sum_of
sum_within f g m n w v = record { counts = λ k. omega (arith, w.counts k, v.counts k); each = λ c. omega (arith, w.each c, v.each c) }

-- ---- a trace

pub few : (n : ℕ) → too_many n ≡ false → n ≤ record_limit
unfolding too_many
few n h = ltb-false record_limit n h

trace_within : (s t : List ℕ) → too_many (trace_figures s t).records ≡ false → FiguresWithin (trace_figures s t) record_limit
unfolding trace_figures figures_of
trace_within s t h =
    let given = run_answers s (trace_records t) in
    within_more (figures_of given) (length given) record_limit (few (length given) h) (answers_within given)

pub records_held : (f : Figures) → f.records < 2 ^ 64 → (counters_of f).records ≡ f.records
unfolding counters_of
records_held f h = omega arith

-- the line of a trace, from its counters
pub trace_line_lem : (n : ℕ) (s t : List ℕ) → (trace_figures s t).records < 2 ^ 64
    → trace_line n (figures_in (counters_of (trace_figures s t))) ≡ trace_line n (trace_figures s t)
unfolding trace_line
trace_line_lem n s t h = by (too_many (trace_figures s t).records) refl (ap too_many records)
  where
    records : (figures_in (counters_of (trace_figures s t))).records ≡ (trace_figures s t).records
    records = unfold figures_in in (records_held (trace_figures s t) h)

    by : (b : Bool) → too_many (trace_figures s t).records ≡ b → too_many (figures_in (counters_of (trace_figures s t))).records ≡ too_many (trace_figures s t).records
        → trace_line n (figures_in (counters_of (trace_figures s t))) ≡ trace_line n (trace_figures s t)
    by true e r = rw (r, e)
    by false e r =
        rw (r, e)
        (lines_agree (name_of n) (figures_in (counters_of (trace_figures s t))) (trace_figures s t)
        (held_agree (trace_figures s t) record_limit (trace_within s t e) (omega arith)))

-- ---- the total

-- a trace's counters added to the total's: what they hold
pub total_held : (f : Figures) (s t : List ℕ) → (trace_figures s t).records < 2 ^ 64
    → total_with (counters_of f) (counters_of (trace_figures s t)) ≡ counters_of (sum_of f (counting (trace_figures s t)))
unfolding total_with counting no_figures
total_held f s t h = by (too_many (trace_figures s t).records) refl (ap too_many (records_held (trace_figures s t) h))
  where
    by : (b : Bool) → too_many (trace_figures s t).records ≡ b → too_many (counters_of (trace_figures s t)).records ≡ too_many (trace_figures s t).records
        → total_with (counters_of f) (counters_of (trace_figures s t)) ≡ counters_of (sum_of f (counting (trace_figures s t)))
    by true e r = rw (r, e, sum_none_right f)
    by false e r = rw (r, e) (summed_from f (trace_figures s t))

counting_within : (s t : List ℕ) → FiguresWithin (counting (trace_figures s t)) record_limit
counting_within s t = by (too_many (trace_figures s t).records) refl
  where
    by : (b : Bool) → too_many (trace_figures s t).records ≡ b → FiguresWithin (counting (trace_figures s t)) record_limit
    by true e = unfold counting no_figures in (rw e (within_more (figures_of []) 0 record_limit (omega arith) (answers_within [])))
    by false e = unfold counting in (rw e (trace_within s t e))

pub total_within : (s : List ℕ) (ts : List (List ℕ)) → FiguresWithin (total_figures s ts) (record_limit * length ts)
unfolding total_figures
total_within s [] = unfold no_figures in (within_more (figures_of []) 0 (record_limit * 0) (omega arith) (answers_within []))
total_within s (t ∷ ts) =
    let e : record_limit + record_limit * length ts ≤ record_limit * suc (length ts) = omega arith in
    within_more (sum_of (counting (trace_figures s t)) (total_figures s ts)) (record_limit + record_limit * length ts) (record_limit * suc (length ts)) e
    (sum_within (counting (trace_figures s t)) (total_figures s ts) record_limit (record_limit * length ts) (counting_within s t) (total_within s ts))

pub total_without : (s t : List ℕ) (ts : List (List ℕ)) → too_many (trace_figures s t).records ≡ true → total_figures s (t ∷ ts) ≡ total_figures s ts
unfolding total_figures counting
total_without s t ts h = rw h (sum_none_left (total_figures s ts))

-- ---- a month

pub records_length : (t : List ℕ) → length (trace_records t) ≡ (length t + (record_length - 1)) / record_length
unfolding trace_records
records_length t = cut_count record_length ((length t + (record_length - 1)) / record_length) t

pub records_few : (s t : List ℕ) → length t < 2 ^ 64 → (trace_figures s t).records < 2 ^ 64
unfolding trace_figures figures_of
records_few s t h = omega (arith, answers_length s (trace_records t), records_length t)

lines_parts : (n : ℕ) (s : List ℕ) (ts : List (List (List ℕ))) → InParts ts → lines_by_parts n s ts ≡ trace_lines n s (map together ts)
unfolding lines_by_parts trace_lines
lines_parts n s [] w = refl
lines_parts n s (t ∷ ts) w =
    ap₂ (λ (x y : List ℕ). x ++ y)
    (ap (λ (k : Counters). trace_line n (figures_in k)) (parts_held s t w.0) ∙ trace_line_lem n s (together t) (records_few s (together t) w.1))
    (lines_parts (suc n) s ts w.2)

total_parts : (f : Figures) (s : List ℕ) (ts : List (List (List ℕ))) → InParts ts
    → total_by_parts (counters_of f) s ts ≡ counters_of (sum_of f (total_figures s (map together ts)))
unfolding total_by_parts total_figures no_figures
total_parts f s [] w = ap counters_of (sym (sum_none_right f))
total_parts f s (t ∷ ts) w =
    ap (λ (k : Counters). total_by_parts (total_with (counters_of f) k) s ts) (parts_held s t w.0)
    ∙ ap (λ (k : Counters). total_by_parts k s ts) (total_held f s (together t) (records_few s (together t) w.1))
    ∙ total_parts (sum_of f (counting (trace_figures s (together t)))) s ts w.2
    ∙ ap counters_of (sum_assoc f (counting (trace_figures s (together t))) (total_figures s (map together ts)))

pub total_line : (f g : Figures) → Agree f g → month_total_line f ≡ month_total_line g
unfolding month_total_line
total_line f g h = lines_agree (ascii "total") f g h

pub text_parts : (s : List ℕ) (ts : List (List (List ℕ))) → InParts ts → length ts ≤ trace_limit → text_by_parts s ts ≡ traces_text s (map together ts)
unfolding text_by_parts traces_text no_counters
text_parts s ts w l =
    let f : Figures = total_figures s (map together ts) in
    let few : record_limit * length (map together ts) < 2 ^ 32 = omega (arith, length-map ts together) in
    ap₂ (λ (x y : List ℕ). x ++ y)
    (lines_parts 0 s ts w)
    (ap (λ (k : Counters). month_total_line (figures_in k)) (total_parts no_figures s ts w ∙ ap counters_of (sum_none_left f))
    ∙ total_line (figures_in (counters_of f)) f (held_agree f (record_limit * length (map together ts)) (total_within s (map together ts)) few))

-- ---- a trace that is too long from its front on

pub records_cut : (s x y : List ℕ) → length x % record_length ≡ 0 → (trace_figures s (x ++ y)).records ≡ (trace_figures s x).records + (trace_figures (part_session s x) y).records
unfolding sum_of
records_cut s x y w = ap (λ (f : Figures). f.records) (figures_cut s x y w)

pub more_too_many : (m n : ℕ) → m ≤ n → too_many m ≡ true → too_many n ≡ true
unfolding too_many
more_too_many m n l h = lt-ltb record_limit n (omega (arith, ltb-true record_limit m h))

pub front_too_long : (n : ℕ) (s x y : List ℕ) → length x % record_length ≡ 0 → length (x ++ y) < 2 ^ 64 → too_many (part_counters no_counters s x).records ≡ true
    → (trace_line n (figures_in (part_counters no_counters s x)) ≡ trace_line n (trace_figures s (x ++ y))) × (counting (trace_figures s (x ++ y)) ≡ no_figures)
unfolding counting
front_too_long n s x y w h e =
    let few : (trace_figures s x).records < 2 ^ 64 = records_few s x (omega (arith, length-append x y)) in
    let many : too_many (trace_figures s x).records ≡ true = ap too_many (sym (records_held (trace_figures s x) few) ∙ ap (λ (k : Counters). k.records) (sym (trace_counters s x))) ∙ e in
    let more : too_many (trace_figures s (x ++ y)).records ≡ true = longer many in (
      ap (λ (k : Counters). trace_line n (figures_in k)) (trace_counters s x) ∙ trace_line_lem n s x few ∙ over n (trace_figures s x) (trace_figures s (x ++ y)) many more,
      rw more,
    )
  where
    longer : too_many (trace_figures s x).records ≡ true → too_many (trace_figures s (x ++ y)).records ≡ true
    longer m = more_too_many (trace_figures s x).records (trace_figures s (x ++ y)).records (omega (arith, records_cut s x y w)) m

    over : (n : ℕ) (f g : Figures) → too_many f.records ≡ true → too_many g.records ≡ true → trace_line n f ≡ trace_line n g
    over n f g a b = unfold trace_line in (rw (a, b))
