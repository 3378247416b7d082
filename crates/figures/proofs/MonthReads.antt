-- A month shown trace by trace, from what was read of each.
use Rattle.std.proofs.Common.{◌≡◌, ℕ, zero, suc, ◌+◌, ◌-◌, ◌*◌, ◌/◌, ◌^◌, ◌<◌, ◌≤◌, true, false, ◌⊎◌, List, [], ◌∷◌, ◌++◌, length, take, sym, refl, ap, ◌∙◌, ap₂, inl, inr, append_assoc}
use Rattle.std.proofs.Common.{append-nil, arith}
use Rattle.image.specs.Image.{policy_in}
use Rattle.session.specs.Session.{start_of}
use Rattle.records.specs.Records.{record_length}
use Rattle.records.specs.Traces.{trace_records}
use Rattle.monitor.proofs.TraceCuts.{answers_length}
use Rattle.figures.specs.Figures.{record_limit, figures_of, no_figures, sum_of, too_many}
use Rattle.figures.specs.Lines.{trace_line, month_total_line}
use Rattle.figures.specs.Months.{trace_figures, counting, trace_lines, total_figures, trace_limit, traces_text, month_text, TooLongFront, FrontsOf}
use Rattle.figures.specs.Counters.{Counters, counters_of, figures_in, no_counters, part_counters}
use Rattle.figures.proofs.FigureLaws.{sum_none_left, sum_none_right, sum_assoc}
use Rattle.figures.proofs.MonthLaws.{few, records_held, records_few, records_length, records_cut, more_too_many, trace_counters, total_line, total_within, held_agree}

-- ---- one trace more

pub lines_snoc : (n : ℕ) (s : List ℕ) (ts : List (List ℕ)) (t : List ℕ)
    → trace_lines n s (ts ++ (t ∷ [])) ≡ trace_lines n s ts ++ trace_line (n + length ts) (trace_figures s t)
unfolding trace_lines
lines_snoc n s [] t =
    let e : n ≡ n + 0 = omega arith in
    append-nil (trace_line n (trace_figures s t)) ∙ ap (λ (k : ℕ). trace_line k (trace_figures s t)) e
lines_snoc n s (x ∷ ts) t =
    let e : suc n + length ts ≡ n + suc (length ts) = omega arith in
    ap (λ (l : List ℕ). trace_line n (trace_figures s x) ++ l) (lines_snoc (suc n) s ts t)
    ∙ sym (append_assoc (trace_line n (trace_figures s x)) (trace_lines (suc n) s ts) (trace_line (suc n + length ts) (trace_figures s t)))
    ∙ ap (λ (k : ℕ). (trace_line n (trace_figures s x) ++ trace_lines (suc n) s ts) ++ trace_line k (trace_figures s t)) e

pub total_snoc : (s : List ℕ) (ts : List (List ℕ)) (t : List ℕ) → total_figures s (ts ++ (t ∷ [])) ≡ sum_of (total_figures s ts) (counting (trace_figures s t))
unfolding total_figures no_figures
total_snoc s [] t = sum_none_right (counting (trace_figures s t)) ∙ sym (sum_none_left (counting (trace_figures s t)))
total_snoc s (x ∷ ts) t =
    ap (sum_of (counting (trace_figures s x))) (total_snoc s ts t)
    ∙ sym (sum_assoc (counting (trace_figures s x)) (total_figures s ts) (counting (trace_figures s t)))

-- the line of the total, from its counters
pub total_shown : (s : List ℕ) (ts : List (List ℕ)) → length ts ≤ trace_limit
    → month_total_line (figures_in (counters_of (total_figures s ts))) ≡ month_total_line (total_figures s ts)
total_shown s ts l =
    let few : record_limit * length ts < 2 ^ 32 = omega arith in
    total_line (figures_in (counters_of (total_figures s ts))) (total_figures s ts) (held_agree (total_figures s ts) (record_limit * length ts) (total_within s ts) few)

-- ---- how much is read of a trace

pub records_of : (s t : List ℕ) → (trace_figures s t).records ≡ (length t + (record_length - 1)) / record_length
unfolding trace_figures figures_of
records_of s t = answers_length s (trace_records t) ∙ records_length t

pub records_counted : (s t : List ℕ) → length t < 2 ^ 64 → (part_counters no_counters s t).records ≡ (trace_figures s t).records
records_counted s t h = ap (λ (k : Counters). k.records) (trace_counters s t) ∙ records_held (trace_figures s t) (records_few s t h)

-- one that is not too long has few bytes
pub few_bytes : (s t : List ℕ) → length t < 2 ^ 64 → too_many (part_counters no_counters s t).records ≡ false → length t ≤ record_length * record_limit
few_bytes s t h e =
    let l : (trace_figures s t).records ≤ record_limit = few (trace_figures s t).records (sym (ap too_many (records_counted s t h)) ∙ e) in
    omega (arith, l, records_of s t)

-- ---- traces of which only a front was read

module _ (s x t : List ℕ) (h : TooLongFront s x t) where
  still_many : too_many (trace_figures s t).records ≡ true
  still_many =
      ap (λ (l : List ℕ). too_many (trace_figures s l).records) h.is
      ∙ more_too_many (trace_figures s x).records (trace_figures s (x ++ h.rest)).records (omega (arith, records_cut s x h.rest h.whole)) h.many

  pub front_line : (n : ℕ) → trace_line n (trace_figures s x) ≡ trace_line n (trace_figures s t)
  unfolding trace_line
  front_line n = rw (h.many, still_many)

  pub front_counting : counting (trace_figures s x) ≡ counting (trace_figures s t)
  unfolding counting
  front_counting = rw (h.many, still_many)

fronts_lines : (n : ℕ) (s : List ℕ) (xs ts : List (List ℕ)) → FrontsOf s xs ts → trace_lines n s xs ≡ trace_lines n s ts
unfolding trace_lines
fronts_lines n s [] [] w = refl
fronts_lines n s [] (t ∷ ts) w = absurd w
fronts_lines n s (x ∷ xs) [] w = absurd w
fronts_lines n s (x ∷ xs) (t ∷ ts) w = ap₂ (λ (l m : List ℕ). l ++ m) (by w.0) (fronts_lines (suc n) s xs ts w.1)
  where
    by : (t ≡ x) ⊎ TooLongFront s x t → trace_line n (trace_figures s x) ≡ trace_line n (trace_figures s t)
    by (inl e) = ap (λ (l : List ℕ). trace_line n (trace_figures s l)) (sym e)
    by (inr h) = front_line s x t h n

fronts_total : (s : List ℕ) (xs ts : List (List ℕ)) → FrontsOf s xs ts → total_figures s xs ≡ total_figures s ts
unfolding total_figures no_figures
fronts_total s [] [] w = refl
fronts_total s [] (t ∷ ts) w = absurd w
fronts_total s (x ∷ xs) [] w = absurd w
fronts_total s (x ∷ xs) (t ∷ ts) w = ap₂ sum_of (by w.0) (fronts_total s xs ts w.1)
  where
    by : (t ≡ x) ⊎ TooLongFront s x t → counting (trace_figures s x) ≡ counting (trace_figures s t)
    by (inl e) = ap (λ (l : List ℕ). counting (trace_figures s l)) (sym e)
    by (inr h) = front_counting s x t h

fronts_take : (k : ℕ) (s : List ℕ) (xs ts : List (List ℕ)) → FrontsOf s xs ts → FrontsOf s (take k xs) (take k ts)
fronts_take zero s xs ts w = tt
fronts_take (suc k) s [] [] w = tt
fronts_take (suc k) s [] (t ∷ ts) w = absurd w
fronts_take (suc k) s (x ∷ xs) [] w = absurd w
fronts_take (suc k) s (x ∷ xs) (t ∷ ts) w = (w.0, fronts_take k s xs ts w.1)

-- what was read of the traces shows as the whole of them
pub fronts_text : (image : List ℕ) (xs ts : List (List ℕ)) → FrontsOf (start_of (policy_in image)) xs ts → month_text image xs ≡ month_text image ts
unfolding month_text traces_text
fronts_text image xs ts w =
    let s : List ℕ = start_of (policy_in image) in
    let v : FrontsOf s (take trace_limit xs) (take trace_limit ts) = fronts_take trace_limit s xs ts w in
    rw (fronts_lines 0 s (take trace_limit xs) (take trace_limit ts) v, fronts_total s (take trace_limit xs) (take trace_limit ts) v)
