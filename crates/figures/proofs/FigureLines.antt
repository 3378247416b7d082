-- The lines as a name and what stands behind it, and how long that is at most.
use Rattle.std.proofs.Common.{◌≡◌, ℕ, zero, suc, ◌+◌, ◌-◌, ◌*◌, ◌/◌, ◌%◌, ◌<◌, ◌≤◌, Bool, true, false, cond, eqb, List, [], ◌∷◌, ◌++◌, length, get_or, sym, refl, ap, ◌∙◌, subst}
use Rattle.std.proofs.Common.{append_assoc, append-nil, mul-suc, add-one, arith, length-append, eq-eqb, ne_eqb}
use Rattle.answers.specs.Refusals.{trace_length}
use Rattle.fields.specs.Ascii.{ascii}
use Rattle.fields.specs.Writing.{Wrote}
use Rattle.fields.proofs.WritingLaws.{wrote_none, wrote_join, wrote_length, wrote_as}
use Rattle.image.specs.Limits.{container_limit}
use Rattle.listing.specs.Text.{digits, decimal}
use Rattle.listing.specs.Lines.{newline, leading}
use Rattle.listing.specs.Buffer.{field_limit, ListedText}
use Rattle.listing.proofs.Theorems.{digit_code}
use Rattle.listing.proofs.ListingLines.{leading_append, line_leading, field_length}
use Rattle.figures.specs.Figures.{Figures, count_limit, accepted_in, alerts_in, too_many}
use Rattle.figures.specs.Lines.{name_of, rate_fields, container_fields, fields_from, count_fields, alert_fields, figure_fields, figures_line, trace_line, month_total_line}
use Rattle.figures.specs.Counters.{Counters, figures_in}
use Rattle.figures.specs.Buffer.{counts_text, alerted_text, figures_text, counts_limit, alerted_limit, figures_limit}

pub figures_line_lem : (name : List ℕ) (f : Figures) → name ++ figures_text f ≡ figures_line name f
unfolding figures_text figures_line
figures_line_lem name f = line_leading name (figure_fields f)

-- ---- what is written

-- the name of a trace: the last digit and the one before it, and a text
pub name_text : (n : ℕ) → (48 + n / 10 % 10) ∷ (48 + n % 10) ∷ 46 ∷ 98 ∷ 105 ∷ 110 ∷ [] ≡ name_of n
unfolding name_of digits ascii
name_text n =
    let h : n / 10 % 10 < 10 = omega arith in
    let l : n % 10 < 10 = omega arith in
    rw (digit_code (n / 10 % 10) h, digit_code (n % 10) l)

pair_wrote : (m n : ℕ) {b w a : List ℕ} {at next end : ℕ} → at ≤ length b → Wrote (leading (decimal m ∷ [])) b w at next → Wrote (leading (decimal n ∷ [])) w a next end
    → Wrote (leading (decimal m ∷ decimal n ∷ [])) b a at end
pair_wrote m n h p q = wrote_as (sym (leading_append (decimal m ∷ []) (decimal n ∷ []))) (wrote_join h p q)

-- a container without an alert has no fields, any other two
pub container_none : (c n : ℕ) (b : List ℕ) (at : ℕ) → n ≡ 0 → Wrote (leading (container_fields c n)) b b at at
unfolding container_fields leading
container_none c n b at e = rw (eq-eqb n 0 e) (wrote_none at b)

pub container_some : (c n : ℕ) {b w a : List ℕ} {at next end : ℕ} → at ≤ length b → (n ≡ 0 → ⊥) → Wrote (leading (decimal c ∷ [])) b w at next
    → Wrote (leading (decimal n ∷ [])) w a next end → Wrote (leading (container_fields c n)) b a at end
unfolding container_fields
container_some c n h e p q = rw (ne_eqb n 0 e) (pair_wrote c n h p q)

-- without an accepted step there is no rate, else quotient and remainder
pub rate_none : (a n : ℕ) {b w : List ℕ} {at next : ℕ} → n ≡ 0 → Wrote (ascii " none") b w at next → Wrote (leading (rate_fields a n)) b w at next
unfolding rate_fields leading ascii
rate_none a n e p = rw (eq-eqb n 0 e) p

pub rate_some : (x n : ℕ) {b w a : List ℕ} {at next end : ℕ} → at ≤ length b → (n ≡ 0 → ⊥) → Wrote (leading (decimal (1000 * x / n) ∷ [])) b w at next
    → Wrote (leading (decimal (1000 * x % n) ∷ [])) w a next end → Wrote (leading (rate_fields x n)) b a at end
unfolding rate_fields
rate_some x n h e p q = rw (ne_eqb n 0 e) (pair_wrote (1000 * x / n) (1000 * x % n) h p q)

-- ---- lengths

pub pair_length : (m n : ℕ) → length (leading (decimal m ∷ decimal n ∷ [])) ≤ 2 * field_limit
pair_length m n =
    let e : length (leading (decimal m ∷ decimal n ∷ [])) ≡ length (leading (decimal m ∷ [])) + length (leading (decimal n ∷ [])) =
    ap length (leading_append (decimal m ∷ []) (decimal n ∷ [])) ∙ length-append (leading (decimal m ∷ [])) (leading (decimal n ∷ [])) in
    omega (arith, e, field_length m, field_length n)

pub container_length : (c n : ℕ) → length (leading (container_fields c n)) ≤ 2 * field_limit
unfolding container_fields
container_length c n = by (eqb n 0)
  where
    by : (b : Bool) → length (leading (cond b [] (decimal c ∷ decimal n ∷ []))) ≤ 2 * field_limit
    by true = unfold leading in (omega arith)
    by false = pair_length c n

pub rate_length : (a n : ℕ) → length (leading (rate_fields a n)) ≤ 2 * field_limit
unfolding rate_fields
rate_length a n = by (eqb n 0)
  where
    by : (b : Bool) → length (leading (cond b (ascii "none" ∷ []) (decimal (1000 * a / n) ∷ decimal (1000 * a % n) ∷ []))) ≤ 2 * field_limit
    by true = unfold leading ascii in (omega arith)
    by false = pair_length (1000 * a / n) (1000 * a % n)

-- so many fields of each number
fields_length : (fields : ℕ → List (List ℕ)) (w : ℕ) → ((k : ℕ) → length (leading (fields k)) ≤ w) → (k n : ℕ) → length (leading (fields_from fields k n)) ≤ w * n
unfolding fields_from
fields_length fields w wide k zero = unfold leading in (omega arith)
fields_length fields w wide k (suc n) =
    let e : length (leading (fields k ++ fields_from fields (suc k) n)) ≡ length (leading (fields k)) + length (leading (fields_from fields (suc k) n)) =
    ap length (leading_append (fields k) (fields_from fields (suc k) n)) ∙ length-append (leading (fields k)) (leading (fields_from fields (suc k) n)) in
    omega (arith, e, wide k, fields_length fields w wide (suc k) n, mul-suc w n)

counts_length : (f : ℕ → ℕ) → length (leading (count_fields f)) ≤ counts_limit
unfolding count_fields
counts_length f = fields_length (λ k. decimal (f k) ∷ []) field_limit (λ k. field_length (f k)) 0 count_limit

alerts_length : (f : ℕ → ℕ) → length (leading (alert_fields f)) ≤ alerted_limit
unfolding alert_fields
alerts_length f = fields_length (λ c. container_fields c (f c)) (2 * field_limit) (λ c. container_length c (f c)) 0 container_limit

pub counts_text_length : (counts : List ℕ) → length (counts_text counts) ≤ counts_limit
unfolding counts_text
counts_text_length counts = counts_length (λ k. get_or counts k 0)

pub alerted_text_length : (alerted : List ℕ) → length (alerted_text alerted) ≤ alerted_limit
unfolding alerted_text
alerted_text_length alerted = alerts_length (λ c. get_or alerted c 0)

pub figures_length_lem : (f : Figures) → length (figures_text f) ≤ figures_limit
unfolding figures_text figure_fields
figures_length_lem f =
    let counts : List (List ℕ) = count_fields f.counts in
    let rate : List (List ℕ) = rate_fields (alerts_in f) (accepted_in f) in
    let alerts : List (List ℕ) = alert_fields f.alerts_at in
    let e : length (leading (counts ++ (rate ++ alerts)) ++ (newline ∷ [])) ≡ (length (leading counts) + (length (leading rate) + length (leading alerts))) + 1 =
    rw (leading_append counts (rate ++ alerts), leading_append rate alerts) (simp length-append) in
    omega (arith, e, counts_length f.counts, rate_length (alerts_in f) (accepted_in f), alerts_length f.alerts_at)

-- ---- whole lines

-- counts, rate, containers and byte 10 are all that stands behind the name
pub figures_text_lem : (k : Counters)
    → ((counts_text k.counts ++ leading (rate_fields (get_or k.counts 1 0) (get_or k.counts 0 0))) ++ alerted_text k.alerted) ++ (newline ∷ [])
    ≡ figures_text (figures_in k)
unfolding figures_text figure_fields figures_in counts_text alerted_text
figures_text_lem k =
    let counts : List (List ℕ) = count_fields (λ t. get_or k.counts t 0) in
    let rate : List (List ℕ) = rate_fields (get_or k.counts 1 0) (get_or k.counts 0 0) in
    let alerts : List (List ℕ) = alert_fields (λ c. get_or k.alerted c 0) in
    ap (λ (t : List ℕ). t ++ (newline ∷ []))
    (append_assoc (leading counts) (leading rate) (leading alerts)
    ∙ ap (λ (t : List ℕ). leading counts ++ t) (sym (leading_append rate alerts))
    ∙ sym (leading_append counts (rate ++ alerts)))

-- the bytes of a name at most
abbrev name_length : ℕ
name_length = 6

-- a name, and what stands behind it, at the front of the buffer
pub line_listed : {name text b w a : List ℕ} {next end : ℕ} → length name ≤ name_length → length text ≤ figures_limit → Wrote name b w 0 next → Wrote text w a next end
    → ListedText (name ++ text) b a end
line_listed l m p q = record { front = wrote_join (omega arith) p q; room = omega (arith, p.ends, q.ends) }

listed_as : {x y b a : List ℕ} {end : ℕ} → x ≡ y → ListedText x b a end → ListedText y b a end
listed_as {b = b} {a = a} {end = end} e p = subst (λ (t : List ℕ). ListedText t b a end) e p

pub total_listed : (f : Figures) {b w a : List ℕ} {next end : ℕ} → Wrote (ascii "total") b w 0 next → Wrote (figures_text f) w a next end → ListedText (month_total_line f) b a end
unfolding month_total_line
total_listed f p q = listed_as (figures_line_lem (ascii "total") f) (line_listed short (figures_length_lem f) p q)
  where
    short : length (ascii "total") ≤ name_length
    short = unfold ascii in (omega arith)

module _ (n : ℕ) (f : Figures) where
  name_length_lem : length (name_of n) ≤ name_length
  name_length_lem = let e : length (name_of n) ≡ 6 = ap length (sym (name_text n)) in omega (arith, e)

  pub trace_listed : {name b w a : List ℕ} {next end : ℕ} → name ≡ name_of n → too_many f.records ≡ false → Wrote name b w 0 next → Wrote (figures_text f) w a next end
      → ListedText (trace_line n f) b a end
  unfolding trace_line
  trace_listed e h p q = rw h (listed_as (figures_line_lem (name_of n) f) (line_listed name_length_lem (figures_length_lem f) (wrote_as e p) q))

  pub too_long_listed : {name b w a : List ℕ} {next end : ℕ} → name ≡ name_of n → too_many f.records ≡ true → Wrote name b w 0 next
      → Wrote (leading (decimal trace_length ∷ []) ++ (newline ∷ [])) w a next end → ListedText (trace_line n f) b a end
  unfolding trace_line
  too_long_listed e h p q = rw h (listed_as (line_leading (name_of n) (decimal trace_length ∷ [])) (line_listed name_length_lem short (wrote_as e p) q))
    where
      short : length (leading (decimal trace_length ∷ []) ++ (newline ∷ [])) ≤ figures_limit
      short = omega (arith, length-append (leading (decimal trace_length ∷ [])) (newline ∷ []), field_length trace_length)

-- ---- the loop over the fields of numbers

-- behind `at` the fields of the numbers below k are written, at most w bytes of each: `front` is their text, and there is room for the
-- others
pub record Placing (fields : ℕ → List (List ℕ)) (w n : ℕ) (before out : List ℕ) (at next k : ℕ) : Type 0 where
  pub front : List ℕ
  pub within : k ≤ n
  pub long : length out ≡ length before
  pub begun : at ≤ length before
  pub room : next + w * (n - k) ≤ length out
  pub wrote : Wrote front before out at next
  pub text : front ++ leading (fields_from fields k (n - k)) ≡ leading (fields_from fields 0 n)

pub placing_start : (fields : ℕ → List (List ℕ)) (w n : ℕ) (out : List ℕ) (at : ℕ) → at + w * n ≤ length out → Placing fields w n out out at at 0
placing_start fields w n out at r =
    let z : n - 0 ≡ n = omega arith in
    record {
      front = [];
      within = omega arith;
      long = refl;
      begun = omega arith;
      room = rw z r;
      wrote = wrote_none at out;
      text = rw z;
    }

module _ (fields : ℕ → List (List ℕ)) (w n : ℕ) (before out : List ℕ) (at next k : ℕ) (h : Placing fields w n before out at next k) (l : k < n) where
  one_less : n - k ≡ suc (n - (k + 1))
  one_less = omega arith

  left : w * (n - k) ≡ w + w * (n - (k + 1))
  left = ap (λ (i : ℕ). w * i) one_less ∙ mul-suc w (n - (k + 1)) ∙ omega arith

  pub fields_room : next + w ≤ length out
  fields_room = omega (arith, h.room, left)

  pub placing_next : (out' : List ℕ) (next' : ℕ) → length (leading (fields k)) ≤ w → Wrote (leading (fields k)) out out' next next'
      → Placing fields w n before out' at next' (k + 1)
  placing_next out' next' wide v =
      let same : length out' ≡ length out = wrote_length (omega (arith, fields_room)) v in
      record {
        front = h.front ++ leading (fields k);
        within = omega arith;
        long = same ∙ h.long;
        begun = h.begun;
        room = omega (arith, h.room, left, v.ends, same);
        wrote = wrote_join h.begun h.wrote v;
        text = further;
      }
    where
      unfolded : (m : ℕ) → fields_from fields k (suc m) ≡ fields k ++ fields_from fields (suc k) m
      unfolded m = unfold fields_from in refl

      further : (h.front ++ leading (fields k)) ++ leading (fields_from fields (k + 1) (n - (k + 1))) ≡ leading (fields_from fields 0 n)
      further =
          append_assoc h.front (leading (fields k)) (leading (fields_from fields (k + 1) (n - (k + 1))))
          ∙ ap (λ (t : List ℕ). h.front ++ t)
          (sym (leading_append (fields k) (fields_from fields (k + 1) (n - (k + 1))))
          ∙ ap (λ (d : ℕ). leading (fields k ++ fields_from fields d (n - (k + 1)))) (add-one k)
          ∙ ap leading (sym (unfolded (n - (k + 1))) ∙ ap (fields_from fields k) (sym one_less)))
          ∙ h.text

pub placing_end : (fields : ℕ → List (List ℕ)) (w n : ℕ) (before out : List ℕ) (at next k : ℕ) → Placing fields w n before out at next k → n ≤ k
    → Wrote (leading (fields_from fields 0 n)) before out at next
placing_end fields w n before out at next k h l =
    let z : n - k ≡ 0 = omega arith in
    wrote_as (sym (append-nil h.front) ∙ ap (λ (t : List ℕ). h.front ++ t) (sym (none z)) ∙ h.text) h.wrote
  where
    none : n - k ≡ 0 → leading (fields_from fields k (n - k)) ≡ []
    none z = rw z (unfold fields_from leading in refl)
