-- What the rows of a session from the derived policy hold as long as the accesses are allowed.
use Prim.Native.Nat.{ℕ, ◌+◌, ◌-◌, ◌^◌, ◌≤◌, ◌<◌}
use native.Mathlib.Omega.{arith}
use native.Mathlib.Decide.{ℕ_discrete}
use mathlib.Core.Path.{◌≡◌, refl, sym, subst, ap, ◌∙◌}
use mathlib.Core.Logic.{⊎_elim}
use mathlib.Core.Bool.{Bool, true, false, cond, ◌&&◌}
use mathlib.Core.List.{List}
use lib.Pow.{pow-lt}
use lib.Dec.{eqb}
use lib.ListN.{length, get_or}
use borrow.Author.Tests.{eq-eqb, ne_eqb}
use Rattle.lists.specs.Lists.{every}
use Rattle.lists.specs.Conditions.{first_failed}
use Rattle.lists.proofs.Bools.{or_0, or_1}
use Rattle.rules.specs.Sets.{atom, holds, data_of}
use Rattle.rules.specs.Rules.{covers, normal, meet, unrestricted}
use Rattle.rules.specs.Answers.{data_width, tag_width}
use Rattle.rules.proofs.SetLaws.{atom_le, atoms_holds, holds_all, holds_has, single_same, or_has, data_has}
use Rattle.rules.proofs.RuleLaws.{covers_normal, covers_part, meet_self}
use Rattle.image.specs.Limits.{file_kind, process_kind, is_guarded, is_process, kind_in, store_kinds}
use Rattle.image.specs.Policy.{unrestricted_rule}
use Rattle.image.proofs.WrittenMeaning.{normal_unrestricted}
use Rattle.session.specs.Rows.{Row}
use Rattle.matrix.specs.Rows.{bits_of}
use Rattle.matrix.specs.Flows.{has, subject_carries, granted, onward, Composed, composed}
use Rattle.matrix.proofs.CarrierLaws.{carries}
use Rattle.matrix.proofs.PathTest.{path_source}
use Rattle.matrix.proofs.PathFlows.{composed_path}
use Rattle.matrix.proofs.RowBits.{has_atom, bits_has}
use Rattle.derivation.specs.Derived.{permit_of}
use Rattle.chains.specs.History.{Step, read, write, append, receiver, delete, end, exec, fork, new_file, new_volatile}
use Rattle.chains.specs.Demand.{judged}
use Rattle.chains.specs.Table.{
  State,
  read_row,
  write_row,
  append_row,
  entry,
  process_good,
  object_good,
  kind_good,
  free_good,
  user_good,
  behalf_fits,
  fits,
  meet_good,
  early_conditions,
  table_conditions,
  alerts,
  blocks,
  placed,
}
use Rattle.silence.specs.Silent.{sources_of, quiet_object}
use Rattle.silence.specs.Sessions.{Allowed, may_read, may_write, may_append}

-- ---- the row of an object, and of a subject

module _ (reads writes : List ℕ) (n : ℕ) where
  pub record ObjectRow (b : ℕ) (w : Row) : Type 0 where
    pub kind : w.kind ≡ file_kind
    pub permit : w.permit ≡ normal (permit_of reads writes b)
    pub run : w.run ≡ unrestricted_rule
    pub sources : (k : ℕ) → atom w.tag k ≡ 1 → Composed reads writes n k b

  -- what a subject holds came into some object that it reads
  abbrev pub Read : ℕ → ℕ → Type 0
  Read s k = (o : ℕ) × (o < n) × (has (get_or reads s 0) o ≡ true) × Composed reads writes n k o

  pub record SubjectRow (s : ℕ) (w : Row) : Type 0 where
    pub kind : w.kind ≡ process_kind
    pub permit : w.permit ≡ unrestricted_rule
    pub run : w.run ≡ unrestricted_rule
    pub sources : (k : ℕ) → atom w.tag k ≡ 1 → Read s k

  pub record Holding (σ : State) : Type 0 where
    pub object : (b : ℕ) → b < n → ObjectRow b (σ.row b)
    pub subject : (s : ℕ) → s < length reads → SubjectRow s (σ.row (n + s))

-- ---- the unrestricted rule

unrestricted_meet : meet unrestricted_rule unrestricted_rule ≡ unrestricted_rule
unrestricted_meet = meet_self unrestricted_rule ∙ normal_unrestricted

unrestricted_fits : fits unrestricted_rule ≡ true
unfolding fits unrestricted_rule unrestricted
unrestricted_fits = refl

all_atoms : (w k : ℕ) → k < w → atom (2 ^ w - 1) k ≡ 1
all_atoms w k l = holds_has (2 ^ w - 1) (2 ^ k) k (holds_all w (2 ^ k) (pow-lt l)) (single_same k)

covers_all : (t : ℕ) → ((k : ℕ) → atom t k ≡ 1 → k < tag_width) → covers unrestricted_rule t ≡ true
unfolding unrestricted_rule unrestricted covers
covers_all t wide = or_0 (holds (2 ^ tag_width - 1) t) false (atoms_holds (2 ^ tag_width - 1) t (λ k. on k (ℕ_discrete (atom t k) 1)))
  where
    on : (k : ℕ) → Dec (atom t k ≡ 1) → atom t k ≤ atom (2 ^ tag_width - 1) k
    on k (yes e) = omega (arith, e, all_atoms tag_width k (wide k e))
    on k (no e) = omega (arith, atom_le t k)

-- ---- one allowed step

module _ (reads writes : List ℕ) (n : ℕ) (even : length writes ≡ length reads) (few : n ≤ data_width) where
  -- what a subject holds may go on into what it writes
  pub flows : (s b k : ℕ) → s < length reads → b < n → has (get_or writes s 0) b ≡ true → Read reads writes n s k → Composed reads writes n k b
  unfolding granted
  flows s b k l m w (o, lo, r, c) = onward c m (or_1 (eqb o b) (subject_carries reads writes o b) (carries reads writes s o b l even r w))

  module _ (σ : State) (H : Holding reads writes n σ) where
    object_store : (b : ℕ) → b < n → kind_in store_kinds (σ.row b).kind ≡ true
    unfolding kind_in atom
    object_store b l = rw (H.object b l).kind refl

    subject_process : (s : ℕ) → s < length reads → is_process (σ.row (n + s)).kind ≡ true
    unfolding is_process
    subject_process s l = rw (H.subject s l).kind refl

    -- nothing is refused
    pub passes : (t : Step) → Allowed reads writes n t → first_failed (table_conditions σ t) ≡ 0
    unfolding table_conditions early_conditions first_failed process_good kind_good free_good object_good user_good behalf_fits meet_good entry every
    passes (read p o) (may_read {s} {k} l m h) =
        rw (subject_process s l, object_store k m, (H.subject s l).run, (H.object k m).run, unrestricted_meet, unrestricted_fits) refl
    passes (write p o) (may_write {s} {k} l m h) = rw (subject_process s l, object_store k m) refl
    passes (append p o) (may_append {s} {k} l m h) =
        rw (subject_process s l, object_store k m, (H.subject s l).run, (H.object k m).run, unrestricted_meet, unrestricted_fits) refl
    passes (fork p o) h = elim h [ ]
    passes (new_volatile p o) h = elim h [ ]
    passes (delete p o) h = elim h [ ]
    passes (exec p o u) h = elim h [ ]
    passes (new_file p o u) h = elim h [ ]
    passes (end p) h = elim h [ ]

    -- nothing is blocked: neither an object nor a subject is guarded
    pub never_blocks : (t : Step) → Allowed reads writes n t → blocks t (entry σ t).row ≡ false
    unfolding entry read_row write_row append_row blocks is_guarded
    never_blocks (read p o) (may_read {s} {k} l m h) = rw (H.subject s l).kind refl
    never_blocks (write p o) (may_write {s} {k} l m h) = rw (H.object k m).kind refl
    never_blocks (append p o) (may_append {s} {k} l m h) = rw (H.object k m).kind refl
    never_blocks (fork p o) h = elim h [ ]
    never_blocks (new_volatile p o) h = elim h [ ]
    never_blocks (delete p o) h = elim h [ ]
    never_blocks (exec p o u) h = elim h [ ]
    never_blocks (new_file p o u) h = elim h [ ]
    never_blocks (end p) h = elim h [ ]

    -- a row that is put in its place
    put_subject : (s : ℕ) → s < length reads → (w : Row) → SubjectRow reads writes n s w → Holding reads writes n (placed σ (n + s) w)
    unfolding placed
    put_subject s l w W = record {
      object = λ b m. subst (λ (x : Bool). ObjectRow reads writes n b (cond x w (σ.row b))) (sym (ne_eqb b (n + s) (λ e. omega (arith, m, e)))) (H.object b m);
      subject = λ i m. at i m (ℕ_discrete i s);
    }
      where
        at : (i : ℕ) → i < length reads → Dec (i ≡ s) → SubjectRow reads writes n i (cond (eqb (n + i) (n + s)) w (σ.row (n + i)))
        at i m (yes e) =
            subst (λ (x : Bool). SubjectRow reads writes n i (cond x w (σ.row (n + i)))) (sym (eq-eqb (n + i) (n + s) (ap (λ (x : ℕ). n + x) e)))
            (subst (λ (x : ℕ). SubjectRow reads writes n x w) (sym e) W)
        at i m (no d) = subst (λ (x : Bool). SubjectRow reads writes n i (cond x w (σ.row (n + i)))) (sym (ne_eqb (n + i) (n + s) (λ e. d (omega (arith, e))))) (H.subject i m)

    put_object : (b : ℕ) → b < n → (w : Row) → ObjectRow reads writes n b w → Holding reads writes n (placed σ b w)
    unfolding placed
    put_object b l w W = record {
      object = λ i m. at i m (ℕ_discrete i b);
      subject = λ i m. subst (λ (x : Bool). SubjectRow reads writes n i (cond x w (σ.row (n + i)))) (sym (ne_eqb (n + i) b (λ e. omega (arith, l, e)))) (H.subject i m);
    }
      where
        at : (i : ℕ) → i < n → Dec (i ≡ b) → ObjectRow reads writes n i (cond (eqb i b) w (σ.row i))
        at i m (yes e) = subst (λ (x : Bool). ObjectRow reads writes n i (cond x w (σ.row i))) (sym (eq-eqb i b e)) (subst (λ (x : ℕ). ObjectRow reads writes n x w) (sym e) W)
        at i m (no d) = subst (λ (x : Bool). ObjectRow reads writes n i (cond x w (σ.row i))) (sym (ne_eqb i b d)) (H.object i m)

    read_row_lem : (s k : ℕ) → s < length reads → k < n → has (get_or reads s 0) k ≡ true → SubjectRow reads writes n s (read_row (σ.row (n + s)) (σ.row k))
    unfolding read_row
    read_row_lem s k l m h = record {
      kind = (H.subject s l).kind;
      permit = (H.subject s l).permit;
      run = rw ((H.subject s l).run, (H.object k m).run) unrestricted_meet;
      sources = λ d e.
          ⊎_elim ((H.subject s l).sources d) (λ q. (k, m, h, (H.object k m).sources d ((data_has data_width (σ.row k).tag d).0 q).1))
          ((or_has (σ.row (n + s)).tag (data_of data_width (σ.row k).tag) d).0 e);
    }

    write_row_lem : (s k : ℕ) → s < length reads → k < n → has (get_or writes s 0) k ≡ true → ObjectRow reads writes n k (write_row (σ.row (n + s)) (σ.row k))
    unfolding write_row
    write_row_lem s k l m h = record {
      kind = (H.object k m).kind;
      permit = (H.object k m).permit;
      run = (H.subject s l).run;
      sources = λ d e. flows s k d l m h ((H.subject s l).sources d e);
    }

    append_row_lem : (s k : ℕ) → s < length reads → k < n → has (get_or writes s 0) k ≡ true → ObjectRow reads writes n k (append_row (σ.row (n + s)) (σ.row k))
    unfolding append_row
    append_row_lem s k l m h = record {
      kind = (H.object k m).kind;
      permit = (H.object k m).permit;
      run = rw ((H.subject s l).run, (H.object k m).run) unrestricted_meet;
      sources = λ d e. ⊎_elim ((H.object k m).sources d) (λ q. flows s k d l m h ((H.subject s l).sources d q)) ((or_has (σ.row k).tag (σ.row (n + s)).tag d).0 e);
    }

    -- the rows afterwards
    pub holds_on : (t : Step) → Allowed reads writes n t → Holding reads writes n (placed σ (receiver t) (entry σ t).row)
    unfolding entry
    holds_on (read p o) (may_read {s} {k} l m h) = put_subject s l _ (read_row_lem s k l m h)
    holds_on (write p o) (may_write {s} {k} l m h) = put_object k m _ (write_row_lem s k l m h)
    holds_on (append p o) (may_append {s} {k} l m h) = put_object k m _ (append_row_lem s k l m h)
    holds_on (fork p o) h = elim h [ ]
    holds_on (new_volatile p o) h = elim h [ ]
    holds_on (delete p o) h = elim h [ ]
    holds_on (exec p o u) h = elim h [ ]
    holds_on (new_file p o u) h = elim h [ ]
    holds_on (end p) h = elim h [ ]

    -- ---- the answer

    subject_covers : (s : ℕ) (w : Row) → SubjectRow reads writes n s w → covers w.permit w.tag ≡ true
    subject_covers s w W = rw W.permit (covers_all w.tag (λ k e. omega (arith, few, path_source (W.sources k e).3)))

    -- what an object holds is among its sources
    pub among_sources : (b : ℕ) (w : Row) → b < n → ObjectRow reads writes n b w → holds (sources_of reads writes n b) w.tag ≡ true
    unfolding sources_of
    among_sources b w l W = atoms_holds _ w.tag (λ k. on k (ℕ_discrete (atom w.tag k) 1))
      where
        on : (k : ℕ) → Dec (atom w.tag k ≡ 1) → atom w.tag k ≤ atom (bits_of (λ a. composed reads writes n a b) n) k
        on k (no d) = omega (arith, atom_le w.tag k)
        on k (yes e) =
            let c : Composed reads writes n k b = W.sources k e in
            let lk : k < n = path_source c in
            omega (arith, e, has_atom (bits_of (λ a. composed reads writes n a b) n) k (bits_has (λ a. composed reads writes n a b) n k lk ∙ (composed_path reads writes n k b lk l).1 c))

    object_covers : (b : ℕ) (w : Row) → b < n → quiet_object reads writes n b ≡ true → ObjectRow reads writes n b w → covers w.permit w.tag ≡ true
    unfolding quiet_object
    object_covers b w l q W =
        rw W.permit (covers_normal (permit_of reads writes b) w.tag ∙ covers_part (permit_of reads writes b) w.tag (sources_of reads writes n b) (among_sources b w l W) q)

    covered_quiet : (t : Step) (w : Row) → covers w.permit w.tag ≡ true → alerts t w ≡ false
    unfolding alerts
    covered_quiet t w e = rw e (by (judged t))
      where
        by : (x : Bool) → (x && false) ≡ false
        by true = refl
        by false = refl

    pub stays_quiet : ((b : ℕ) → b < n → quiet_object reads writes n b ≡ true) → (t : Step) → Allowed reads writes n t → alerts t (entry σ t).row ≡ false
    unfolding entry
    stays_quiet q (read p o) (may_read {s} {k} l m h) = covered_quiet (read (n + s) k) _ (subject_covers s _ (read_row_lem s k l m h))
    stays_quiet q (write p o) (may_write {s} {k} l m h) = covered_quiet (write (n + s) k) _ (object_covers k _ m (q k m) (write_row_lem s k l m h))
    stays_quiet q (append p o) (may_append {s} {k} l m h) = covered_quiet (append (n + s) k) _ (object_covers k _ m (q k m) (append_row_lem s k l m h))
    stays_quiet q (fork p o) h = elim h [ ]
    stays_quiet q (new_volatile p o) h = elim h [ ]
    stays_quiet q (delete p o) h = elim h [ ]
    stays_quiet q (exec p o u) h = elim h [ ]
    stays_quiet q (new_file p o u) h = elim h [ ]
    stays_quiet q (end p) h = elim h [ ]
