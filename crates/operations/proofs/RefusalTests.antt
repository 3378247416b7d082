-- The refusals 10 to 14 and 18 tested one by one: what each test found decides `rows_good` and the first condition that fails.
use Prim.Native.Nat.{ℕ, ◌+◌, ◌-◌, ◌*◌, ◌≤◌, ◌<◌}
use native.Mathlib.Omega.{arith}
use mathlib.Core.Path.{◌≡◌, refl, sym, ap, ap₂, ◌∙◌}
use mathlib.Core.Logic.{◌↔◌}
use mathlib.Core.Bool.{Bool, true, false, not, cond, ◌&&◌, ◌||◌}
use mathlib.Core.List.{List}
use mathlib.Core.Option.{none, some}
use lib.Dec.{eqb}
use lib.ListN.{get_or, take, drop}
use lib.Seq.{get_or-drop, get_or-take}
use borrow.Author.Tests.{eq-eqb, eqb-true, ne_eqb, not-true, not-false}
use Rattle.lists.specs.Conditions.{first_failed}
use Rattle.lists.proofs.Bools.{and_0, and_1, or_1, passes_test, fails_test, refuted}
use Rattle.answers.specs.Refusals.{row, no_process, wrong_kind, not_free, not_declared, other_user}
use Rattle.image.specs.Limits.{is_process, last_kind, container_limit, user_limit, kind_in, free_kinds}
use Rattle.session.specs.Limits.{row_width, user_width, users_at, kind_at, declared_at, declared, nobody}
use Rattle.session.specs.Rows.{Row, container_row, user_row, row_of, is_declared, user_rule_of, container_row_good, user_row_good}
use Rattle.session.proofs.RowPuts.{row_lent, user_lent}
use Rattle.session.proofs.RowMeaning.{good_kind}
use Rattle.chains.specs.Table.{needs_free, entry, is_some, process_good, object_good, kind_good, free_good, user_good, behalf_fits, early_conditions}
use Rattle.records.specs.declared.Code.{Code}
use Rattle.records.specs.declared.Request.{Request}
use Rattle.records.specs.Codes.{new_file_code, code_at}
use Rattle.records.specs.Records.{step_in, Asked}
use Rattle.records.proofs.CodeLaws.{Entered, entered, behalf_other, behalf_file, unnamed_other}
use Rattle.operations.specs.View.{view}
use Rattle.operations.specs.Effects.{Named, user_named_good, rows_good}
use Rattle.operations.specs.EarlyTests.{first_conditions}
use Rattle.operations.proofs.ViewLaws.{view_row, view_user}

-- ---- the rows, as they are lent to the test

-- the row of a container
abbrev pub lent_row : List ℕ → ℕ → List ℕ
lent_row s c = take (c * row_width + row_width - c * row_width) (drop (c * row_width) s)

-- the row of a user
abbrev pub lent_user : List ℕ → ℕ → List ℕ
lent_user s u = take (users_at + u * user_width + user_width - (users_at + u * user_width)) (drop (users_at + u * user_width) s)

row_test : (s : List ℕ) (c : ℕ) (b : Bool) → b ≡ container_row_good (lent_row s c) → b ≡ container_row_good (container_row s c)
row_test s c b h = h ∙ ap container_row_good (row_lent s c)

user_test : (s : List ℕ) (u : ℕ) (b : Bool) → b ≡ user_row_good (lent_user s u) → b ≡ user_row_good (user_row s u)
user_test s u b h = h ∙ ap user_row_good (user_lent s u)

-- what `rows_good` comes to for a request
opened : (s : List ℕ) (q : Request) → Asked q
    → rows_good s (step_in q) ≡ (container_row_good (container_row s q.p) && (container_row_good (container_row s q.o) && (not (code_at q.code).user || user_row_good (user_row s q.u))))
unfolding rows_good
opened s q a =
    let e : Entered (view s) q = entered (view s) q a in
    rw (e.process, e.object, e.user) (by (code_at q.code).user)
  where
    by : (b : Bool) → (container_row_good (container_row s q.p) && (container_row_good (container_row s q.o) && user_named_good s (cond b (some q.u) none)))
        ≡ (container_row_good (container_row s q.p) && (container_row_good (container_row s q.o) && (not b || user_row_good (user_row s q.u))))
    by true = refl
    by false = refl

module _ (s : List ℕ) (q : Request) (a : Asked q) (b : Bool) (p : b ≡ container_row_good (lent_row s q.p)) where
  pub process_row_bad : not b ≡ true → false ≡ rows_good s (step_in q)
  process_row_bad h = sym (opened s q a ∙ simp (fails_test (row_test s q.p b p) h))

  module _ (h : not b ≡ false) (d : Bool) (o : d ≡ container_row_good (lent_row s q.o)) where
    pub object_row_bad : not d ≡ true → false ≡ rows_good s (step_in q)
    object_row_bad g = sym (opened s q a ∙ simp (passes_test (row_test s q.p b p) h, fails_test (row_test s q.o d o) g))

    module _ (g : not d ≡ false) (k : Code) (e : k ≡ code_at q.code) where
      pub no_user_row : not k.user ≡ true → true ≡ rows_good s (step_in q)
      no_user_row n =
          sym (opened s q a ∙ simp (passes_test (row_test s q.p b p) h, passes_test (row_test s q.o d o) g, sym (ap (λ (x : Code). x.user) e) ∙ not-true k.user n))

      pub by_user_row : not k.user ≡ false → (t : Bool) → t ≡ user_row_good (lent_user s q.u) → t ≡ rows_good s (step_in q)
      by_user_row n t u =
          user_test s q.u t u
          ∙ sym (opened s q a ∙ simp (passes_test (row_test s q.p b p) h, passes_test (row_test s q.o d o) g, sym (ap (λ (x : Code). x.user) e) ∙ not-false k.user n))

-- ---- the kinds, as they are read from the session

pub kind_read : (s : List ℕ) (c : ℕ) → get_or s (c * row_width + kind_at) 0 ≡ (row_of (container_row s c)).kind
unfolding row_of container_row
kind_read s c = let h : kind_at < row_width = omega arith in rw (get_or-take, get_or-drop)

declared_read : (s : List ℕ) (u : ℕ) → get_or s (users_at + u * user_width) 0 ≡ get_or (user_row s u) declared_at 0
unfolding user_row
declared_read s u =
    let h : declared_at < user_width = omega arith in
    let e : users_at + u * user_width ≡ users_at + u * user_width + declared_at = omega arith in
    rw (get_or-take, get_or-drop) (ap (λ (n : ℕ). get_or s n 0) e)

-- ---- the refusals in their order

module _ (s : List ℕ) (q : Request) (a : Asked q) where
  e : Entered (view s) q
  e = entered (view s) q a

  seen : (c : ℕ) → c < container_limit → get_or s (c * row_width + kind_at) 0 ≡ ((view s).row c).kind
  seen c l = kind_read s c ∙ ap (λ (w : Row). w.kind) (sym (view_row s c l))

  process_told : is_process (get_or s (q.p * row_width + kind_at) 0) ≡ process_good (view s) (step_in q)
  unfolding process_good
  process_told = rw e.process (ap is_process (seen q.p a.process))

  abbrev need : ℕ
  need = (entry (view s) (step_in q)).need

  object_told : (k : ℕ) → k ≡ (code_at q.code).object → kind_in k (get_or s (q.o * row_width + kind_at) 0) ≡ object_good (view s) (step_in q)
  unfolding object_good
  object_told k h =
      ap₂ kind_in (h ∙ e.need) (seen q.o a.object) ∙ ap (λ (c : ℕ). kind_in need ((view s).row c).kind) (sym e.object)

  free_told : (k : ℕ) → k ≡ (code_at q.code).object → (k ≡ free_kinds) ↔ (needs_free need ≡ true)
  free_told k h = (λ z. eq-eqb need free_kinds (sym (h ∙ e.need) ∙ z), λ z. h ∙ e.need ∙ eqb-true need free_kinds z)

  user_told : (code_at q.code).user ≡ true → (b : Bool) → eqb (get_or s (users_at + q.u * user_width) 0) declared ≡ b → user_good (view s) (step_in q) ≡ b
  unfolding user_good is_declared
  user_told h b d = rw (e.user, h, view_user s q.u (a.user h)) (by (is_declared (user_row s q.u)) told)
    where
      told : is_declared (user_row s q.u) ≡ b
      told = ap (λ (n : ℕ). eqb n declared) (sym (declared_read s q.u)) ∙ d

      by : (c : Bool) → c ≡ b → is_some (cond c (some (user_rule_of (user_row s q.u))) none) ≡ b
      by true z = z
      by false z = z

  unnamed_told : (code_at q.code).user ≡ false → user_good (view s) (step_in q) ≡ true
  unfolding user_good
  unnamed_told h = rw (e.user, h)

  module _ (b : Bool) (r : b ≡ rows_good s (step_in q)) where
    pub early_10 : not b ≡ true → row ≡ first_failed (first_conditions s (step_in q))
    unfolding first_conditions first_failed
    early_10 h = simp (fails_test r h)

    module _ (h : not b ≡ false) (p : Bool) (ep : p ≡ is_process (get_or s (q.p * row_width + kind_at) 0)) where
      pub early_11 : not p ≡ true → no_process ≡ first_failed (first_conditions s (step_in q))
      unfolding first_conditions early_conditions first_failed
      early_11 g = simp (passes_test r h, fails_test (ep ∙ process_told) g)

      module _ (g : not p ≡ false) (k : Code) (ke : k ≡ code_at q.code) (f : Bool) (fe : f ≡ kind_in k.object (get_or s (q.o * row_width + kind_at) 0)) where
        need_is : k.object ≡ (code_at q.code).object
        need_is = ap (λ (x : Code). x.object) ke

        fit : f ≡ object_good (view s) (step_in q)
        fit = fe ∙ object_told k.object need_is

        pub early_13 : not f ≡ true → k.object ≡ free_kinds → not_free ≡ first_failed (first_conditions s (step_in q))
        unfolding first_conditions early_conditions first_failed kind_good free_good
        early_13 n z = simp (passes_test r h, passes_test (ep ∙ process_told) g, fails_test fit n, (free_told k.object need_is).0 z)

        pub early_12 : not f ≡ true → (k.object ≡ free_kinds → ⊥) → wrong_kind ≡ first_failed (first_conditions s (step_in q))
        unfolding first_conditions early_conditions first_failed kind_good free_good
        early_12 n z = simp (passes_test r h, passes_test (ep ∙ process_told) g, fails_test fit n, refuted (needs_free need) (λ y. z ((free_told k.object need_is).1 y)))

        module _ (y : not f ≡ false) where
          kind_passes : kind_good (view s) (step_in q) ≡ true
          unfolding kind_good
          kind_passes = or_1 (needs_free need) _ (passes_test fit y)

          free_passes : free_good (view s) (step_in q) ≡ true
          unfolding free_good
          free_passes = or_1 (not (needs_free need)) _ (passes_test fit y)

          undeclared : user_good (view s) (step_in q) ≡ false → first_failed (first_conditions s (step_in q)) ≡ not_declared
          unfolding first_conditions early_conditions first_failed
          undeclared u = simp (passes_test r h, passes_test (ep ∙ process_told) g, kind_passes, free_passes, u)

          by_behalf : user_good (view s) (step_in q) ≡ true → (b : Bool) → behalf_fits (view s) (step_in q) ≡ b → first_failed (first_conditions s (step_in q)) ≡ cond b 0 other_user
          unfolding first_conditions early_conditions first_failed
          by_behalf u b f = simp (passes_test r h, passes_test (ep ∙ process_told) g, kind_passes, free_passes, u, f)

          user_is : k.user ≡ (code_at q.code).user
          user_is = ap (λ (x : Code). x.user) ke

          pub early_none : not k.user ≡ true → 0 ≡ first_failed (first_conditions s (step_in q))
          early_none n =
              let f : (code_at q.code).user ≡ false = sym user_is ∙ not-true k.user n in
              sym (by_behalf (unnamed_told f) true (behalf_other (view s) q a (unnamed_other q f)))

          pub early_14 : not k.user ≡ false → (get_or s (users_at + q.u * user_width) 0 ≡ declared → ⊥) → not_declared ≡ first_failed (first_conditions s (step_in q))
          early_14 n z = sym (undeclared (user_told (sym user_is ∙ not-false k.user n) false (ne_eqb (get_or s (users_at + q.u * user_width) 0) declared z)))

          module _ (n : not k.user ≡ false) (z : get_or s (users_at + q.u * user_width) 0 ≡ declared) where
            user_passes : user_good (view s) (step_in q) ≡ true
            user_passes = user_told (sym user_is ∙ not-false k.user n) true (eq-eqb (get_or s (users_at + q.u * user_width) 0) declared z)

            pub early_passed : (q.code ≡ new_file_code → ⊥) → 0 ≡ first_failed (first_conditions s (step_in q))
            early_passed ne = sym (by_behalf user_passes true (behalf_other (view s) q a ne))

            pub early_18 : q.code ≡ new_file_code → (b : ℕ) → b ≡ ((view s).row q.p).behalf → (x : ℕ) → x ≡ cond (eqb b nobody || eqb b q.u) 0 other_user
                → x ≡ first_failed (first_conditions s (step_in q))
            early_18 c b eb x ex =
                ex ∙ ap (λ (m : ℕ). cond (eqb m nobody || eqb m q.u) 0 other_user) eb
                ∙ sym (by_behalf user_passes _ (behalf_file (view s) q c))

-- the kind of the object is one of the kinds where both rows are as the session says
pub object_kind : (s : List ℕ) (q : Request) → Asked q → (b : Bool) → b ≡ rows_good s (step_in q) → not b ≡ false → get_or s (q.o * row_width + kind_at) 0 ≤ last_kind
unfolding row_of
object_kind s q a b r h =
    let rest = and_1 (container_row_good (container_row s q.p)) (sym (opened s q a) ∙ passes_test r h) in
    rw (kind_read s q.o) (good_kind (container_row s q.o) (and_0 (container_row_good (container_row s q.o)) _ rest))

-- a request names a user below 16 if its code names one
pub user_low : (s : List ℕ) (q : Request) (k : Code) → Named s q → k ≡ code_at q.code → not k.user ≡ false → q.u < user_limit
user_low s q k n e h = n.asked.user (sym (ap (λ (x : Code). x.user) e) ∙ not-false k.user h)
