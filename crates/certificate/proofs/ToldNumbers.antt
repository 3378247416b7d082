-- The numbers of what is told, one by one.
use Prim.Native.Nat.{ℕ, ◌-◌}
use native.Mathlib.Omega.{arith}
use mathlib.Core.Path.{◌≡◌, refl, ap, ap₂, ◌∙◌}
use mathlib.Core.List.{List, [], ◌∷◌, map}
use lib.ListN.{length, take, drop, get_or, length-map}
use Rattle.fields.specs.Writing.{overwritten}
use Rattle.rules.specs.declared.Bounded.{Bounded}
use Rattle.rules.specs.Answers.{mixture_limit, padded, bounded_of}
use Rattle.rules.proofs.BoundedLaws.{padded_length}
use Rattle.image.specs.Policy.{rule_at, owner_at}
use Rattle.image.specs.Image.{policy_in, check_of}
use Rattle.certificate.specs.declared.Told.{Told}
use Rattle.certificate.specs.Origins.{lacked_by}
use Rattle.certificate.specs.Marks.{numbers_by}
use Rattle.certificate.proofs.ImageRules.{rule_short, bounded_count, read_rule}

eight : (l : List ℕ) → length l ≡ mixture_limit
    → get_or l 0 0 ∷ get_or l 1 0 ∷ get_or l 2 0 ∷ get_or l 3 0 ∷ get_or l 4 0 ∷ get_or l 5 0 ∷ get_or l 6 0 ∷ get_or l 7 0 ∷ [] ≡ l
eight [] h = absurd (omega arith)
eight (a ∷ []) h = absurd (omega arith)
eight (a ∷ b ∷ []) h = absurd (omega arith)
eight (a ∷ b ∷ d ∷ []) h = absurd (omega arith)
eight (a ∷ b ∷ d ∷ e ∷ []) h = absurd (omega arith)
eight (a ∷ b ∷ d ∷ e ∷ f ∷ []) h = absurd (omega arith)
eight (a ∷ b ∷ d ∷ e ∷ f ∷ g ∷ []) h = absurd (omega arith)
eight (a ∷ b ∷ d ∷ e ∷ f ∷ g ∷ i ∷ []) h = absurd (omega arith)
eight (a ∷ b ∷ d ∷ e ∷ f ∷ g ∷ i ∷ j ∷ []) h = refl
eight (a ∷ b ∷ d ∷ e ∷ f ∷ g ∷ i ∷ j ∷ k ∷ l) h = absurd (omega arith)

module _ (i : List ℕ) (c t : ℕ) (w : Told) (ok : check_of i ≡ 0) {b : Bounded} (e : b ≡ bounded_of (rule_at (policy_in i).rules w.rule))
    {atoms : List ℕ} (ea : atoms ≡ padded (map (lacked_by t) (take (b.count - 0) (drop 0 b.mixtures)))) {owner : ℕ} (eo : owner ≡ owner_at (policy_in i).owners w.rule) where
  atoms_told : atoms ≡ padded (map (lacked_by t) (rule_at (policy_in i).rules w.rule))
  atoms_told = ea ∙ ap (λ (r : List ℕ). padded (map (lacked_by t) r)) (read_rule i w.rule ok e)

  atoms_eight : length atoms ≡ mixture_limit
  atoms_eight =
      ap length atoms_told
      ∙ padded_length (map (lacked_by t) (rule_at (policy_in i).rules w.rule))
      (omega (arith, length-map (rule_at (policy_in i).rules w.rule) (lacked_by t), rule_short i w.rule ok))

  pub numbers_told :
      c ∷ t ∷ w.kind ∷ w.at ∷ w.holder ∷ w.rule ∷ owner ∷ w.first ∷ b.count
      ∷ get_or atoms 0 0 ∷ get_or atoms 1 0 ∷ get_or atoms 2 0 ∷ get_or atoms 3 0 ∷ get_or atoms 4 0 ∷ get_or atoms 5 0 ∷ get_or atoms 6 0 ∷ get_or atoms 7 0 ∷ []
      ≡ numbers_by (policy_in i) c t w
  unfolding numbers_by
  numbers_told =
      ap (λ (l : List ℕ). c ∷ t ∷ w.kind ∷ w.at ∷ w.holder ∷ w.rule ∷ owner ∷ w.first ∷ b.count ∷ l) (eight atoms atoms_eight ∙ atoms_told)
      ∙ ap₂ (λ (o n : ℕ). c ∷ t ∷ w.kind ∷ w.at ∷ w.holder ∷ w.rule ∷ o ∷ w.first ∷ n ∷ padded (map (lacked_by t) (rule_at (policy_in i).rules w.rule))) eo
      (bounded_count (rule_at (policy_in i).rules w.rule) (rule_short i w.rule ok) e)

  pub told_put : (out : List ℕ) {out' : List ℕ}
      → out' ≡ overwritten (c ∷ t ∷ w.kind ∷ w.at ∷ w.holder ∷ w.rule ∷ owner ∷ w.first ∷ b.count
      ∷ get_or atoms 0 0 ∷ get_or atoms 1 0 ∷ get_or atoms 2 0 ∷ get_or atoms 3 0 ∷ get_or atoms 4 0 ∷ get_or atoms 5 0 ∷ get_or atoms 6 0 ∷ get_or atoms 7 0 ∷ []) 0 out
      → out' ≡ overwritten (numbers_by (policy_in i) c t w) 0 out
  told_put out {out'} f = f ∙ ap (λ (l : List ℕ). overwritten l 0 out) numbers_told
