-- A rule of the origin that does not cover the tag makes a certificate, and where the history forbids there is such a rule.
use Prim.Native.Nat.{ℕ}
use mathlib.Core.Path.{◌≡◌}
use mathlib.Core.Bool.{false}
use mathlib.Core.List.{List}
use mathlib.Core.Logic.{◌↔◌}
use Rattle.lists.proofs.Bools.{refuted}
use Rattle.rules.specs.Sets.{atom}
use Rattle.rules.specs.Rules.{covers}
use Rattle.rules.proofs.SetLaws.{holds_has}
use Rattle.rules.proofs.Theorems as rules
use Rattle.image.specs.Policy.{Policy}
use Rattle.chains.specs.History.{History}
use Rattle.chains.specs.Chains.{Reaches, Forbidden}
use Rattle.certificate.specs.Origins.{origin, From, Certificate, lacked_by}
use Rattle.certificate.proofs.OriginLaws.{governs_from}
use Rattle.certificate.proofs.LackLaws.{Wide, lacked_out, uncovered_held}

-- a rule of c's origin that does not cover the tag t
pub record Uncovered (P : Policy) (h : History) (c t : ℕ) : Type 0 where
  pub rule : List ℕ
  pub from : From P h (origin h c) rule
  pub uncovers : covers rule t ≡ false

module _ (P : Policy) (h : History) (c t : ℕ) (wide : Wide t) (told : (k : ℕ) → (atom t k ≡ 1) ↔ Reaches P h k c) where
  pub uncovered : Forbidden P h c → Uncovered P h c t
  uncovered (r, g, none-holds) =
      record {
        rule = r;
        from = (governs_from P h c r).0 g;
        uncovers =
            refuted (covers r t) (λ e. let m = (rules.covers_by_one r t).0 e in none-holds m.0 m.1 (λ k x. holds_has m.0 t k m.2 ((told k).1 x)));
      }

  pub certified : Uncovered P h c t → Certificate P h c
  certified u =
      record {
        rule = u.rule;
        from = u.from;
        lacked = lacked_by t;
        reaches = λ m mem. (told (lacked_by t m)).0 (lacked_out t m wide (uncovered_held u.rule t m u.uncovers mem)).0;
        lacks = λ m mem. (lacked_out t m wide (uncovered_held u.rule t m u.uncovers mem)).1;
      }
