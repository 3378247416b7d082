-- Two policies composed (change request No. 11, "after source document 003"): at each place for a rule, two rules and their owners.
use Rattle.std.specs.Prelude.{ℕ, ◌+◌, ◌*◌, Bool, cond, ◌&&◌, ◌||◌, List, [], ◌∷◌, ◌++◌, eqb, leb, length}
use Rattle.std.specs.Int.Bits.{bit_or}
use Rattle.lists.specs.Lists.{every}
use Rattle.rules.specs.Sets.{holds, running_of}
use Rattle.rules.specs.Rules.{covers, normal}
use Rattle.rules.specs.Answers.{data_width}
use Rattle.image.specs.Limits.{no_owner}
use Rattle.image.specs.Normal.{Use, OwnedPlace, Owned}

-- ---- consent

-- "A third input has 32 bytes, 1 where the owner of that atom consents and 0 where not."
unfoldable pub consent_good : List ℕ → Bool
consent_good bytes = eqb (length bytes) data_width && every (λ b. leb b 1) bytes

-- the data atoms that consent, "atom k being worth 2 to the k": byte k is worth as much
unfoldable pub consent_atoms : List ℕ → ℕ
consent_atoms [] = 0
consent_atoms (b ∷ bytes) = b + 2 * consent_atoms bytes

-- "twins counted with their data atom": a running atom consents if its data atom does
unfoldable pub consenting : List ℕ → ℕ
consenting bytes = bit_or (consent_atoms bytes) (running_of data_width (consent_atoms bytes))

-- ---- a rule, where the atoms of c consent

-- "a mixture .. enters if the other's rule there covers it, or if all its atoms .. consent"
unfoldable pub enters : ℕ → List ℕ → ℕ → Bool
enters c other m = covers other m || holds c m

unfoldable pub entering : ℕ → List ℕ → List ℕ → List ℕ
entering c other [] = []
entering c other (m ∷ r) = cond (enters c other m) (m ∷ entering c other r) (entering c other r)

-- "a mixture of either rule's normal form"
unfoldable pub composed_rule : ℕ → List ℕ → List ℕ → List ℕ
composed_rule c r s = normal (entering c s (normal r) ++ entering c r (normal s))

-- "Owners stay where both agree, else nobody."
unfoldable pub composed_owner : ℕ → ℕ → ℕ
composed_owner a b = cond (eqb a b) a no_owner

unfoldable pub composed_use : ℕ → Use → Use → Use
composed_use c u v =
    record { owner = composed_owner u.owner v.owner; mixtures = composed_rule c u.mixtures v.mixtures }

-- ---- "At each place for a rule"

unfoldable pub composed_uses : ℕ → List Use → List Use → List Use
composed_uses c [] vs = []
composed_uses c (u ∷ us) [] = []
composed_uses c (u ∷ us) (v ∷ vs) = composed_use c u v ∷ composed_uses c us vs

unfoldable pub composed_place : ℕ → OwnedPlace → OwnedPlace → OwnedPlace
composed_place c p q =
    record {
      kind = p.kind;
      atom = p.atom;
      permit = composed_use c p.permit q.permit;
      run = composed_use c p.run q.run;
    }

unfoldable pub composed_places : ℕ → List OwnedPlace → List OwnedPlace → List OwnedPlace
composed_places c [] qs = []
composed_places c (p ∷ ps) [] = []
composed_places c (p ∷ ps) (q ∷ qs) = composed_place c p q ∷ composed_places c ps qs

unfoldable pub composed_owned : ℕ → Owned → Owned → Owned
composed_owned c m n =
    record { places = composed_places c m.places n.places; users = composed_uses c m.users n.users }
