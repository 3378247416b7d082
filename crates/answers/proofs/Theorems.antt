-- What is proved of the tally: below 2 to the 64 records it is the number of answers of each kind.
use Rattle.std.proofs.Common.{◌≡◌, ℕ, suc, ◌+◌, ◌^◌, ◌<◌, ◌≤◌, Bool, true, false, cond, List, [], ◌∷◌, length, refl, ◌∙◌, arith}
use Rattle.answers.specs.declared.Answer.{Answer}
use Rattle.answers.specs.declared.Tally.{Tally}
use Rattle.answers.specs.Answers.{is_alert, is_refused}
use Rattle.answers.specs.Tallies.{more, no_tally, tallied, tallied_all, count_of}

-- a tally, and so many more of each
abbrev behind : Tally → ℕ → ℕ → ℕ → Tally
behind t n a r = record { records = t.records + n; alerts = t.alerts + a; refused = t.refused + r }

one_more : (b : Bool) (n m : ℕ) → n + 1 < 2 ^ 64 → cond b (more n) n + m ≡ n + cond b (suc m) m
one_more true n m h = omega arith
one_more false n m h = refl

at_most : (b : Bool) (n m : ℕ) → n ≤ m → m + 1 < 2 ^ 64 → cond b (more n) n ≤ more m
at_most true n m h l = omega arith
at_most false n m h l = omega arith

counted_behind : (t : Tally) (l : List Answer) → t.records + length l < 2 ^ 64 → t.alerts ≤ t.records → t.refused ≤ t.records
    → tallied_all t l ≡ behind t (length l) (count_of is_alert l) (count_of is_refused l)
unfolding tallied_all tallied count_of
counted_behind t [] h a r =
    let en : t.records ≡ t.records + 0 = omega arith in
    let ea : t.alerts ≡ t.alerts + 0 = omega arith in
    let er : t.refused ≡ t.refused + 0 = omega arith in
    λ i. record { records = en i; alerts = ea i; refused = er i }
counted_behind t (x ∷ l) h a r =
    let z : more t.records ≡ t.records + 1 = omega arith in
    let en : more t.records + length l ≡ t.records + suc (length l) = omega arith in
    let ea : cond (is_alert x) (more t.alerts) t.alerts + count_of is_alert l ≡ t.alerts + cond (is_alert x) (suc (count_of is_alert l)) (count_of is_alert l) =
    one_more (is_alert x) t.alerts (count_of is_alert l) (omega arith) in
    let er : cond (is_refused x) (more t.refused) t.refused + count_of is_refused l ≡ t.refused + cond (is_refused x) (suc (count_of is_refused l)) (count_of is_refused l) =
    one_more (is_refused x) t.refused (count_of is_refused l) (omega arith) in
    counted_behind (tallied t x) l (omega arith) (at_most (is_alert x) t.alerts t.records a (omega arith)) (at_most (is_refused x) t.refused t.records r (omega arith))
    ∙ (λ i. record { records = en i; alerts = ea i; refused = er i })

pub tally_counts : (l : List Answer) → length l < 2 ^ 64
    → ((tallied_all no_tally l).records ≡ length l) × ((tallied_all no_tally l).alerts ≡ count_of is_alert l) × ((tallied_all no_tally l).refused ≡ count_of is_refused l)
tally_counts l h = rw (counted_behind no_tally l (omega arith) (omega arith) (omega arith)) (omega arith, omega arith, omega arith)
