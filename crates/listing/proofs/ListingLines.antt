-- The lines as their parts one behind the other, and their lengths. Theorems restates what the lines' lengths are at most.
use Prim.Native.Nat.{ℕ, ◌+◌, ◌≤◌, ◌<◌}
use native.Mathlib.Omega.{arith}
use mathlib.Core.Path.{◌≡◌, refl, sym, ap, ◌∙◌}
use mathlib.Core.Bool.{Bool, true, false, cond}
use mathlib.Core.List.{List, [], ◌∷◌, ◌++◌, append_assoc, append-nil}
use lib.Dec.{eqb}
use lib.ListN.{length, length-append}
use borrow.Author.Tests.{ne_eqb}
use Rattle.fields.specs.Ascii.{ascii}
use Rattle.answers.specs.declared.Verdict.{Verdict}
use Rattle.answers.specs.declared.Verdict.TheVariants.{Quiet, Alert, Blocked}
use Rattle.answers.specs.declared.Answer.{Answer}
use Rattle.answers.specs.declared.Answer.TheVariants.{Given, Refused}
use Rattle.answers.specs.Answers.{position_of}
use Rattle.listing.specs.Text.{decimal_limit, decimal, tag_digits, hexadecimal}
use Rattle.listing.specs.Lines.{space, newline, line, spaced, leading, operation_word, verdict_word, answer_word, answer_fields, heading, step_line, short_line, total_line, policy_line}
use Rattle.listing.specs.Buffer.{word_least, field_limit, operation_limit, verdict_limit, access_limit, position_limit, answer_limit, line_limit}
use Rattle.listing.proofs.NumberTexts.{decimal_length, decimal_few, decimal_some, hexadecimal_length}

-- ---- texts

pub other_word : (code : ℕ) → (code ≡ 1 → ⊥) → (code ≡ 2 → ⊥) → (code ≡ 3 → ⊥) → (code ≡ 4 → ⊥) → (code ≡ 5 → ⊥) → (code ≡ 6 → ⊥) → (code ≡ 7 → ⊥)
    → (code ≡ 8 → ⊥) → (code ≡ 9 → ⊥)
    → operation_word code ≡ ascii "other"
unfolding operation_word
other_word code a b d e f g h i j =
    simp (ne_eqb code 1 a, ne_eqb code 2 b, ne_eqb code 3 d, ne_eqb code 4 e, ne_eqb code 5 f, ne_eqb code 6 g, ne_eqb code 7 h, ne_eqb code 8 i, ne_eqb code 9 j)

pub access_text : (s w p o : List ℕ)
    → (((s ++ (space ∷ [])) ++ (w ++ (space ∷ []))) ++ (p ++ (space ∷ []))) ++ (o ++ (space ∷ [])) ≡ spaced (s ∷ w ∷ p ∷ o ∷ [])
unfolding spaced
access_text s w p o = simp append_assoc

pub verdict_text : (w d h k : List ℕ)
    → (((w ++ (space ∷ [])) ++ (d ++ (space ∷ []))) ++ (h ++ (space ∷ []))) ++ (k ++ (newline ∷ [])) ≡ line w (d ∷ h ∷ k ∷ [])
unfolding line
verdict_text w d h k = simp append_assoc

pub step_text : (step code p o : ℕ) (x : Answer)
    → spaced (decimal step ∷ operation_word code ∷ decimal p ∷ decimal o ∷ []) ++ line (answer_word x) (answer_fields x) ≡ step_line step code p o x
unfolding spaced step_line line
step_text step code p o x = simp append_assoc

pub short_text : (step : ℕ) → (decimal step ++ (space ∷ [])) ++ ascii "other 0 0 refused 7\n" ≡ short_line step
unfolding short_line line ascii
short_text step = simp append_assoc

pub total_text : (records alerts refused : ℕ)
    → ((ascii "total " ++ (decimal records ++ (space ∷ []))) ++ (ascii "alerts " ++ (decimal alerts ++ (space ∷ [])))) ++ (ascii "refused " ++ (decimal refused ++ (newline ∷ [])))
    ≡ total_line records alerts refused
unfolding total_line line ascii
total_text records alerts refused = simp append_assoc

-- ---- fields with the space in front of each

pub leading_append : (fs gs : List (List ℕ)) → leading (fs ++ gs) ≡ leading fs ++ leading gs
unfolding leading
leading_append [] gs = refl
leading_append (f ∷ fs) gs =
    ap (λ (l : List ℕ). space ∷ (f ++ l)) (leading_append fs gs) ∙ ap (λ (l : List ℕ). space ∷ l) (sym (append_assoc f (leading fs) (leading gs)))

-- a line is its first field, the others with the space in front of each, and byte 10
pub line_leading : (f : List ℕ) (gs : List (List ℕ)) → f ++ (leading gs ++ (newline ∷ [])) ≡ line f gs
unfolding leading line
line_leading f [] = refl
line_leading f (g ∷ gs) = ap (λ (l : List ℕ). f ++ (space ∷ l)) (append_assoc g (leading gs) (newline ∷ []) ∙ line_leading g gs)

pub field_text : (n : ℕ) → (space ∷ []) ++ decimal n ≡ leading (decimal n ∷ [])
unfolding leading
field_text n = ap (λ (l : List ℕ). space ∷ l) (sym (append-nil (decimal n)))

-- ---- lengths

pub field_length : (n : ℕ) → length (leading (decimal n ∷ [])) ≤ field_limit
unfolding leading
field_length n = simp (append-nil {A = ℕ}) (omega (arith, decimal_length n))

pub number_length : (n e : ℕ) → length (decimal n ++ (e ∷ [])) ≤ decimal_limit + 1
number_length n e = simp length-append (omega (arith, decimal_length n))

pub number_least : (n e : ℕ) → 2 ≤ length (decimal n ++ (e ∷ []))
number_least n e = simp length-append (omega (arith, decimal_some n))

pub tag_length : (t e : ℕ) → length (hexadecimal t ++ (e ∷ [])) ≡ tag_digits + 1
tag_length t e = simp length-append (omega (arith, hexadecimal_length t))

cond_either : (P : List ℕ → Type 0) (b : Bool) (x y : List ℕ) → P x → P y → P (cond b x y)
cond_either P true x y p q = p
cond_either P false x y p q = q

-- a word of at most so many letters
abbrev pub Bounded : ℕ → List ℕ → Type 0
Bounded most w = (word_least ≤ length w) × (length w ≤ most)

pub operation_bounds : (code : ℕ) → Bounded operation_limit (operation_word code)
unfolding operation_word ascii
operation_bounds code =
    cond_either (Bounded operation_limit) (eqb code 1) _ _ (omega arith, omega arith)
    (cond_either (Bounded operation_limit) (eqb code 2) _ _ (omega arith, omega arith)
    (cond_either (Bounded operation_limit) (eqb code 3) _ _ (omega arith, omega arith)
    (cond_either (Bounded operation_limit) (eqb code 4) _ _ (omega arith, omega arith)
    (cond_either (Bounded operation_limit) (eqb code 5) _ _ (omega arith, omega arith)
    (cond_either (Bounded operation_limit) (eqb code 6) _ _ (omega arith, omega arith)
    (cond_either (Bounded operation_limit) (eqb code 7) _ _ (omega arith, omega arith)
    (cond_either (Bounded operation_limit) (eqb code 8) _ _ (omega arith, omega arith)
    (cond_either (Bounded operation_limit) (eqb code 9) _ _ (omega arith, omega arith) (omega arith, omega arith)))))))))

pub operation_length : (code : ℕ) → length (operation_word code ++ (space ∷ [])) ≤ operation_limit + 1
operation_length code = simp length-append (omega (arith, operation_bounds code))

pub access_length : (step code p o : ℕ) → length (spaced (decimal step ∷ operation_word code ∷ decimal p ∷ decimal o ∷ [])) ≤ access_limit
unfolding spaced
access_length step code p o =
    simp length-append (omega (arith, decimal_length step, operation_bounds code, decimal_length p, decimal_length o))

pub verdict_bounds : (v : Verdict) → Bounded verdict_limit (verdict_word v)
unfolding verdict_word ascii
verdict_bounds Quiet = (omega arith, omega arith)
verdict_bounds Alert = (omega arith, omega arith)
verdict_bounds Blocked = (omega arith, omega arith)

pub verdict_length : (v : Verdict) → length (verdict_word v ++ (space ∷ [])) ≤ verdict_limit + 1
verdict_length v = simp length-append (omega (arith, verdict_bounds v))

pub position_length : (n : ℕ) → n < 256 → length (decimal n) ≤ position_limit
position_length n h = decimal_few 2 n (omega arith)

pub answer_least : (x : Answer) → 2 ≤ length (line (answer_word x) (answer_fields x))
unfolding answer_word answer_fields line ascii
answer_least (Given verdict received) = simp length-append (omega arith)
answer_least (Refused number) = simp length-append (omega arith)

pub answer_length : (x : Answer) → position_of x < 256 → length (line (answer_word x) (answer_fields x)) ≤ answer_limit
unfolding answer_word answer_fields line ascii
answer_length (Given verdict received) h =
    simp length-append
    (omega (arith, verdict_bounds verdict, decimal_length received.receiver, hexadecimal_length received.tag, position_length received.position h))
answer_length (Refused number) h = simp length-append (omega (arith, decimal_length number))

pub step_length : (step code p o : ℕ) (x : Answer) → position_of x < 256 → length (step_line step code p o x) ≤ line_limit
step_length step code p o x h =
    rw (← step_text step code p o x, length-append) (omega (arith, access_length step code p o, answer_length x h))

pub heading_length : length heading ≤ line_limit
unfolding heading line ascii
heading_length = omega arith

pub short_length : (step : ℕ) → length (short_line step) ≤ line_limit
unfolding short_line line ascii
short_length step = simp length-append (omega (arith, decimal_length step))

pub total_length : (records alerts refused : ℕ) → length (total_line records alerts refused) ≤ line_limit
unfolding total_line line ascii
total_length records alerts refused =
    simp length-append (omega (arith, decimal_length records, decimal_length alerts, decimal_length refused))

pub policy_length : (number : ℕ) → length (policy_line number) ≤ line_limit
unfolding policy_line line ascii
policy_length number = simp length-append (omega (arith, decimal_length number))
