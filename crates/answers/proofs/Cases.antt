-- The cases of an answer. Other crates tell answers apart by their tests and by these laws, so that a further case is added here.
use Rattle.std.proofs.Common.{◌≡◌, ℕ, ◌+◌, Bool, true, false, cond, ◌||◌, ◌≢◌, ◌⊎◌, refl, inl, inr, arith, ne_eqb}
use Rattle.lists.proofs.Bools.{clash, refuted}
use Rattle.answers.specs.Refusals.{lent_length}
use Rattle.answers.specs.declared.Answer.{Answer}
use Rattle.answers.specs.declared.Received.{Received}
use Rattle.answers.specs.declared.Answer.TheVariants.{Given, Refused}
use Rattle.answers.specs.declared.Verdict.TheVariants.{Quiet, Alert, Blocked}
use Rattle.answers.specs.Answers.{is_quiet, is_alert, is_blocked, is_refused, accepted, quiet_number, alert_number, blocked_number, answer_number, received_after, answer_with}

-- ---- exactly one of quiet, alert, blocked, refused

-- 1 for a test that is passed
abbrev pub one : Bool → ℕ
one b = cond b 1 0

pub one_case : (a : Answer) → one (is_quiet a) + one (is_alert a) + one (is_blocked a) + one (is_refused a) ≡ 1
one_case (Given Quiet e) = refl
one_case (Given Alert e) = refl
one_case (Given Blocked e) = refl
one_case (Refused n) = refl

pub cases : (a : Answer) → (is_quiet a ≡ true) ⊎ ((is_alert a ≡ true) ⊎ ((is_blocked a ≡ true) ⊎ (is_refused a ≡ true)))
cases (Given Quiet e) = inl refl
cases (Given Alert e) = inr (inl refl)
cases (Given Blocked e) = inr (inr (inl refl))
cases (Refused n) = inr (inr (inr refl))

-- ---- accepted

pub accepted_cases : (a : Answer) → accepted a ≡ (is_quiet a || is_alert a)
accepted_cases (Given Quiet e) = refl
accepted_cases (Given Alert e) = refl
accepted_cases (Given Blocked e) = refl
accepted_cases (Refused n) = refl

pub alert_accepted : (a : Answer) → is_alert a ≡ true → accepted a ≡ true
alert_accepted (Given Quiet e) k = clash k refl
alert_accepted (Given Alert e) k = refl
alert_accepted (Given Blocked e) k = clash k refl
alert_accepted (Refused n) k = clash k refl

pub accepted_given : (a : Answer) → accepted a ≡ true → is_refused a ≡ false
accepted_given (Given v e) k = refl
accepted_given (Refused n) k = clash k refl

-- what is not refused is accepted or blocked, and never both
pub given_cases : (a : Answer) → is_refused a ≡ false → (accepted a ≡ true) ⊎ (is_blocked a ≡ true)
given_cases (Given Quiet e) k = inl refl
given_cases (Given Alert e) k = inl refl
given_cases (Given Blocked e) k = inr refl
given_cases (Refused n) k = clash refl k

pub unaccepted_cases : (a : Answer) → accepted a ≡ false → (is_blocked a ≡ true) ⊎ (is_refused a ≡ true)
unaccepted_cases (Given Quiet e) k = clash refl k
unaccepted_cases (Given Alert e) k = clash refl k
unaccepted_cases (Given Blocked e) k = inl refl
unaccepted_cases (Refused n) k = inr refl

pub blocked_given : (a : Answer) → is_blocked a ≡ true → is_refused a ≡ false
blocked_given (Given v e) k = refl
blocked_given (Refused n) k = clash k refl

pub blocked_unaccepted : (a : Answer) → is_blocked a ≡ true → accepted a ≡ false
blocked_unaccepted (Given Quiet e) k = clash k refl
blocked_unaccepted (Given Alert e) k = clash k refl
blocked_unaccepted (Given Blocked e) k = refl
blocked_unaccepted (Refused n) k = refl

pub accepted_unblocked : (a : Answer) → accepted a ≡ true → is_blocked a ≡ false
accepted_unblocked a k = refuted (is_blocked a) (λ b. clash k (blocked_unaccepted a b))

pub quiet_no_alert : (a : Answer) → is_quiet a ≡ true → is_alert a ≡ false
quiet_no_alert (Given Quiet e) k = refl
quiet_no_alert (Given Alert e) k = clash k refl
quiet_no_alert (Given Blocked e) k = clash k refl
quiet_no_alert (Refused n) k = clash k refl

pub quiet_no_blocked : (a : Answer) → is_quiet a ≡ true → is_blocked a ≡ false
quiet_no_blocked (Given Quiet e) k = refl
quiet_no_blocked (Given Alert e) k = clash k refl
quiet_no_blocked (Given Blocked e) k = clash k refl
quiet_no_blocked (Refused n) k = clash k refl

-- ---- numbers

pub quiet_number_lem : (a : Answer) → is_quiet a ≡ true → answer_number a ≡ quiet_number
quiet_number_lem (Given Quiet e) k = refl
quiet_number_lem (Given Alert e) k = clash k refl
quiet_number_lem (Given Blocked e) k = clash k refl
quiet_number_lem (Refused n) k = clash k refl

pub alert_number_lem : (a : Answer) → is_alert a ≡ true → answer_number a ≡ alert_number
alert_number_lem (Given Quiet e) k = clash k refl
alert_number_lem (Given Alert e) k = refl
alert_number_lem (Given Blocked e) k = clash k refl
alert_number_lem (Refused n) k = clash k refl

pub blocked_number_lem : (a : Answer) → is_blocked a ≡ true → answer_number a ≡ blocked_number
blocked_number_lem (Given Quiet e) k = clash k refl
blocked_number_lem (Given Alert e) k = clash k refl
blocked_number_lem (Given Blocked e) k = refl
blocked_number_lem (Refused n) k = clash k refl

pub other_number : (a : Answer) → answer_number a ≢ alert_number → answer_number a ≢ blocked_number → (is_alert a || is_blocked a) ≡ false
other_number a m n = rw (refuted (is_alert a) (λ k. m (alert_number_lem a k))) (refuted (is_blocked a) (λ k. n (blocked_number_lem a k)))

-- the number of an answer that is not refused tells quiet, alert and blocked from all others
pub record Numbered (a : Answer) : Type 0 where
  pub quiet_alone : answer_number a ≡ quiet_number → is_quiet a ≡ true
  pub alert_alone : answer_number a ≡ alert_number → is_alert a ≡ true
  pub blocked_alone : answer_number a ≡ blocked_number → is_blocked a ≡ true
  pub never9 : answer_number a ≢ lent_length

pub given_numbered : (a : Answer) → is_refused a ≡ false → Numbered a
given_numbered (Given Quiet e) k = record { quiet_alone = λ z. refl; alert_alone = λ z. absurd (omega arith); blocked_alone = λ z. absurd (omega arith); never9 = λ z. omega arith }
given_numbered (Given Alert e) k = record { quiet_alone = λ z. absurd (omega arith); alert_alone = λ z. refl; blocked_alone = λ z. absurd (omega arith); never9 = λ z. omega arith }
given_numbered (Given Blocked e) k = record { quiet_alone = λ z. absurd (omega arith); alert_alone = λ z. absurd (omega arith); blocked_alone = λ z. refl; never9 = λ z. omega arith }
given_numbered (Refused n) k = clash refl k

pub accepted_number : (a : Answer) → accepted a ≡ true → answer_number a ≡ cond (is_alert a) alert_number quiet_number
accepted_number (Given Quiet e) k = refl
accepted_number (Given Alert e) k = refl
accepted_number (Given Blocked e) k = clash k refl
accepted_number (Refused n) k = clash k refl

-- ---- an answer through its number and what was received

-- no refusal has the number of another answer
abbrev pub Apart : Answer → Type 0
Apart a = is_refused a ≡ true → (answer_number a ≢ quiet_number) × (answer_number a ≢ alert_number) × (answer_number a ≢ blocked_number)

-- the number, and what stands where receiver, tag and position were lent, tell the answer
pub answer_back : (a : Answer) → Apart a → (old : Received) → answer_with (answer_number a) (received_after a old) ≡ a
unfolding answer_with
answer_back (Given Quiet e) p old = refl
answer_back (Given Alert e) p old = refl
answer_back (Given Blocked e) p old = refl
answer_back (Refused n) p old = rw (ne_eqb n quiet_number (p refl).0, ne_eqb n alert_number (p refl).1, ne_eqb n blocked_number (p refl).2)

-- a number other than that of a quiet answer, and the number of one
pub number_quiet : (a : Answer) → Apart a → answer_number a ≡ quiet_number → is_quiet a ≡ true
number_quiet (Given Quiet e) p n = refl
number_quiet (Given Alert e) p n = absurd (omega arith)
number_quiet (Given Blocked e) p n = absurd (omega arith)
number_quiet (Refused k) p n = absurd ((p refl).0 n)

pub number_unquiet : (a : Answer) → answer_number a ≢ quiet_number → is_quiet a ≡ false
number_unquiet a n = refuted (is_quiet a) (λ k. n (quiet_number_lem a k))
