-- How it is worked out: private contracts. A pass keeps the session that the kept records leave, and tries the rest on a second one, of
-- which only the rows that the trace names are copied.
use Rattle.std.specs.Prelude.{ℕ, ◌+◌, ◌*◌, ◌%◌, ◌≤◌, ◌<◌, ◌≡◌, Bool, true, not, ◌&&◌, List, leb, eqb, length, take, drop}
use Rattle.lists.specs.Lists.{every}
use Rattle.answers.specs.Answers.{accepted}
use Rattle.image.specs.Image.{check_of, policy_in}
use Rattle.session.specs.Limits.{session_length}
use Rattle.session.specs.Session.{start_of}
use Rattle.records.specs.Records.{record_length}
use Rattle.monitor.specs.Steps.{step_effect}
use Rattle.monitor.specs.Runs.{run_answers, run_effect}
use Rattle.trim.specs.Cuts.{pass}
use Rattle.trim.specs.Trims.{trim_limit, record_at, records_at, cut_counts, last_of, front_of, kept_front, kept_of}

-- the whole record is in the trace
unfoldable pub in_trace : List ℕ → ℕ → Bool
in_trace t k = leb (k * record_length + record_length) (length t)

-- whole records, 1 to 256 of them
unfoldable pub whole_trace : List ℕ → Bool
whole_trace t = eqb (length t % record_length) 0 && (not (eqb (length t) 0) && leb (length t) (trim_limit * record_length))

-- no record of the trace changes what stands behind the first m numbers of a session
abbrev pub Leaves : List ℕ → ℕ → Type 0
Leaves t m = (s : List ℕ) (k : ℕ) → drop m (step_effect s (record_at t k)) ≡ drop m s

-- the records at these positions on the session s leave s', if each is accepted
pub record Replayed (s t ks s' : List ℕ) (r : Bool) : Type 0 where
  pub told : r ≡ every accepted (run_answers s (records_at t ks))
  pub left : r ≡ true → s' ≡ run_effect s (records_at t ks)
  pub long : length s' ≡ length s
  pub stays : (m : ℕ) → Leaves t m → drop m s' ≡ drop m s

-- whether the cut of these positions and the last counts on the session s, which leaves s'
pub record Tried (s t ks : List ℕ) (last : ℕ) (s' : List ℕ) (r : Bool) : Type 0 where
  pub told : r ≡ cut_counts s t last ks
  pub long : length s' ≡ length s
  pub stays : (m : ℕ) → Leaves t m → drop m s' ≡ drop m s

-- two sessions that are the same behind the first m numbers, and stay so
pub record Paired (before work t : List ℕ) (m : ℕ) : Type 0 where
  pub even : length before ≡ length work
  pub wide : m ≤ length before
  pub leaves : Leaves t m
  pub alike : drop m work ≡ drop m before

-- and a cut that counts on the first: the first n positions, and the last one
pub record Passable (before work t ps : List ℕ) (n last m : ℕ) : Type 0 where
  pub paired : Paired before work t m
  pub room : n ≤ length ps
  pub fits : every (in_trace t) (take n ps) ≡ true
  pub last_fits : in_trace t last ≡ true
  pub small : last < trim_limit
  pub counts : cut_counts before t last (take n ps) ≡ true

-- the positions that a pass leaves at the front, how many they are, and the second session
pub record Passed (before t ps : List ℕ) (n last m : ℕ) (ps' work' : List ℕ) (r : ℕ) : Type 0 where
  pub fewer : r ≤ n
  pub is : take r ps' ≡ pass (cut_counts before t last) (take n ps)
  pub alike : drop m work' ≡ drop m before

-- a trace of whole records that counts on the session of an accepted image, all positions in front of the last, and a second session
-- that is the same behind the first m numbers
pub record Trimmable (image t ps before work : List ℕ) (last m : ℕ) : Type 0 where
  pub ok : check_of image ≡ 0
  pub first : length before ≡ session_length
  pub second : length work ≡ session_length
  pub wide : m ≤ session_length
  pub leaves : Leaves t m
  pub alike : drop m work ≡ drop m (start_of (policy_in image))
  pub ends : last ≡ last_of t
  pub last_fits : in_trace t last ≡ true
  pub small : last < trim_limit
  pub room : length ps ≡ trim_limit
  pub front : take last ps ≡ front_of t
  pub counts : cut_counts (start_of (policy_in image)) t last (front_of t) ≡ true

-- the positions that the passes leave at the front, and how many they are
pub record Kept (image t ps' : List ℕ) (last r : ℕ) : Type 0 where
  pub fewer : r ≤ last
  pub is : take r ps' ≡ kept_front (start_of (policy_in image)) t

-- the whole trace counts: the kept positions at the front, and how many they are
pub record Found (image t ps' : List ℕ) (r : ℕ) : Type 0 where
  pub counts : cut_counts (start_of (policy_in image)) t (last_of t) (front_of t) ≡ true
  pub fewer : r ≤ trim_limit
  pub is : take r ps' ≡ kept_of (start_of (policy_in image)) t
