-- What the system was asked and how it answered. The reads, writes and openings of std have no contract on bytes, so each of these says
-- what one call did, in one place (`write_some`, `read_some`, `open`; `tell` for standard error), and everything above is proved from the
-- laws below. The fields are private: a program's proof can neither make one of these up nor take one apart, it can only put them
-- one behind the other.
use Rattle.std.specs.Prelude.{◌≡◌, ℕ, ◌+◌, ◌%◌, ◌^◌, ◌<◌, ◌≤◌, Option, Some, None, Result, Ok, Err, true, false, ◌⊎◌, List, [], ◌++◌, length, take, ℤ}
use Rattle.std.proofs.Common.{arith, subst, length-append, length-take}
use Rattle.std.specs.Fd.{file_raw_fd}
use Rattle.std.specs.declared.fs.File.{File}
use Rattle.files.specs.declared.Failure.{Failure}
use Rattle.files.specs.declared.Part.{Part}

-- ---- standard error

-- a failure was told on standard error
pub record Told : Type 0 where
  told : Unit {0}

-- TO BE BELIEVED, cited by the proof of `tell` alone
pub told_by_system : Told
told_by_system = record { told = tt }

-- all went well and this is so of what is answered, or not and the failure was told
abbrev pub DoneOrTold : {A : Type 0} → Result A Failure → (A → Type 0) → Type 0
DoneOrTold (Ok a) Done = Done a
DoneOrTold (Err e) Done = Told

-- ---- standard output

-- standard output took this text, and nothing else, while the count of its bytes went from `before` to `after`
pub record Handed (text : List ℕ) (before after : ℕ) : Type 0 where
  count : after % 2 ^ 64 ≡ (before + length text) % 2 ^ 64

-- TO BE BELIEVED, cited by the proof of `write_some` alone: the bytes that a write says it took
pub handed_by_system : (bytes : List ℕ) (n before : ℕ) → n ≤ length bytes → Handed (take n bytes) before ((before + n) % 2 ^ 64)
handed_by_system bytes n before h = record { count = omega (arith, length-take n bytes) }

pub handed_none : (n : ℕ) → Handed [] n n
handed_none n = record { count = omega arith }

pub handed_then : {x y : List ℕ} {a b c : ℕ} → Handed x a b → Handed y b c → Handed (x ++ y) a c
handed_then {x} {y} {a} {b} {c} h k = record { count = omega (arith, h.count, k.count, length-append x y) }

pub handed_as : {x y : List ℕ} {a b : ℕ} → x ≡ y → Handed x a b → Handed y a b
handed_as {a = a} {b = b} e h = subst (λ (t : List ℕ). Handed t a b) e h

-- ---- files

-- this descriptor is that of the file of this name, and its next byte is the first
pub record OpenedAs (name : List ℕ) (fd : ℤ) : Type 0 where
  told : Unit {0}

-- there is no file of this name
pub record Absent (name : List ℕ) : Type 0 where
  told : Unit {0}

-- the file of this name has these bytes, and no other, between these two places
pub record Taken (name bytes : List ℕ) (before after : ℕ) : Type 0 where
  count : after % 2 ^ 64 ≡ (before + length bytes) % 2 ^ 64

-- the file of this name ends at this place
pub record EndsAt (name : List ℕ) (at : ℕ) : Type 0 where
  told : Unit {0}

-- TO BE BELIEVED, cited by the proofs of `open` and of `read_some` alone
pub opened_by_system : (name : List ℕ) (fd : ℤ) → OpenedAs name fd
opened_by_system name fd = record { told = tt }

pub absent_by_system : (name : List ℕ) → Absent name
absent_by_system name = record { told = tt }

pub taken_by_system : (name buffer : List ℕ) (n before : ℕ) → n ≤ length buffer → Taken name (take n buffer) before ((before + n) % 2 ^ 64)
taken_by_system name buffer n before h = record { count = omega (arith, length-take n buffer) }

pub ends_by_system : (name : List ℕ) (at : ℕ) → EndsAt name at
ends_by_system name at = record { told = tt }

pub taken_none : (name : List ℕ) (n : ℕ) → Taken name [] n n
taken_none name n = record { count = omega arith }

pub taken_then : {name x y : List ℕ} {a b c : ℕ} → Taken name x a b → Taken name y b c → Taken name (x ++ y) a c
taken_then {name} {x} {y} {a} {b} {c} h k = record { count = omega (arith, h.count, k.count, length-append x y) }

pub taken_as : {name x y : List ℕ} {a b : ℕ} → x ≡ y → Taken name x a b → Taken name y a b
taken_as {name} {a = a} {b = b} e h = subst (λ (t : List ℕ). Taken name t a b) e h

-- the bytes of a file, from its first to a place
pub record FrontOf (name bytes : List ℕ) : Type 0 where
  pub end : ℕ
  pub taken : Taken name bytes 0 end

-- all bytes of a file
pub record WholeFile (name bytes : List ℕ) : Type 0 where
  pub end : ℕ
  pub taken : Taken name bytes 0 end
  pub ends : EndsAt name end

-- the bytes of a file, none where it is missing
abbrev pub FileIs : List ℕ → List ℕ → Type 0
FileIs name bytes = WholeFile name bytes ⊎ (Absent name × (bytes ≡ []))

-- ---- what the functions of this crate answer

-- a write of these bytes
abbrev pub WroteSome : Result (Option ℕ) Failure → List ℕ → ℕ → ℕ → Type 0
WroteSome (Ok (Some n)) bytes before after = (n ≤ length bytes) × Handed (take n bytes) before after
WroteSome (Ok None) bytes before after = after ≡ before
WroteSome (Err e) bytes before after = Told

-- a read, which left this in the buffer: none where there was room is the end of the file
abbrev pub ReadSome : Result (Option ℕ) Failure → List ℕ → List ℕ → ℕ → ℕ → Type 0
ReadSome (Ok (Some n)) name buffer before after = (n ≤ length buffer) × Taken name (take n buffer) before after × (n ≡ 0 → 0 < length buffer → EndsAt name after)
ReadSome (Ok None) name buffer before after = after ≡ before
ReadSome (Err e) name buffer before after = Told

-- a file asked for by name
abbrev pub OpenedFile : Result (Option File) Failure → List ℕ → Type 0
OpenedFile (Ok (Some file)) name = OpenedAs name (file_raw_fd file)
OpenedFile (Ok None) name = Absent name
OpenedFile (Err e) name = Told

-- a part of a file at the front of the buffer: all of the buffer unless it is the last
pub record PartRead (name : List ℕ) (r : Part) (buffer : List ℕ) (before after : ℕ) : Type 0 where
  pub within : r.size ≤ length buffer
  pub full : r.last ≡ false → r.size ≡ length buffer
  pub taken : Taken name (take r.size buffer) before after
  pub ends : r.last ≡ true → EndsAt name after

-- a file in a buffer with this much room: all of it, or so many of its first bytes as there is room for
abbrev pub FileLoaded : List ℕ → List ℕ → ℕ → Type 0
FileLoaded name bytes room = FileIs name bytes ⊎ (FrontOf name bytes × (length bytes ≡ room))
