-- A text handed on, and a file read, call by call: what is done so far.
use Rattle.std.proofs.Common.{◌≡◌, ℕ, ◌+◌, ◌-◌, ◌<◌, ◌≤◌, Option, Some, None, Result, Ok, Err, Bool, true, false, List, ◌++◌, length, take, drop, sym, refl, ap, ◌∙◌, subst, inl, inr}
use Rattle.std.proofs.Common.{arith, length-drop, length-take, length-take-le, take_all, take-add}
use lib.Seq.{take-length, take-append-add, take-append-le}
use borrow.Rule.Slice.PartMut.{mid_of, post_of, put_mid, take_put, same_len_mid}
use Rattle.lists.proofs.Bools.{never}
use Rattle.std.specs.declared.fs.File.{File}
use Rattle.std.specs.Fd.{file_raw_fd}
use Rattle.files.specs.declared.Failure.{Failure}
use Rattle.files.specs.declared.Part.{Part}
use Rattle.files.specs.Calls.{DoneOrTold, Handed, handed_none, handed_then, handed_as, Taken, taken_none, taken_then}
use Rattle.files.specs.Calls.{taken_as, EndsAt, Absent, WroteSome, ReadSome, PartRead, FileLoaded, OpenedAs, OpenedFile}

-- ---- done, or told

pub done_as : {A : Type 0} {P Q : A → Type 0} (r : Result A Failure) → ((a : A) → P a → Q a) → DoneOrTold r P → DoneOrTold r Q
done_as (Ok a) f d = f a d
done_as (Err e) f d = d

-- ---- a text handed on

-- of these bytes the first `done` are handed on
pub record Writing (bytes : List ℕ) (before after done : ℕ) : Type 0 where
  pub within : done ≤ length bytes
  pub handed : Handed (take done bytes) before after

pub writing_start : (bytes : List ℕ) (a : ℕ) → Writing bytes a a 0
writing_start bytes a = record { within = omega arith; handed = handed_none a }

module _ (bytes : List ℕ) (a b done : ℕ) (h : Writing bytes a b done) where
  pub writing_next : {m : Option ℕ} {n k : ℕ} → m ≡ Some n → WroteSome (Ok m) (take (length bytes - done) (drop done bytes)) b k → Writing bytes a k (done + n)
  writing_next {m} {n} {k} e w = by (rw e at w)
    where
      rest : take (length bytes - done) (drop done bytes) ≡ drop done bytes
      rest = take_all (length bytes - done) (drop done bytes) (omega (arith, length-drop done bytes))

      by : (n ≤ length (take (length bytes - done) (drop done bytes))) × Handed (take n (take (length bytes - done) (drop done bytes))) b k → Writing bytes a k (done + n)
      by v =
          record {
            within = omega (arith, h.within, v.0, ap length rest, length-drop done bytes);
            handed = handed_as (sym (take-add done n bytes)) (handed_then h.handed (handed_as (ap (take n) rest) v.1));
          }

  pub writing_again : {m : Option ℕ} {k : ℕ} → m ≡ None → WroteSome (Ok m) (take (length bytes - done) (drop done bytes)) b k → Writing bytes a k done
  writing_again {m} {k} e w = by (rw e at w)
    where
      by : k ≡ b → Writing bytes a k done
      by v = subst (λ (x : ℕ). Writing bytes a x done) (sym v) h

  pub writing_end : done ≡ length bytes → Handed bytes a b
  writing_end e = handed_as (ap (λ (n : ℕ). take n bytes) e ∙ take-length bytes) h.handed

-- ---- a part of a file

-- the first `done` bytes of the buffer are read
pub record Reading (name begun : List ℕ) (before : ℕ) (buffer : List ℕ) (after done : ℕ) : Type 0 where
  pub within : done ≤ length buffer
  pub long : length buffer ≡ length begun
  pub taken : Taken name (take done buffer) before after

pub reading_start : (name buffer : List ℕ) (a : ℕ) → Reading name buffer a buffer a 0
reading_start name buffer a = record { within = omega arith; long = refl; taken = taken_none name a }

module _ (name begun : List ℕ) (a : ℕ) (buffer : List ℕ) (b done : ℕ) (h : Reading name begun a buffer b done) where
  pub reading_full : done ≡ length buffer → PartRead name (record { size = done; last = false }) buffer a b
  reading_full e = record { within = h.within; full = λ _. e; taken = h.taken; ends = λ l. never l }

  module _ (ys : List ℕ) (k : ℕ) (l : length ys ≡ length (mid_of done (length buffer - done) buffer)) where
    room : length ys ≡ length buffer - done
    room = l ∙ length-take (length buffer - done) (drop done buffer) ∙ omega (arith, length-drop done buffer)

    same : length (put_mid done (length buffer - done) buffer ys) ≡ length buffer
    same = same_len_mid done (length buffer - done) buffer ys l

    front : (n : ℕ) → n ≤ length ys → take (done + n) (put_mid done (length buffer - done) buffer ys) ≡ take done buffer ++ take n ys
    front n v =
        let d : length (take done buffer) ≡ done = length-take-le done buffer h.within in
        ap (λ (x : ℕ). take (x + n) (put_mid done (length buffer - done) buffer ys)) (sym d)
        ∙ take-append-add (take done buffer) (ys ++ post_of done (length buffer - done) buffer) n
        ∙ ap (λ (x : List ℕ). take done buffer ++ x) (take-append-le n ys (post_of done (length buffer - done) buffer) v)

    pub reading_next : {m : Option ℕ} {n : ℕ} → m ≡ Some n → ReadSome (Ok m) name ys b k → Reading name begun a (put_mid done (length buffer - done) buffer ys) k (done + n)
    reading_next {m} {n} e w = by (rw e at w)
      where
        by : (n ≤ length ys) × Taken name (take n ys) b k × (n ≡ 0 → 0 < length ys → EndsAt name k) → Reading name begun a (put_mid done (length buffer - done) buffer ys) k (done + n)
        by v =
            record {
              within = omega (arith, v.0, room, same, h.within);
              long = same ∙ h.long;
              taken = taken_as (sym (front n v.0)) (taken_then h.taken v.1);
            }

    pub reading_again : {m : Option ℕ} → m ≡ None → ReadSome (Ok m) name ys b k → Reading name begun a (put_mid done (length buffer - done) buffer ys) k done
    reading_again {m} e w = by (rw e at w)
      where
        by : k ≡ b → Reading name begun a (put_mid done (length buffer - done) buffer ys) k done
        by v =
            record {
              within = omega (arith, same, h.within);
              long = same ∙ h.long;
              taken =
                  subst (λ (x : ℕ). Taken name (take done (put_mid done (length buffer - done) buffer ys)) a x) (sym v)
                  (taken_as (sym (take_put done (length buffer - done) buffer ys h.within)) h.taken);
            }

    -- no byte where there was room: the file ends
    pub reading_last : {m : Option ℕ} {n : ℕ} → (done ≡ length buffer → ⊥) → m ≡ Some n → n ≡ 0 → ReadSome (Ok m) name ys b k
        → PartRead name (record { size = done; last = true }) (put_mid done (length buffer - done) buffer ys) a k
    reading_last {m} {n} u e z w = by (rw e at w) (reading_next e w)
      where
        by : (n ≤ length ys) × Taken name (take n ys) b k × (n ≡ 0 → 0 < length ys → EndsAt name k) → Reading name begun a (put_mid done (length buffer - done) buffer ys) k (done + n)
            → PartRead name (record { size = done; last = true }) (put_mid done (length buffer - done) buffer ys) a k
        by v r =
            let e : done + n ≡ done = omega arith in
            record {
              within = omega (arith, r.within);
              full = λ x. never (sym x);
              taken = taken_as (ap (λ (x : ℕ). take x (put_mid done (length buffer - done) buffer ys)) e) r.taken;
              ends = λ _. v.2 z (omega (arith, room, h.within, u));
            }

-- ---- a file by name

pub opened_as : {r : Option File} {file : File} (name : List ℕ) → r ≡ Some file → OpenedFile (Ok r) name → OpenedAs name (file_raw_fd file)
opened_as name e h = rw e at h

pub missing_as : {r : Option File} (name : List ℕ) → r ≡ None → OpenedFile (Ok r) name → Absent name
missing_as name e h = rw e at h

-- a part that begins with the file's first byte: the file, or as much of it as there is room for
pub loaded_part : (name : List ℕ) (r : Part) (buffer : List ℕ) (b : ℕ) → PartRead name r buffer 0 b → FileLoaded name (take r.size buffer) (length buffer)
loaded_part name r buffer b h = by r.last refl
  where
    by : (x : Bool) → r.last ≡ x → FileLoaded name (take r.size buffer) (length buffer)
    by true e = inl (inl (record { end = b; taken = h.taken; ends = h.ends e }))
    by false e = inr (record { end = b; taken = h.taken }, length-take r.size buffer ∙ omega (arith, h.full e))
