-- The containers of the derived policy as they are written, row by row, and read back.
use Prim.Native.Nat.{ℕ, ◌+◌, ◌*◌, ◌≤◌, ◌<◌}
use mathlib.Core.Path.{◌≡◌, sym, ap, ◌∙◌}
use mathlib.Core.List.{List, [], map}
use native.Mathlib.Omega.{arith}
use native.Mathlib.Nat.{zero-add}
use lib.ListN.{length, get_or, replicate, length-map, length-replicate, get_or-replicate}
use Rattle.lists.specs.Lists.{joined}
use Rattle.lists.specs.Counting.{count_from}
use Rattle.lists.proofs.Counting.{count_length, count_at}
use Rattle.lists.proofs.Places.{map_at}
use Rattle.fields.specs.Writing.{Wrote}
use Rattle.fields.proofs.ByteLaws.{joined_length}
use Rattle.fields.proofs.RowWriting.{RowsWritten, rows_room, rows_next}
use Rattle.image.specs.Limits.{file_kind, process_kind, no_atom, unrestricted_number, container_size}
use Rattle.image.specs.Policy.{Container}
use Rattle.image.specs.Normal.{container_bytes}
use Rattle.image.proofs.Encode.{container_wide}
use Rattle.derivation.specs.Derived.{object_file, subject_process}

-- a section of containers that is written one by one
module _ (cs : List Container) where
  abbrev pub container_rows : List (List ℕ)
  container_rows = map container_bytes cs

  pub containers_size : length (joined container_rows) ≡ length cs * container_size
  containers_size = joined_length container_size container_bytes container_wide cs

  module _ {before out : List ℕ} {start at i : ℕ} (g : RowsWritten container_rows before start out at i) (l : i < length cs) (c : Container) (e : get_or container_rows i [] ≡ container_bytes c) where
    pub container_room : at + container_size ≤ length out
    container_room = omega (arith, rows_room g (omega (arith, length-map cs container_bytes)), ap length e, container_wide c)

    pub container_next : {after : List ℕ} {next : ℕ} → Wrote (container_bytes c) out after at next → RowsWritten container_rows before start after next (i + 1)
    container_next w = rows_next g (omega (arith, length-map cs container_bytes)) (sym e) w

-- ---- the objects

abbrev pub object_files : ℕ → List Container
object_files n = map object_file (count_from 0 n)

pub objects_count : (n : ℕ) → length (object_files n) ≡ n
objects_count n = length-map (count_from 0 n) object_file ∙ count_length 0 n

pub object_row : (n b : ℕ) → b < n → get_or (map container_bytes (object_files n)) b [] ≡ container_bytes (record { kind = file_kind; atom = b; permit = b; run = unrestricted_number })
unfolding object_file
object_row n b l =
    map_at container_bytes (map object_file (count_from 0 n)) b (object_file 0) [] (omega (arith, objects_count n))
    ∙ ap container_bytes (map_at object_file (count_from 0 n) b 0 (object_file 0) (omega (arith, count_length 0 n)) ∙ ap object_file (count_at 0 n b l ∙ zero-add b))

-- ---- the subjects

pub subject_row : (n s : ℕ) → s < n → get_or (map container_bytes (replicate n subject_process)) s []
    ≡ container_bytes (record { kind = process_kind; atom = no_atom; permit = unrestricted_number; run = unrestricted_number })
unfolding subject_process
subject_row n s l =
    map_at container_bytes (replicate n subject_process) s subject_process [] (omega (arith, length-replicate {A = Container} n subject_process))
    ∙ ap container_bytes (get_or-replicate n s subject_process subject_process l)
