-- The numbers of the paper's section "Policy image", each named once, and the tests of a container's kind.
use Rattle.std.specs.Prelude.{ℕ, ◌+◌, ◌*◌, ◌^◌, Bool, eqb}
use Rattle.rules.specs.Sets.{atom}

-- ---- "kind (8 bits: 1 file, 2 volatile, 3 process)"; in a session 0 is a free row

abbrev pub free_kind : ℕ
free_kind = 0

abbrev pub file_kind : ℕ
file_kind = 1

abbrev pub volatile_kind : ℕ
volatile_kind = 2

abbrev pub process_kind : ℕ
process_kind = 3

-- "Kind 4, in image and session, is a guarded file, treated as a file elsewhere" (change request No. 9)
abbrev pub guarded_kind : ℕ
guarded_kind = 4

-- the last of the kinds
abbrev pub last_kind : ℕ
last_kind = guarded_kind

-- ---- sets of kinds ("One table of codes gives the kind that each code needs", the paper, "Operations"): kind k is worth 2 to the k, as
-- atom k in a tag. The only place that says which kinds serve as what.

-- the kind k is one of the set
unfoldable pub kind_in : ℕ → ℕ → Bool
kind_in kinds k = eqb (atom kinds k) 1

-- what is no operation record needs none
abbrev pub no_kinds : ℕ
no_kinds = 0

-- "free"
abbrev pub free_kinds : ℕ
free_kinds = 2 ^ free_kind

-- "file": a guarded one too
abbrev pub file_kinds : ℕ
file_kinds = 2 ^ file_kind + 2 ^ guarded_kind

-- "file, volatile": what a process reads, writes and appends to
abbrev pub store_kinds : ℕ
store_kinds = file_kinds + 2 ^ volatile_kind

-- what an end needs: its own process
abbrev pub process_kinds : ℕ
process_kinds = 2 ^ process_kind

-- "0 free, else as in the image": the kinds of a container in use
abbrev pub used_kinds : ℕ
used_kinds = store_kinds + process_kinds

-- ---- the tests of a kind

unfoldable pub is_free : ℕ → Bool
is_free k = eqb k free_kind

unfoldable pub is_guarded : ℕ → Bool
is_guarded k = eqb k guarded_kind

unfoldable pub is_volatile : ℕ → Bool
is_volatile k = eqb k volatile_kind

unfoldable pub is_process : ℕ → Bool
is_process k = eqb k process_kind

unfoldable pub is_file : ℕ → Bool
is_file k = kind_in file_kinds k

unfoldable pub is_store : ℕ → Bool
is_store k = kind_in store_kinds k

unfoldable pub used_kind : ℕ → Bool
used_kind k = kind_in used_kinds k

-- ---- "atom (8 bits: 0 to 31, 255 none)"; "Rule number 65535 is the unrestricted rule"

abbrev pub no_atom : ℕ
no_atom = 255

abbrev pub unrestricted_number : ℕ
unrestricted_number = 65535

-- the owner of a rule is "a declared user or 65535 for nobody"

abbrev pub no_owner : ℕ
no_owner = 65535

-- ---- the sections: how many there are, how many records at most, and how many bytes each has

abbrev pub section_count : ℕ
section_count = 4

abbrev pub container_limit : ℕ
container_limit = 256

abbrev pub user_limit : ℕ
user_limit = 16

abbrev pub rule_limit : ℕ
rule_limit = 256

abbrev pub mixture_total : ℕ
mixture_total = 2048

abbrev pub container_size : ℕ
container_size = 6

abbrev pub user_size : ℕ
user_size = 2

abbrev pub rule_size : ℕ
rule_size = 6

abbrev pub mixture_size : ℕ
mixture_size = 8

-- ---- fields: the bytes of a number of 8 and of 16 bits; the places in a record of a container, and of a rule

abbrev pub size8 : ℕ
size8 = 1

abbrev pub size16 : ℕ
size16 = 2

abbrev pub container_kind_at : ℕ
container_kind_at = 0

abbrev pub container_atom_at : ℕ
container_atom_at = 1

abbrev pub container_permit_at : ℕ
container_permit_at = 2

abbrev pub container_run_at : ℕ
container_run_at = 4

abbrev pub rule_first_at : ℕ
rule_first_at = 0

abbrev pub rule_count_at : ℕ
rule_count_at = 2

abbrev pub rule_owner_at : ℕ
rule_owner_at = 4

-- ---- "Every image now leads with a 16-bit 5" (change request No. 10), "then four pairs of 16-bit offset and length .., so 18 bytes"; "At
-- most 20,480 bytes"; "Any output for a normal image must hold 19,506 bytes" (change request No. 10)

abbrev pub leading_number : ℕ
leading_number = 5

abbrev pub pair_size : ℕ
pair_size = 2 * size16

-- where the offset of section k stands, and its length
abbrev pub offset_at : ℕ → ℕ
offset_at k = size16 + pair_size * k

abbrev pub size_at : ℕ → ℕ
size_at k = size16 + size16 + pair_size * k

-- the leading number, and a pair for each section
abbrev pub header_size : ℕ
header_size = size16 + section_count * pair_size

abbrev pub image_limit : ℕ
image_limit = 20480

-- the header, and each section with all the records that it may have
abbrev pub output_bound : ℕ
output_bound =
    header_size + container_limit * container_size + user_limit * user_size + rule_limit * rule_size + mixture_total * mixture_size
