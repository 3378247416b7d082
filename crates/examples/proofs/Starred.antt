-- The starred examples of the paper's section "Checked examples", in its order: one table, each row by computation.
use Prim.Native.Nat.{ℕ, ◌+◌, ◌^◌}
use mathlib.Core.Path.{◌≡◌, refl}
use mathlib.Core.Bool.{true, false}
use mathlib.Core.List.{List, [], ◌∷◌, map}
use lib.Bits.{bit_or, or_zero_r}
use lib.ListN.{length}
use Rattle.rules.specs.Sets.{holds, data_of}
use Rattle.rules.specs.Rules.{covers, distinct, held_in, unheld_in, insert, sort, normal, intersections, meet}
use Rattle.lists.specs.Lists.{elem, joined}
use Rattle.std.specs.Prelude.{None}
use Rattle.rules.specs.Answers.{data_width, bounded_if_fits}
use Rattle.fields.specs.Bytes.{bytes_of}
use Rattle.image.specs.Image.{offset, section_length}
use Rattle.image.specs.Normal.{container_bytes, span_bytes, spans_of, pair, header, framed, encode}
use Rattle.session.specs.Rows.{Row}
use Rattle.session.specs.Session.{start_of}
use Rattle.chains.specs.Table.{exec_row}
use Rattle.answers.specs.Answers.{quiet, refused}
use Rattle.records.specs.Codes.{read_code, write_code, append_code, exec_code, fork_code}
use Rattle.records.specs.Records.{no_user}
use Rattle.monitor.specs.Runs.{run_answers}
use Rattle.monitor.proofs.Examples.{record_of, P, Q, R, checked_runs, exec_holding_lem, exec_keeping_lem}
use Rattle.monitor.proofs.PaperTrace.{image}
use Rattle.matrix.specs.Verdicts.{matrix_verdict}
use Rattle.lists.specs.Counting.{count_from}
use Rattle.derivation.specs.Derived.{permit_of, derived_image}
use Rattle.matrix.proofs.Examples.{flows}
use Rattle.derivation.proofs.Examples.{permits, image_is, image_length, image_offsets, image_sizes}

-- document 000's matrix: "read rows 5, 3, 2, write rows 1, 2, 10, 4 objects"
abbrev reads : List ℕ
reads = 5 ∷ 3 ∷ 2 ∷ []

abbrev writes : List ℕ
writes = 1 ∷ 2 ∷ 10 ∷ []

pub record Starred : Type 0 where
  -- "Tag {0,2}, rule {0,1},{2}: not covered."
  pub two_mixtures : covers ((2 ^ 0 + 2 ^ 1) ∷ 2 ^ 2 ∷ []) (2 ^ 0 + 2 ^ 2) ≡ false
  -- "Empty tag: not covered by no mixture; covered by the empty mixture."
  pub no_mixture : covers [] 0 ≡ false
  pub empty_mixture : covers (0 ∷ []) 0 ≡ true
  -- "Normal form of 3, 2, 3, 0 is 3."
  pub normal_form : normal (3 ∷ 2 ∷ 3 ∷ 0 ∷ []) ≡ 3 ∷ []
  -- "Meet of 62, 61, 59, 55 with 47, 31: 23, 27, 29, 30, 39, 43, 45, 46."
  pub meet_of_eight : meet (62 ∷ 61 ∷ 59 ∷ 55 ∷ []) (47 ∷ 31 ∷ []) ≡ 23 ∷ 27 ∷ 29 ∷ 30 ∷ 39 ∷ 43 ∷ 45 ∷ 46 ∷ []
  -- "Meet of 62, 61, 59 with 55, 47, 31 has nine: 15."
  pub meet_of_nine : length (meet (62 ∷ 61 ∷ 59 ∷ []) (55 ∷ 47 ∷ 31 ∷ [])) ≡ 9
  pub nine_do_not_fit : bounded_if_fits (meet (62 ∷ 61 ∷ 59 ∷ []) (55 ∷ 47 ∷ 31 ∷ [])) ≡ None
  -- "Exec of a file holding 1 and 34: p holds 33", "for a p that held nothing" (change request No. 2)
  pub exec_tag : (p o : Row) (v : List ℕ) (u : ℕ) → p.tag ≡ 0 → o.tag ≡ 2 ^ 1 + 2 ^ 34 → (exec_row p o v u).tag ≡ 2 ^ 33
  -- and for a p that held data atom 3 and running atom 35: it holds 3 and 33
  pub exec_tag_kept : (p o : Row) (v : List ℕ) (u : ℕ) → p.tag ≡ 2 ^ 3 + 2 ^ 35 → o.tag ≡ 2 ^ 1 + 2 ^ 34 → (exec_row p o v u).tag ≡ 2 ^ 3 + 2 ^ 33
  -- "Reading a file holding only 33 adds nothing."
  pub read_tag : (t : ℕ) → bit_or t (data_of data_width (2 ^ 33)) ≡ t
  -- the same three and 15 as runs of records from a session's start
  pub exec_run : run_answers (start_of P) (record_of exec_code 3 1 0 ∷ record_of append_code 3 0 no_user ∷ record_of exec_code 4 0 0 ∷ [])
      ≡ quiet 3 (2 ^ 34) 0 ∷ quiet 0 (2 ^ 1 + 2 ^ 34) 0 ∷ quiet 4 (2 ^ 33) 0 ∷ []
  pub exec_run_kept : run_answers (start_of R)
      (record_of exec_code 3 1 0
      ∷ record_of append_code 3 0 no_user
      ∷ record_of exec_code 4 2 0
      ∷ record_of read_code 4 2 no_user
      ∷ record_of exec_code 4 0 0
      ∷ [])
      ≡ quiet 3 (2 ^ 34) 0 ∷ quiet 0 (2 ^ 1 + 2 ^ 34) 0 ∷ quiet 4 (2 ^ 35) 0 ∷ quiet 4 (2 ^ 3 + 2 ^ 35) 0 ∷ quiet 4 (2 ^ 3 + 2 ^ 33) 0 ∷ []
  pub read_run : run_answers (start_of P)
      (record_of exec_code 3 0 0 ∷ record_of write_code 3 2 no_user ∷ record_of read_code 4 1 no_user ∷ record_of read_code 4 2 no_user ∷ [])
      ≡ quiet 3 (2 ^ 33) 0 ∷ quiet 2 (2 ^ 33) 0 ∷ quiet 4 (2 ^ 2) 0 ∷ quiet 4 (2 ^ 2) 0 ∷ []
  pub meet_run : run_answers (start_of Q) (record_of read_code 2 0 no_user ∷ record_of read_code 2 1 no_user ∷ []) ≡ quiet 2 0 0 ∷ refused 15 ∷ []
  -- "Fork onto p itself: 13."
  pub fork_itself_lem : run_answers (start_of P) (record_of fork_code 3 3 no_user ∷ []) ≡ refused 13 ∷ []
  -- "Document 000's matrix ..: 3 flows, first 0 to 3."
  pub matrix_flows : matrix_verdict reads writes 4 ≡ record { number = 1; count = 3; source = 0; target = 3 }
  -- "Permit rules 5; 3; 4; 10."
  pub matrix_permits : map (λ b. normal (permit_of reads writes b)) (count_from 0 4) ≡ (5 ∷ []) ∷ (3 ∷ []) ∷ (4 ∷ []) ∷ (10 ∷ []) ∷ []
  -- "the matrix example grows to 118" (change request No. 10): pairs (18,42), (60,2), (62,24), (86,32), a rule record having 6 bytes
  pub matrix_image : length (derived_image reads writes 4) ≡ 118
  pub matrix_bytes : derived_image reads writes 4 ≡ image
  pub matrix_offsets : map (offset (derived_image reads writes 4)) (0 ∷ 1 ∷ 2 ∷ 3 ∷ []) ≡ 18 ∷ 60 ∷ 62 ∷ 86 ∷ []
  pub matrix_sizes : map (section_length (derived_image reads writes 4)) (0 ∷ 1 ∷ 2 ∷ 3 ∷ []) ≡ 42 ∷ 2 ∷ 24 ∷ 32 ∷ []

-- the derived image, byte by byte
bytes : derived_image reads writes 4 ≡ image
unfolding encode framed header pair container_bytes span_bytes spans_of bytes_of joined
bytes = image_is

pub starred : Starred
unfolding covers holds normal sort insert unheld_in held_in distinct elem meet intersections bounded_if_fits data_of
starred =
    record {
      two_mixtures = refl;
      no_mixture = refl;
      empty_mixture = refl;
      normal_form = refl;
      meet_of_eight = refl;
      meet_of_nine = refl;
      nine_do_not_fit = refl;
      exec_tag = exec_holding_lem;
      exec_tag_kept = exec_keeping_lem;
      read_tag = λ t. or_zero_r t;
      exec_run = checked_runs.exec_holding;
      exec_run_kept = checked_runs.exec_keeping;
      read_run = checked_runs.read_holding;
      meet_run = checked_runs.meet_over;
      fork_itself_lem = checked_runs.fork_itself;
      matrix_flows = flows;
      matrix_permits = permits;
      matrix_image = image_length;
      matrix_bytes = bytes;
      matrix_offsets = image_offsets;
      matrix_sizes = image_sizes;
    }
