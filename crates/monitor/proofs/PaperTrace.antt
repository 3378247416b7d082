-- The paper's listing from bytes to answers: the image of 118 bytes is not refused, and the six records of its trace, on the session
-- that the start fills, are answered as listed.
use Prim.Native.Nat.{ℕ}
use mathlib.Core.Path.{◌≡◌, refl, ap, ◌∙◌}
use mathlib.Core.List.{List, [], ◌∷◌, ◌++◌}
use lib.ListN.{length, replicate}
use Rattle.answers.specs.declared.Answer.{Answer}
use Rattle.records.specs.Traces.{trace_records}
use Rattle.rules.specs.Sets.{atom}
use Rattle.image.specs.Limits.{is_file, is_volatile, is_process, kind_in}
use Rattle.fields.specs.Bytes.{number_in, field, cut, records}
use Rattle.lists.specs.Lists.{every}
use Rattle.lists.specs.Conditions.{first_failed}
use Rattle.image.specs.Policy.{named, owner_good, container_good}
use Rattle.image.specs.Image.{
  container_in,
  span_in,
  rule_in,
  containers_in,
  users_in,
  spans_in,
  mixtures_in,
  rules_in,
  owners_in,
  policy_in,
  offset,
  section_length,
  part,
  image_length_good,
  part_good,
  pairs_good,
  whole_good,
  sections_good,
  spans_good,
  rules_good,
  containers_good,
  users_good,
  image_conditions,
  rule_records_good,
}
use Rattle.session.specs.Limits.{session_length}
use Rattle.session.specs.Session.{start_of, session_length_good, start_conditions, start_answer, start_effect}
use Rattle.session.proofs.Canonical.{effect_start}
use Rattle.answers.specs.Answers.{quiet, alert, refused}
use Rattle.monitor.specs.Runs.{run_answers}
use Rattle.monitor.proofs.Examples.{M, trace, checked_runs}

-- "the matrix example grows to 118" (change request No. 10), pairs (18,42), (60,2), (62,24), (86,32): the header, the sections, and the
-- mixtures 5, 3, 4, 10
abbrev pub image : List ℕ
image =
    (5 ∷ 0 ∷ 18 ∷ 0 ∷ 42 ∷ 0 ∷ 60 ∷ 0 ∷ 2 ∷ 0 ∷ 62 ∷ 0 ∷ 24 ∷ 0 ∷ 86 ∷ 0 ∷ 32 ∷ 0 ∷ [])
    ++ ((1 ∷ 0 ∷ 0 ∷ 0 ∷ 255 ∷ 255 ∷ 1 ∷ 1 ∷ 1 ∷ 0 ∷ 255 ∷ 255 ∷ 1 ∷ 2 ∷ 2 ∷ 0 ∷ 255 ∷ 255 ∷ 1 ∷ 3 ∷ 3 ∷ 0 ∷ 255 ∷ 255 ∷ [])
    ++ ((3 ∷ 255 ∷ 255 ∷ 255 ∷ 255 ∷ 255 ∷ 3 ∷ 255 ∷ 255 ∷ 255 ∷ 255 ∷ 255 ∷ 3 ∷ 255 ∷ 255 ∷ 255 ∷ 255 ∷ 255 ∷ [])
    ++ ((255 ∷ 255 ∷ [])
    ++ ((0 ∷ 0 ∷ 1 ∷ 0 ∷ 255 ∷ 255 ∷ 1 ∷ 0 ∷ 1 ∷ 0 ∷ 255 ∷ 255 ∷ 2 ∷ 0 ∷ 1 ∷ 0 ∷ 255 ∷ 255 ∷ 3 ∷ 0 ∷ 1 ∷ 0 ∷ 255 ∷ 255 ∷ [])
    ++ ((5 ∷ 0 ∷ 0 ∷ 0 ∷ 0 ∷ 0 ∷ 0 ∷ 0 ∷ 3 ∷ 0 ∷ 0 ∷ 0 ∷ 0 ∷ 0 ∷ 0 ∷ 0 ∷ [])
    ++ (4 ∷ 0 ∷ 0 ∷ 0 ∷ 0 ∷ 0 ∷ 0 ∷ 0 ∷ 10 ∷ 0 ∷ 0 ∷ 0 ∷ 0 ∷ 0 ∷ 0 ∷ 0 ∷ []))))))

pub record Read : Type 0 where
  pub long : length image ≡ 118
  pub unrefused : start_answer image (replicate session_length 0) ≡ 0
  pub spelled : policy_in image ≡ M

pub read_image : Read
unfolding number_in field cut records every named owner_good container_good is_file kind_in atom is_volatile is_process
    container_in span_in rule_in containers_in users_in spans_in mixtures_in rules_in owners_in policy_in offset section_length part
    image_length_good part_good pairs_good whole_good sections_good spans_good rule_records_good rules_good containers_good users_good
    image_conditions first_failed session_length_good start_conditions start_answer
read_image = record { long = refl; unrefused = refl; spelled = refl }

-- from the bytes of the image and of the trace, on a buffer of zeros that the start fills
pub listing : run_answers (start_effect image (replicate session_length 0)) trace
    ≡ quiet 4 4 0 ∷ quiet 0 5 0 ∷ quiet 5 5 0 ∷ alert 1 7 255 ∷ quiet 1 0 0 ∷ refused 12 ∷ []
listing =
    ap (λ (s : List ℕ). run_answers s trace) ((effect_start image (replicate session_length 0) read_image.unrefused).1 ∙ ap start_of read_image.spelled)
    ∙ checked_runs.listing

-- the bytes of the trace
abbrev pub trace_bytes : List ℕ
trace_bytes =
    1 ∷ 0 ∷ 4 ∷ 0 ∷ 2 ∷ 0 ∷ 255 ∷ 255
    ∷ 3 ∷ 0 ∷ 4 ∷ 0 ∷ 0 ∷ 0 ∷ 255 ∷ 255
    ∷ 1 ∷ 0 ∷ 5 ∷ 0 ∷ 0 ∷ 0 ∷ 255 ∷ 255
    ∷ 3 ∷ 0 ∷ 5 ∷ 0 ∷ 1 ∷ 0 ∷ 255 ∷ 255
    ∷ 2 ∷ 0 ∷ 6 ∷ 0 ∷ 1 ∷ 0 ∷ 255 ∷ 255
    ∷ 1 ∷ 0 ∷ 6 ∷ 0 ∷ 9 ∷ 0 ∷ 255 ∷ 255
    ∷ []

abbrev pub given : List Answer
given = quiet 4 4 0 ∷ quiet 0 5 0 ∷ quiet 5 5 0 ∷ alert 1 7 255 ∷ quiet 1 0 0 ∷ refused 12 ∷ []

pub answered : run_answers (start_of (policy_in image)) (trace_records trace_bytes) ≡ given
unfolding trace_records cut
answered = ap (λ p. run_answers (start_of p) trace) read_image.spelled ∙ checked_runs.listing
