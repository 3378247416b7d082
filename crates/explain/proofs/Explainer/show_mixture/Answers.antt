-- `explain::Explainer::show_mixture`. The mixture and its atom are those of the rule; the way is told unless an earlier one lacks the same.
use mathlib.Core.Path.{refl}
use native.Mathlib.Omega.{arith}
use Rattle.files.specs.Calls.{handed_as}
use Rattle.files.proofs.CallLaws.{done_as}
use Rattle.explanations.proofs.ExplanationLines.{wrote_front}
use Rattle.explain.proofs.LackedMixtures.{few_mixtures, mixture_there, mixture_told, container_low, atom_low, came_is, mixture_known, mixture_new}
use Rattle.explain.proofs.Explainer.show_mixture.Goals as goal

pub overflow_add-atom : goal.overflow_add-atom
overflow_add-atom c = omega (arith, few_mixtures _ _ _ c.requires.1, c.requires.2)

pub offset_bounds-why-j : goal.offset_bounds-why-j
offset_bounds-why-j c = omega (arith, few_mixtures _ _ _ c.requires.1, c.requires.2)

pub bounds-why-j : goal.bounds-why-j
bounds-why-j c = omega (arith, few_mixtures _ _ _ c.requires.1, c.requires.2)

pub mixture-mixture-requires : goal.mixture-mixture-requires
mixture-mixture-requires c = mixture_there _ _ _ c.requires.1 _ c.requires.2

pub lacked_before-requires : goal.lacked_before-requires
lacked_before-requires c =
    omega (arith, few_mixtures _ _ _ c.requires.1, c.requires.2)

pub returns-then-lacked_before : goal.returns-then-lacked_before
returns-then-lacked_before c =
    mixture_known _ _ _ c.requires.1 _ c.requires.2 _ _ _ _ _ (mixture_told _ _ _ c.requires.1 _ c.requires.2 _ c.mixture-mixture.ensures) refl
    c.lacked_before.ensures c.if-lacked_before.true (handed_as (wrote_front c.put_lacks-end.ensures) c.in_ok-write_front.ensures)

pub show_way-requires : goal.show_way-requires
show_way-requires c = (container_low _ _ _ c.requires.1 _ c.requires.2, atom_low _ _ _ c.requires.1 _ c.requires.2)

pub returns : goal.returns
returns c =
    done_as c.show_way.result
    (λ _ w. mixture_new _ _ _ c.requires.1 _ c.requires.2 _ _ _ _ _ _ (mixture_told _ _ _ c.requires.1 _ c.requires.2 _ c.mixture-mixture.ensures) refl
    c.lacked_before.ensures c.if-lacked_before.false (handed_as (wrote_front c.put_lacks-end.ensures) c.in_ok-write_front.ensures)
    (handed_as (came_is _ _ _ c.requires.1 _ c.requires.2 _) w))
    c.show_way.ensures
