-- The invariant: what is left of the containers' classes, permit then run, makes the whole order.
use Rattle.normaliser.proofs.SectionRows.{Containing}
use Rattle.normaliser.specs.Writer.{container_uses}
use Rattle.normaliser.specs.Tables.{class_at, with_classes}
use Rattle.image.specs.Image.{containers_in}
use mathlib.Core.List.{[], map}
use Rattle.normaliser.proofs.place_containers.Given as goal

abbrev pub invariant-loop-i : goal.invariant-loop-i
invariant-loop-i l =
    Containing l.containers l.classes (with_classes [] (map (class_at l.classes) (container_uses (containers_in l.containers)))) l.initial.order l.initial.ranks l.order l.ranks l.n l.m l.i
