-- The invariant: what is left of the users' classes makes the whole order.
use Rattle.normaliser.proofs.SectionRows.{Using}
use Rattle.normaliser.specs.Tables.{class_at, with_classes}
use Rattle.image.specs.Image.{users_in}
use mathlib.Core.List.{map}
use lib.ListN.{take}
use Rattle.normaliser.proofs.place_users.Given as goal

abbrev pub invariant-loop-i : goal.invariant-loop-i
invariant-loop-i l = Using l.users l.classes (with_classes (take l.m l.initial.order) (map (class_at l.classes) (users_in l.users))) l.initial.order l.initial.ranks l.order l.ranks l.n l.k l.i
