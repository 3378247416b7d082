-- The sections one behind the other, then the header in front of them.
use native.Mathlib.Omega.{arith}
use mathlib.Core.Path.{◌∙◌}
use Rattle.fields.proofs.WritingLaws.{wrote_length}
use Rattle.normaliser.proofs.ImageBytes.{container_section_size, user_section_size, rule_section_size, sections_room, length_4, image_wrote}
use Rattle.normaliser.proofs.TabledPolicy.write_image.Goals as goal

pub write_containers-b-requires : goal.write_containers-b-requires
write_containers-b-requires c =
    (omega (arith, c.requires.room), c.requires.containers_found)

pub write_users-c-requires : goal.write_users-c-requires
write_users-c-requires c =
    let size_1 = container_section_size c.args.self.now.containers.now c.args.numbering.now.classes.now c.args.numbering.now.ranks.now in (
      omega (
        arith,
        c.requires.room,
        (
            let size_1 = container_section_size c.args.self.now.containers.now c.args.numbering.now.classes.now c.args.numbering.now.ranks.now in
            wrote_length (omega (arith, c.requires.room, size_1)) c.write_containers-b.ensures),
        c.write_containers-b.ensures.ends,
        size_1,
      ),
      c.requires.users_found,
    )

pub write_spans-d-requires : goal.write_spans-d-requires
write_spans-d-requires c =
    let size_1 = container_section_size c.args.self.now.containers.now c.args.numbering.now.classes.now c.args.numbering.now.ranks.now in
    let size_2 = user_section_size c.args.self.now.users.now c.args.numbering.now.classes.now c.args.numbering.now.ranks.now in (
      omega (
        arith,
        c.requires.room,
        (
            let size_1 = container_section_size c.args.self.now.containers.now c.args.numbering.now.classes.now c.args.numbering.now.ranks.now in
            let size_2 = user_section_size c.args.self.now.users.now c.args.numbering.now.classes.now c.args.numbering.now.ranks.now in
            wrote_length (omega (
              arith,
              c.requires.room,
              (
                  let size_1 = container_section_size c.args.self.now.containers.now c.args.numbering.now.classes.now c.args.numbering.now.ranks.now in
                  wrote_length (omega (arith, c.requires.room, size_1)) c.write_containers-b.ensures),
              c.write_containers-b.ensures.ends,
              size_1,
              size_2,
            )) c.write_users-c.ensures ∙ (
            let size_1 = container_section_size c.args.self.now.containers.now c.args.numbering.now.classes.now c.args.numbering.now.ranks.now in
            wrote_length (omega (arith, c.requires.room, size_1)) c.write_containers-b.ensures)),
        c.write_containers-b.ensures.ends,
        c.write_users-c.ensures.ends,
        size_1,
        size_2,
      ),
      c.requires.forms_good,
    )

pub write_mixtures-end-requires : goal.write_mixtures-end-requires
write_mixtures-end-requires c =
    let size_1 = container_section_size c.args.self.now.containers.now c.args.numbering.now.classes.now c.args.numbering.now.ranks.now in
    let size_2 = user_section_size c.args.self.now.users.now c.args.numbering.now.classes.now c.args.numbering.now.ranks.now in
    let size_3 = rule_section_size c.args.self.now.forms.now c.args.order.now in (
      omega (
        arith,
        c.requires.room,
        (
            let size_1 = container_section_size c.args.self.now.containers.now c.args.numbering.now.classes.now c.args.numbering.now.ranks.now in
            let size_2 = user_section_size c.args.self.now.users.now c.args.numbering.now.classes.now c.args.numbering.now.ranks.now in
            let size_3 = rule_section_size c.args.self.now.forms.now c.args.order.now in
            wrote_length
            (omega (
              arith,
              c.requires.room,
              (
                  let size_1 = container_section_size c.args.self.now.containers.now c.args.numbering.now.classes.now c.args.numbering.now.ranks.now in
                  let size_2 = user_section_size c.args.self.now.users.now c.args.numbering.now.classes.now c.args.numbering.now.ranks.now in
                  wrote_length (omega (
                    arith,
                    c.requires.room,
                    (
                        let size_1 = container_section_size c.args.self.now.containers.now c.args.numbering.now.classes.now c.args.numbering.now.ranks.now in
                        wrote_length (omega (arith, c.requires.room, size_1)) c.write_containers-b.ensures),
                    c.write_containers-b.ensures.ends,
                    size_1,
                    size_2,
                  )) c.write_users-c.ensures ∙ (
                  let size_1 = container_section_size c.args.self.now.containers.now c.args.numbering.now.classes.now c.args.numbering.now.ranks.now in
                  wrote_length (omega (arith, c.requires.room, size_1)) c.write_containers-b.ensures)),
              c.write_containers-b.ensures.ends,
              c.write_users-c.ensures.ends,
              size_1,
              size_2,
              size_3,
            )) c.write_spans-d.ensures
            ∙ (
            let size_1 = container_section_size c.args.self.now.containers.now c.args.numbering.now.classes.now c.args.numbering.now.ranks.now in
            let size_2 = user_section_size c.args.self.now.users.now c.args.numbering.now.classes.now c.args.numbering.now.ranks.now in
            wrote_length (omega (
              arith,
              c.requires.room,
              (
                  let size_1 = container_section_size c.args.self.now.containers.now c.args.numbering.now.classes.now c.args.numbering.now.ranks.now in
                  wrote_length (omega (arith, c.requires.room, size_1)) c.write_containers-b.ensures),
              c.write_containers-b.ensures.ends,
              size_1,
              size_2,
            )) c.write_users-c.ensures ∙ (
            let size_1 = container_section_size c.args.self.now.containers.now c.args.numbering.now.classes.now c.args.numbering.now.ranks.now in
            wrote_length (omega (arith, c.requires.room, size_1)) c.write_containers-b.ensures))),
        c.write_containers-b.ensures.ends,
        c.write_users-c.ensures.ends,
        c.write_spans-d.ensures.ends,
        size_1,
        size_2,
        size_3,
      ),
      c.requires.forms_good,
    )

pub write_header-requires : goal.write_header-requires
write_header-requires c =
    let first = c.write_containers-b.ensures in
    let second = c.write_users-c.ensures in
    let third = c.write_spans-d.ensures in
    let fourth = c.write_mixtures-end.ensures in
    let room = sections_room c.requires in
    omega (arith, room, length_4 room first second third fourth, first.ends, second.ends, third.ends, fourth.ends)

pub returns : goal.returns
returns c =
    image_wrote (sections_room c.requires) c.write_containers-b.ensures c.write_users-c.ensures c.write_spans-d.ensures
    c.write_mixtures-end.ensures c.write_header.ensures
