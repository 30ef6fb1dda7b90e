use Rattle.std.proofs.Common.{◌≡◌, nat_le, true}
use Rattle.std.specs.List.{list_all}
use Rattle.sled_pages.specs.Slots.{slots_of, given_of}
use Rattle.sled_pages.proofs.Laying.{image_is, roots_up_to}
use Rattle.sled_pages.proofs.memory.MemPages.from_image.Goals as goal

pub returns-clause-ok : goal.returns-clause-ok
returns-clause-ok c =
    let laid = c.in_ok-slots.ensures.ok in
    let least : list_all (λ r. nat_le r.1 c.greatest_root-least.result) c.args.roots.items ≡ true = rw (← c.as_slice.ensures.value) c.greatest_root-least.ensures in
    image_is c.args.pages.items c.args.roots.items c.in_ok-roots.roots.items (slots_of c.in_ok-slots.slots) _ _ c.args.mark c.in_ok-slots.next_version (given_of c.in_ok-slots.slots) c.new.ensures.items c.new-3.ensures.items
    laid.nodes c.in_ok-roots.ensures.ok laid.given (roots_up_to c.args.roots.items c.greatest_root-least.result (given_of c.in_ok-slots.slots) laid.least_given least)

pub returns-clause-parts : goal.returns-clause-parts
returns-clause-parts c p = c.in_ok-slots.ensures.ok.parts p
