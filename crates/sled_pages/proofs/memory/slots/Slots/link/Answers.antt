use Rattle.std.proofs.Common.{rules, ◌<◌, ◌≤◌, ap}
use Rattle.std.proofs.lemmas.Result.{on_ok_weaker}
use Rattle.sled_pages.specs.Blocks.{lies_of}
use Rattle.sled_pages.specs.Slots.{place_in, own_places}
use Rattle.sled_pages.proofs.InPlace.{own_told, own_linked, unused_linked, image_told, image_linked}
use Rattle.sled_pages.proofs.memory.slots.Slots.link.Goals as goal

pub returns-then-pid-self-clause-told : goal.returns-then-pid-self-clause-told
returns-then-pid-self-clause-told c =
    let m = c.args.self.now in
    let h : c.args.pid ≤ m.last = search rules in
    image_told m.last m.foreign c.link_of_image.new.foreign (lies_of m.own) c.args.pid c.args.version c.args.next c.args.link h c.link_of_image.result c.link_of_image.ensures.told

pub returns-then-pid-self-clause-ok : goal.returns-then-pid-self-clause-ok
returns-then-pid-self-clause-ok c =
    let m = c.args.self.now in
    let h : c.args.pid ≤ m.last = search rules in
    on_ok_weaker c.link_of_image.result (image_linked m.last m.foreign c.link_of_image.new.foreign (lies_of m.own) c.args.pid c.args.version c.args.next c.args.link h) c.link_of_image.ensures.ok

pub returns-else-pid-self-clause-told : goal.returns-else-pid-self-clause-told
returns-else-pid-self-clause-told c =
    let m = c.args.self.now in
    let h : m.last < c.args.pid = search rules in
    own_told m.last m.foreign (lies_of m.own) (lies_of c.link.new.self) _ c.args.pid c.args.version c.args.next c.args.link c.pid.view_is h c.link.result c.link.ensures.told

pub returns-else-pid-self-clause-ok : goal.returns-else-pid-self-clause-ok
returns-else-pid-self-clause-ok c =
    let m = c.args.self.now in
    let h : m.last < c.args.pid = search rules in
    on_ok_weaker c.link.result (own_linked m.last m.foreign (lies_of m.own) (lies_of c.link.new.self) _ c.args.pid c.args.version c.args.next c.args.link c.pid.view_is h) c.link.ensures.ok

pub returns-else-pid-self-clause-places : goal.returns-else-pid-self-clause-places
returns-else-pid-self-clause-places c = let m = c.args.self.now in ap (λ h. place_in m.last m.foreign (own_places m.given h)) c.link.ensures.places

pub invariant_of-self-else-pid-self-clause-unused : goal.invariant_of-self-else-pid-self-clause-unused
invariant_of-self-else-pid-self-clause-unused c =
    let m = c.args.self.now in
    unused_linked (lies_of m.own) (lies_of c.link.new.self) _ c.args.version c.args.next c.args.link m.given c.link.result c.link.ensures.ok c.link.ensures.err m.unused
