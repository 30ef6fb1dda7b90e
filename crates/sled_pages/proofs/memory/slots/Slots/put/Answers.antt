use Rattle.std.proofs.Common.{rules, ◌<◌, ◌≤◌, ◌-◌, ap, ◌∙◌}
use Rattle.sled_store.specs.Update.{put_at}
use Rattle.sled_pages.specs.Blocks.{lies_of, has_of}
use Rattle.sled_pages.specs.Slots.{slots_of, place_in, own_places}
use Rattle.sled_pages.proofs.Places.{own_put, own_place, unused_put, foreign_put}
use Rattle.sled_pages.proofs.memory.slots.Slots.put.Goals as goal

pub put-requires : goal.put-requires
put-requires c =
    let m = c.args.self.now in
    let h : m.last < c.args.pid = search rules in
    ap (λ n. has_of m.own (n - m.last - 1)) c.pid.view_is ∙ (own_place m.last m.foreign m.given (has_of m.own) c.args.pid h c.requires).1

pub returns-in-Ok-Some-clause-slots : goal.returns-in-Ok-Some-clause-slots
returns-in-Ok-Some-clause-slots c =
    let m = c.args.self.now in
    let h : c.pid.inside.0 ≤ m.last = search rules in
    foreign_put m.last m.foreign c.insert.new.self (lies_of m.own) c.pid.inside.0 c.args.slot h (λ q. c.in-Ok-Some.ensures.updates.0 q) ∙ ap (λ p. put_at (slots_of m) p c.args.slot) c.pid.view_is

pub returns-else-pid-self-clause-slots : goal.returns-else-pid-self-clause-slots
returns-else-pid-self-clause-slots c =
    let m = c.args.self.now in
    let h : m.last < c.args.pid = search rules in
    own_put m.last m.foreign (lies_of m.own) _ c.args.pid c.args.slot h (c.put.ensures.slots ∙ ap (λ n. put_at (lies_of m.own) (n - m.last - 1) c.args.slot) c.pid.view_is)

pub returns-else-pid-self-clause-places : goal.returns-else-pid-self-clause-places
returns-else-pid-self-clause-places c = let m = c.args.self.now in ap (λ h. place_in m.last m.foreign (own_places m.given h)) c.put.ensures.places

pub invariant_of-self-else-pid-self-clause-unused : goal.invariant_of-self-else-pid-self-clause-unused
invariant_of-self-else-pid-self-clause-unused c =
    let m = c.args.self.now in
    let h : m.last < c.args.pid = search rules in
    unused_put m.given (lies_of m.own) _ (c.args.pid - m.last - 1) c.args.slot (own_place m.last m.foreign m.given (has_of m.own) c.args.pid h c.requires).0 (c.put.ensures.slots ∙ ap (λ n. put_at (lies_of m.own) (n - m.last - 1) c.args.slot) c.pid.view_is) m.unused
