use Rattle.std.proofs.Common.{ap, ◌∙◌, rules, ◌≡◌, ◌≤◌, None}
use Rattle.std.specs.Ordering.{nat_cmp}
use Rattle.std.specs.BTreeMap.{get}
use Rattle.sled_pages.specs.Joined.{joined}
use Rattle.sled_pages.specs.Blocks.{lies_of}
use Rattle.sled_pages.specs.Slots.{slots_of, slot_in}
use Rattle.sled_pages.proofs.Places.{foreign_none, foreign_gone, slots_gone, known_gone, unused_same}
use Rattle.sled_pages.proofs.memory.slots.Slots.let_go.Goals as goal

pub returns-then-pid-self-clause-slots : goal.returns-then-pid-self-clause-slots
returns-then-pid-self-clause-slots c = let m = c.args.self.now in
    let none : slots_of m c.args.pid ≡ None = search rules in
    let within : c.args.pid ≤ m.last = search rules in
    let out = ap (λ p. joined (get nat_cmp m.foreign p)) c.pid.view_is ∙ foreign_none m.last m.foreign (lies_of m.own) c.args.pid within none in
    slots_gone m.last m.foreign c.remove-none.new.self (lies_of m.own) (foreign_gone m.foreign c.remove-none.new.self c.pid.inside.0 (λ q. c.remove-none.ensures.updates.0 q) out)

pub invariant_of-self-clause-known : goal.invariant_of-self-clause-known
invariant_of-self-clause-known c = let m = c.args.self.now in known_gone m.from_image m.foreign c.remove-none.new.self c.pid.inside.0 (λ q. c.remove-none.ensures.updates.0 q) m.known

pub returns-else-pid-self-clause-slots : goal.returns-else-pid-self-clause-slots
returns-else-pid-self-clause-slots c = let m = c.args.self.now in ap (slot_in m.last m.foreign) c.let_go.ensures

pub invariant_of-self-else-pid-self-clause-unused : goal.invariant_of-self-else-pid-self-clause-unused
invariant_of-self-else-pid-self-clause-unused c = let m = c.args.self.now in unused_same m.given (lies_of m.own) _ c.let_go.ensures m.unused
