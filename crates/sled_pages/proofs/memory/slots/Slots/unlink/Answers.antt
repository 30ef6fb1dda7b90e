use Rattle.std.proofs.Common.{◌≡◌, None, ap, rules, ◌∙◌}
use Rattle.sled_pages.specs.Slots.{slots_of}
use Rattle.sled_pages.proofs.Linked.{unlinks, unlinks_none}
use Rattle.sled_pages.proofs.memory.slots.Slots.unlink.Goals as goal

pub put-none-requires : goal.put-none-requires
put-none-requires c = ap (λ f. f c.args.pid) c.put.ensures.places ∙ c.requires.placed

pub returns-in-Some-clause-slots : goal.returns-in-Some-clause-slots
returns-in-Some-clause-slots c =
    unlinks c.args.pid c.args.version (slots_of c.args.self.now) _ _ _ c.in-Some.slot c.unlink.new.self c.put.ensures.was c.in-Some.is c.put.ensures.slots c.put-none.ensures.slots c.unlink.ensures

pub returns-in-Some-clause-places : goal.returns-in-Some-clause-places
returns-in-Some-clause-places c = c.put-none.ensures.places ∙ c.put.ensures.places

pub returns-in_default-clause-slots : goal.returns-in_default-clause-slots
returns-in_default-clause-slots c =
    let none : c.put.result ≡ None = search rules in
    unlinks_none c.args.pid c.args.version (slots_of c.args.self.now) _ c.put.result c.put.ensures.was none c.put.ensures.slots
