use Rattle.std.proofs.Common.{◌≡◌, ap, ◌∙◌, ◌≤◌, ◌<◌, ◌^◌, refl, rules, arith}
use Rattle.sled_pages.specs.Parts.{node_of, alone}
use Rattle.sled_pages.proofs.Laying.{holds_more}
use Rattle.sled_pages.proofs.memory.slots.Slots.lay.Goals as goal

pub loop-pid-preserved : goal.loop-pid-preserved
loop-pid-preserved c =
    let m : c.loop-pid.last ≤ c.max.result = search rules in
    let n : c.pid.inside.0 ≤ c.max.result = search rules in
    let g : c.max.result ≤ c.greatest-last.result = c.greatest-last.ensures.least in
    let f : c.greatest-last.result < 2 ^ 64 = search rules in
    let is : node_of c.new-page.result ≡ c.in-Some.node = ap node_of c.new-page.ensures ∙ c.in_ok-base.ensures.ok in
    holds_more c.loop-pid.yielded c.loop-pid.foreign c.insert.new.self c.args.least c.loop-pid.last c.greatest-last.result c.loop-pid.next c.pid.inside.0 c.in-Some.pid (record { version = c.loop-pid.next; page = c.new-page.result }) c.in-Some.node
    c.pid.view_is refl is (c.new-page.ensures ∙ ap alone c.in_ok-base.ensures.ok) (omega arith) (omega arith) f (rw is c.greatest-last.ensures.all) (λ q. c.in_ok-insert.ensures.updates.0 q) c.loop-pid.invariant
