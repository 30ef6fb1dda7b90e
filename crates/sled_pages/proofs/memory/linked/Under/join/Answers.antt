use Rattle.std.proofs.Common.{◌≡◌, ◌<◌, length, get_or, List, rules}
use Rattle.sled_nodes.specs.declared.link.Link.{Link}
use Rattle.sled_pages.proofs.Joining.{join_more}
use Rattle.sled_pages.proofs.memory.linked.Under.join.Goals as goal

pub loop-link-preserved : goal.loop-link-preserved
loop-link-preserved c =
    let items : List Link = c.args.self.now.1 in
    let h : c.loop-link.link-index < length items = search rules in
    let e : c.link-item.result ≡ get_or items c.loop-link.link-index c.link-item.result = search rules in
    join_more items _ c.loop-link.link-index c.link-item.result c.link-item.result c.loop-link.node c.apply.new.self h e c.loop-link.invariant c.in_ok-apply.ensures.ok
