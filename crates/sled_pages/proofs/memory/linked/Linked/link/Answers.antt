use Rattle.sled_pages.proofs.Joining.{joined_more, ready_joins}
use Rattle.sled_pages.proofs.memory.linked.Linked.link.Goals as goal

pub invariant_of-self-then-len-lt-MOST : goal.invariant_of-self-then-len-lt-MOST
invariant_of-self-then-len-lt-MOST c = record {
  is = joined_more c.make_ready.new.node c.link_more.new.node _ c.link_more.new.under c.args.link
      (ready_joins _ _ _ c.in_ok-make_ready.ensures.ready.is c.in-Joined.is) c.in_ok-link_more.ensures.ok c.in_ok-link_more.ensures.pushed;
}
