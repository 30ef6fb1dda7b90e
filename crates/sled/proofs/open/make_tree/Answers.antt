use Rattle.std.proofs.Common.{refl, sym, subst, inl}
use Rattle.sled_store.specs.Store.{Allocates, IsRefused}
use Rattle.sled_nodes.specs.declared.node.Node.{Node}
use Rattle.sled.proofs.Opening.{no_other, swapped, unrooted}
use Rattle.sled.proofs.open.make_tree.Goals as goal

pub returns-in-Err-clause-err : goal.returns-in-Err-clause-err
returns-in-Err-clause-err g c = record {
  last = g.P.Pages.store c.args.pages.now;
  did = inl refl;
  refused = subst (λ z. IsRefused z (g.P.Pages.store c.args.pages.now) (g.P.Pages.store c.args.pages.now)) (sym c.in-Err.ensures.err) (record { is = refl });
}

pub unreachable-requires : goal.unreachable-requires
unreachable-requires g c = no_other _ _ (unrooted _ c.in-Ok-allocate.ensures.ok c.requires) c.in-Ok-Err.ensures.ok c.in-Ok-Err.field-0-is

pub returns-in-Ok-Ok-clause-ok : goal.returns-in-Ok-Ok-clause-ok
returns-in-Ok-Ok-clause-ok g c = record {
  middle = g.P.Pages.store c.allocate.new.self;
  leaf = record {
    pid = c.in-Ok-allocate.given.0;
    version = c.in-Ok-allocate.given.1;
    is = subst (λ (n : Node). Allocates n c.in-Ok-allocate.given.0 c.in-Ok-allocate.given.1 (g.P.Pages.store c.args.pages.now) (g.P.Pages.store c.allocate.new.self)) c.in-Ok.ensures.ok c.in-Ok-allocate.ensures.ok;
    given = c.law_given.ensures;
  };
  is = swapped _ _ c.in-Ok-Ok.ensures.ok c.in-Ok-Ok.field-0-is;
}
