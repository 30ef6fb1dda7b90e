use Rattle.sled.specs.Pops.{pages_of}
use Rattle.sled.proofs.Popping.{pop_is, stops_unread, stops_untaken, takes_out}
use Rattle.sled.proofs.Mapping.{pop_changes, pop_refuses}
use Rattle.sled.proofs.db.Db.pop_keeping.Goals as goal

pub returns-in-Err : goal.returns-in-Err
returns-in-Err g c =
    let s = stops_unread g.P.Pages.store g.M.MergeOperator.meant _ _ (pop_is c.args.side c.args.tree.now) (pages_of c.args.side) _ c.in-Err.ensures.err in
    let r = pop_refuses g.P.Pages.store g.M.MergeOperator.meant _ _ _ c.args.side _ s.0 in record { ok = tt; kept = tt; err = s.0; gives_up = s.1; steps = tt; refused = s.2; changes = tt; refuses = r.0; leaves = r.1 }

pub returns-in-Ok-take_out : goal.returns-in-Ok-take_out
returns-in-Ok-take_out g c =
    let t = takes_out g.P.Pages.store g.M.MergeOperator.meant _ _ (pop_is c.args.side c.args.tree.now) c.audit.ensures.sound _ c.in-Ok.ensures.ok _ c.in-Ok-take_out.ensures.ok in
    let d = pop_changes g.P.Pages.store g.M.MergeOperator.meant _ _ _ c.audit.ensures.sound c.args.side _ t.0 in record { ok = t.0; kept = c.in-Ok.ensures.kept; err = tt; gives_up = tt; steps = t.1; refused = tt; changes = d.0; refuses = tt; leaves = d.1 }

pub returns-in-Err-take_out : goal.returns-in-Err-take_out
returns-in-Err-take_out g c =
    let s = stops_untaken g.P.Pages.store g.M.MergeOperator.meant _ _ (pop_is c.args.side c.args.tree.now) _ c.in-Ok.ensures.ok (pages_of c.args.side) _ _ c.in-Err-take_out.ensures.err in
    let r = pop_refuses g.P.Pages.store g.M.MergeOperator.meant _ _ _ c.args.side _ s.0 in record { ok = tt; kept = tt; err = s.0; gives_up = s.1; steps = tt; refused = s.2; changes = tt; refuses = r.0; leaves = r.1 }
