use Rattle.sled.proofs.Beginning.{reads_key_in, way_in, way_out, walk_unread_in}
use Rattle.sled.proofs.db.Db.read_key.Goals as goal

pub leaf_near-requires : goal.leaf_near-requires
leaf_near-requires g c = way_in g.P.Pages.store _ _ c.self.view_is _ _ c.requires

pub returns-in-Err-clause-err : goal.returns-in-Err-clause-err
returns-in-Err-clause-err g c = walk_unread_in g.P.Pages.store _ _ c.self.view_is _ _ _ c.in-Err.ensures.err

pub returns-in-Ok-get-clause-ok : goal.returns-in-Ok-get-clause-ok
returns-in-Ok-get-clause-ok g c = reads_key_in g.P.Pages.store _ _ c.self.view_is _ _ _ _ _ c.in-Ok.ensures.ok.looked c.as_ref-bytes.ensures c.in-Ok.ensures.ok.is _ c.deref.ensures _ c.in-Ok-get.ensures.ok _ c.eq-stands.ensures

pub returns-in-Err-clause-way : goal.returns-in-Err-clause-way
returns-in-Err-clause-way g c = way_out g.P.Pages.store _ _ c.self.view_is _ _ c.leaf_near.ensures.way

pub returns-in-Ok-get-clause-way : goal.returns-in-Ok-get-clause-way
returns-in-Ok-get-clause-way g c = way_out g.P.Pages.store _ _ c.self.view_is _ _ c.leaf_near.ensures.way

pub returns-in-Err-get-clause-way : goal.returns-in-Err-get-clause-way
returns-in-Err-get-clause-way g c = way_out g.P.Pages.store _ _ c.self.view_is _ _ c.leaf_near.ensures.way
