use Rattle.std.proofs.Common.{refl}
use Rattle.sled_model.specs.declared.call.Whole.TheVariants.{GenerateId}
use Rattle.sled.proofs.Numbering.{id_decided, id_refused}
use Rattle.machine_alone.proofs.Wholes.{decided_machine, refused_machine}
use Rattle.machine_alone.proofs.Keeping.{told_decided, told_refused}
use Rattle.machine_alone.proofs.machine.Machine.generate_id.Goals as goal

pub returns-in-Err : goal.returns-in-Err
returns-in-Err g c =
    told_refused g.P.Pages.store g.P.Pages.flush_number g.M.MergeOperator.meant g.K.Keep.kept _ _ c.self.view_is c.self.invariant GenerateId tt _ _ c.in-Err.e 0 c.refused.ensures (id_refused g.P.Pages.store g.M.MergeOperator.meant _ _ _ c.in-Err.ensures.err) tt tt refl

pub returns : goal.returns
returns g c =
    told_decided g.P.Pages.store g.P.Pages.flush_number g.M.MergeOperator.meant g.K.Keep.kept _ _ c.self.view_is c.self.invariant GenerateId tt _ _ _ 0 c.decided.ensures (id_decided g.P.Pages.store g.M.MergeOperator.meant _ _ _ c.in-Ok.ensures.ok) tt refl refl

pub invariant_of-self : goal.invariant_of-self
invariant_of-self g c = refused_machine g.P.Pages.store g.P.Pages.flush_number g.M.MergeOperator.meant _ _ c.self.view_is c.self.invariant GenerateId tt _ _ (id_refused g.P.Pages.store g.M.MergeOperator.meant _ _ _ c.in-Err.ensures.err)

pub invariant_of-self-2 : goal.invariant_of-self-2
invariant_of-self-2 g c = decided_machine g.P.Pages.store g.P.Pages.flush_number g.M.MergeOperator.meant _ _ c.self.view_is c.self.invariant GenerateId tt _ _ (id_decided g.P.Pages.store g.M.MergeOperator.meant _ _ _ c.in-Ok.ensures.ok)
