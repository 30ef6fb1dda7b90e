use Rattle.std.proofs.Common.{◌∙◌}
use Rattle.sled.proofs.Promising.{decided_of_parts, refused_of_parts}
use Rattle.typed_map.proofs.Refusing.{put_as_insert}
use Rattle.typed_map.proofs.Walking.{puts, is_put}
use Rattle.typed_map.proofs.typed.put.Goals as goal

pub returns-in-Ok-stood-clause-ok : goal.returns-in-Ok-stood-clause-ok
returns-in-Ok-stood-clause-ok g c = puts g.P.Pages.store g.M.MergeOperator.meant _ _ g.K.Spelled.spelling g.V.Spelled.spelling g.met.K.Spelled.keeps_order _ _ c.in-Ok.ensures.is_value c.in-Ok-spell.ensures.is_value _ _ _ _
    (c.as_ref.ensures ∙ c.in-Ok.ensures.ok) (c.as_ref-2.ensures ∙ c.in-Ok-spell.ensures.ok) c.in-Ok-stood.ensures.changes

pub returns-in-Ok-stood-clause-decided : goal.returns-in-Ok-stood-clause-decided
returns-in-Ok-stood-clause-decided g c = is_put g.P.Pages.store g.M.MergeOperator.meant _ _ g.K.Spelled.spelling g.V.Spelled.spelling g.met.K.Spelled.keeps_order _ _ _ _ _ _
    (c.as_ref.ensures ∙ c.in-Ok.ensures.ok) (c.as_ref-2.ensures ∙ c.in-Ok-spell.ensures.ok)
    (decided_of_parts g.P.Pages.store g.M.MergeOperator.meant _ _ _ _ _ c.in-Ok-stood.ensures.decides c.in-Ok-stood.ensures.leaves c.in-Ok-stood.ensures.steps)

pub returns-in-Err-stood-clause-err : goal.returns-in-Err-stood-clause-err
returns-in-Err-stood-clause-err g c = put_as_insert g.P.Pages.store g.M.MergeOperator.meant g.K.Spelled.spelling g.V.Spelled.spelling _ _ _ _ _ _ _ (c.as_ref.ensures ∙ c.in-Ok.ensures.ok) (c.as_ref-2.ensures ∙ c.in-Ok-spell.ensures.ok) _
    (refused_of_parts g.P.Pages.store g.M.MergeOperator.meant _ _ _ _ _ c.in-Err-stood.ensures.refuses c.in-Err-stood.ensures.leaves c.in-Err-stood.ensures.stops c.in-Err-stood.ensures.gives_up)
