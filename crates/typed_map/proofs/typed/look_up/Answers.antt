use Rattle.std.proofs.Common.{sym, ◌∙◌}
use Rattle.typed_map.proofs.Walking.{looks_up_none, looks_up_some, looks_up_foreign, has_none, has_some, spells_none}
use Rattle.typed_map.proofs.typed.look_up.Goals as goal

pub returns-in-Ok-None-clause-ok : goal.returns-in-Ok-None-clause-ok
returns-in-Ok-None-clause-ok g c = looks_up_none g.P.Pages.store g.M.MergeOperator.meant _ _ g.K.Spelled.spelling g.V.Spelled.spelling g.met.K.Spelled.keeps_order _ _ c.in-Ok-None.field-0 c.in-Ok.ensures.is_value (c.as_ref.ensures ∙ c.in-Ok.ensures.ok)
    c.in-Ok-None.ensures.ok c.in-Ok-None.field-0-is

pub returns-in-Err-read-clause-foreign : goal.returns-in-Err-read-clause-foreign
returns-in-Err-read-clause-foreign g c = λ e. looks_up_foreign g.P.Pages.store g.M.MergeOperator.meant _ _ g.K.Spelled.spelling g.V.Spelled.spelling g.met.K.Spelled.keeps_order _ _ c.in-Ok-Some.field-0 _ c.in-Ok.ensures.is_value (c.as_ref.ensures ∙ c.in-Ok.ensures.ok)
    c.in-Ok-Some.ensures.ok c.in-Ok-Some.field-0-is (λ x is same. c.in-Err-read.ensures.foreign e x is (c.as_ref-2.ensures ∙ same))

pub returns-in-Ok-read-clause-ok : goal.returns-in-Ok-read-clause-ok
returns-in-Ok-read-clause-ok g c = looks_up_some g.P.Pages.store g.M.MergeOperator.meant _ _ g.K.Spelled.spelling g.V.Spelled.spelling g.met.K.Spelled.keeps_order g.met.V.Spelled.one_to_one _ _ c.in-Ok-Some.field-0 _ _ c.in-Ok.ensures.is_value (c.as_ref.ensures ∙ c.in-Ok.ensures.ok)
    c.in-Ok-Some.ensures.ok c.in-Ok-Some.field-0-is (c.in-Ok-read.ensures.ok.0, sym c.as_ref-2.ensures ∙ c.in-Ok-read.ensures.ok.1)

pub returns-in-Ok-None-clause-bytes : goal.returns-in-Ok-None-clause-bytes
returns-in-Ok-None-clause-bytes g c = has_none g.P.Pages.store g.M.MergeOperator.meant _ _ g.K.Spelled.spelling g.V.Spelled.spelling g.met.K.Spelled.keeps_order _ _ c.in-Ok-None.field-0 (c.as_ref.ensures ∙ c.in-Ok.ensures.ok) c.in-Ok-None.ensures.ok c.in-Ok-None.field-0-is

pub returns-in-Ok-read-clause-bytes : goal.returns-in-Ok-read-clause-bytes
returns-in-Ok-read-clause-bytes g c = has_some g.P.Pages.store g.M.MergeOperator.meant _ _ g.K.Spelled.spelling g.V.Spelled.spelling g.met.K.Spelled.keeps_order _ _ c.in-Ok-Some.field-0 _ _ (c.as_ref.ensures ∙ c.in-Ok.ensures.ok) c.in-Ok-Some.ensures.ok c.in-Ok-Some.field-0-is
    (sym c.as_ref-2.ensures ∙ c.in-Ok-read.ensures.ok.1)

pub returns-in-Err-read-clause-none : goal.returns-in-Err-read-clause-none
returns-in-Err-read-clause-none g c = λ e. spells_none g.P.Pages.store g.M.MergeOperator.meant _ _ g.K.Spelled.spelling g.V.Spelled.spelling g.met.K.Spelled.keeps_order _ _ c.in-Ok-Some.field-0 _ (c.as_ref.ensures ∙ c.in-Ok.ensures.ok) c.in-Ok-Some.ensures.ok c.in-Ok-Some.field-0-is
    (λ x is same. c.in-Err-read.ensures.foreign e x is (c.as_ref-2.ensures ∙ same))
