use Rattle.std.proofs.Common.{◌∙◌}
use Rattle.sled_nodes.proofs.Basics.{ok_weaker, err_weaker}
use Rattle.typed_map.proofs.Listing.{given_all}
use Rattle.typed_map.proofs.Refusing.{for_more, short_listing, listing_as_walk}
use Rattle.typed_map.proofs.Walking.{walks, walks_foreign, has_pairs, has_foreign, ends_empty}
use Rattle.typed_map.proofs.typed.walk.Goals as goal

pub returns-clause-ok : goal.returns-clause-ok
returns-clause-ok g c = ok_weaker _ _ (λ found is. walks g.P.Pages.store g.M.MergeOperator.meant _ _ g.K.Spelled.spelling g.V.Spelled.spelling g.met.K.Spelled.keeps_order _ _ _ _ c.in-Ok.ensures.are_values.0 c.in-Ok.ensures.are_values.1 (c.lend_bound.ensures ∙ c.in-Ok.ensures.lo) (c.lend_bound-2.ensures ∙ c.in-Ok.ensures.hi)
    c.in-Ok-range.entries c.in-Ok-range.ensures.ok _ (c.as_slice.ensures.value ∙ c.in-Ok-pairs.ensures.all ∙ given_all c.in-Ok-range.entries (ends_empty g.P.Pages.store g.M.MergeOperator.meant _ _ g.K.Spelled.spelling g.V.Spelled.spelling g.met.K.Spelled.keeps_order _ _ _ c.in-Ok-range.ensures.ok)) g.met.K.Spelled.one_to_one g.met.V.Spelled.one_to_one c.audit.ensures.ascend _ is) c.typed-found.result c.typed-found.ensures.ok

pub returns-clause-bytes : goal.returns-clause-bytes
returns-clause-bytes g c = ok_weaker _ _ (λ found is. has_pairs g.P.Pages.store g.M.MergeOperator.meant _ _ g.K.Spelled.spelling g.V.Spelled.spelling g.met.K.Spelled.keeps_order _ _ _ _ c.in-Ok.ensures.are_values.0 c.in-Ok.ensures.are_values.1 (c.lend_bound.ensures ∙ c.in-Ok.ensures.lo) (c.lend_bound-2.ensures ∙ c.in-Ok.ensures.hi)
    c.in-Ok-range.entries c.in-Ok-range.ensures.ok _ (c.as_slice.ensures.value ∙ c.in-Ok-pairs.ensures.all ∙ given_all c.in-Ok-range.entries (ends_empty g.P.Pages.store g.M.MergeOperator.meant _ _ g.K.Spelled.spelling g.V.Spelled.spelling g.met.K.Spelled.keeps_order _ _ _ c.in-Ok-range.ensures.ok)) _ is) c.typed-found.result c.typed-found.ensures.ok

pub returns-clause-foreign : goal.returns-clause-foreign
returns-clause-foreign g c = err_weaker _ _ (λ e told is. walks_foreign g.P.Pages.store g.M.MergeOperator.meant _ _ g.K.Spelled.spelling g.V.Spelled.spelling g.met.K.Spelled.keeps_order _ _ _ _ c.in-Ok.ensures.are_values.0 c.in-Ok.ensures.are_values.1 (c.lend_bound.ensures ∙ c.in-Ok.ensures.lo) (c.lend_bound-2.ensures ∙ c.in-Ok.ensures.hi)
    c.in-Ok-range.entries c.in-Ok-range.ensures.ok _ (c.as_slice.ensures.value ∙ c.in-Ok-pairs.ensures.all ∙ given_all c.in-Ok-range.entries (ends_empty g.P.Pages.store g.M.MergeOperator.meant _ _ g.K.Spelled.spelling g.V.Spelled.spelling g.met.K.Spelled.keeps_order _ _ _ c.in-Ok-range.ensures.ok)) (told is)) c.typed-found.result c.typed-found.ensures.foreign

pub returns-clause-none : goal.returns-clause-none
returns-clause-none g c = err_weaker _ _ (λ e told is. has_foreign g.P.Pages.store g.M.MergeOperator.meant _ _ g.K.Spelled.spelling g.V.Spelled.spelling g.met.K.Spelled.keeps_order _ _ _ _ c.in-Ok.ensures.are_values.0 c.in-Ok.ensures.are_values.1 (c.lend_bound.ensures ∙ c.in-Ok.ensures.lo) (c.lend_bound-2.ensures ∙ c.in-Ok.ensures.hi)
    c.in-Ok-range.entries c.in-Ok-range.ensures.ok _ (c.as_slice.ensures.value ∙ c.in-Ok-pairs.ensures.all ∙ given_all c.in-Ok-range.entries (ends_empty g.P.Pages.store g.M.MergeOperator.meant _ _ g.K.Spelled.spelling g.V.Spelled.spelling g.met.K.Spelled.keeps_order _ _ _ c.in-Ok-range.ensures.ok)) (told is)) c.typed-found.result c.typed-found.ensures.foreign

pub returns-clause-err : goal.returns-clause-err
returns-clause-err g c = err_weaker _ _ (λ told k. for_more _ _ (λ e short. short_listing g.P.Pages.store g.M.MergeOperator.meant _ _ e short) told k) c.typed-found.result c.typed-found.ensures.err

pub returns-in-Err-pairs-clause-err : goal.returns-in-Err-pairs-clause-err
returns-in-Err-pairs-clause-err g c = listing_as_walk g.P.Pages.store g.M.MergeOperator.meant _ _ _ _ _ _ c.in-Ok-range.ensures.ok c.audit.ensures.sound c.in-Err-pairs.ensures.err
