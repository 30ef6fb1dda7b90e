use Rattle.std.proofs.Common.{sym, ◌∙◌}
use Rattle.typed_map.proofs.Walking.{typed_next, foreign_key, foreign_value}
use Rattle.typed_map.proofs.typed.typed.Goals as goal

pub pairs-preserved : goal.pairs-preserved
pairs-preserved g c = typed_next g.K.Spelled.spelling g.V.Spelled.spelling c.args.pairs.now c.pairs.pair-index c.pairs.found.items _ c.pair-item.result c.in-Ok.key c.in-Ok-read_whole.value c.pairs-test.true c.pair-item.is c.pairs.invariant
    (c.in-Ok.ensures.ok.0, sym c.as_ref.ensures ∙ c.in-Ok.ensures.ok.1) (c.in-Ok-read_whole.ensures.ok.0, sym c.as_ref-in-pairs.ensures ∙ c.in-Ok-read_whole.ensures.ok.1) c.in_default.ensures.items

pub returns-in-Err-clause-foreign : goal.returns-in-Err-clause-foreign
returns-in-Err-clause-foreign g c = λ e. foreign_key g.K.Spelled.spelling g.V.Spelled.spelling c.args.pairs.now c.pairs.pair-index c.pair-item.result _ c.pairs-test.true c.pair-item.is c.as_ref.ensures (c.in-Err.ensures.foreign e)

pub returns-in-Err-read_whole-clause-foreign : goal.returns-in-Err-read_whole-clause-foreign
returns-in-Err-read_whole-clause-foreign g c = λ e. foreign_value g.K.Spelled.spelling g.V.Spelled.spelling c.args.pairs.now c.pairs.pair-index c.pair-item.result _ c.pairs-test.true c.pair-item.is c.as_ref-in-pairs.ensures (c.in-Err-read_whole.ensures.foreign e)
