use Rattle.std.proofs.Common.{◌∙◌, ap}
use Rattle.std.specs.Cmp.Lexicographic.{pointwise}
use Rattle.sled_model.specs.Collections.{contents_of}
use Rattle.machine_shared.proofs.SameContents.{same_content, same_contents}
use Rattle.machine_shared.proofs.told.CollectionsPartialEq.eq.Goals as goal

pub returns : goal.returns
returns c = c.eq.ensures ∙ same_contents c.as_slice.result.now c.as_slice-2.result.now
    ∙ ap (λ l. pointwise same_content l (contents_of c.as_slice-2.result.now)) c.as_slice.ensures
    ∙ ap (λ l. pointwise same_content c.args.self.now l) c.as_slice-2.ensures
