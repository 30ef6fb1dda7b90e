use Rattle.std.proofs.Common.{true, false, Ok, Err, sym, refl, ◌∙◌}
use Rattle.sled_tree.proofs.Linking.{link_refused, link_late, link_done, prepared_so}
use Rattle.sled_tree.proofs.act.link_change.Goals as goal

pub returns-in-Err : goal.returns-in-Err
returns-in-Err g c = prepared_so c.args.change _ _ _ _ (Err c.in-Err.e) (link_refused c.args.change.link _ _ c.args.flight.now c.in-Act.leaf (sym c.replace.ensures.value ∙ c.in-Act.is) _ _ c.in-Err.ensures.err) _ refl

pub returns-in-Ok-Err : goal.returns-in-Ok-Err
returns-in-Ok-Err g c = rw c.replace.ensures.after (prepared_so c.args.change _ _ _ _ (Ok false) (link_late c.args.change.link _ _ c.args.flight.now c.in-Act.leaf (sym c.replace.ensures.value ∙ c.in-Act.is) _ (rw c.in-Ok-Err.field-0-is at c.in-Ok-Err.ensures.ok)) _ refl)

pub returns-in-Ok-Ok : goal.returns-in-Ok-Ok
returns-in-Ok-Ok g c = prepared_so c.args.change _ _ _ _ (Ok true) (link_done c.args.change.link _ _ c.args.flight.now c.in-Act.leaf (sym c.replace.ensures.value ∙ c.in-Act.is) _ _ (rw c.in-Ok-Ok.field-0-is at c.in-Ok-Ok.ensures.ok)) _ refl
