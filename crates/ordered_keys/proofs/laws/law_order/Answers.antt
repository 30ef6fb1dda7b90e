use Rattle.ordered_keys.proofs.Order.{keeps_order}
use Rattle.ordered_keys.proofs.laws.law_order.Goals as goal

pub returns : goal.returns
returns c = keeps_order
