use Rattle.std.proofs.Common.{sym, ◌∙◌}
use Rattle.sled_nodes.proofs.Prefixes.{prefix_is}
use Rattle.sled_nodes.proofs.stripped.Stripped.prefix.Goals as goal

pub returns : goal.returns
returns g c = rw (← c.self.view_is) (c.as_ref.ensures ∙ sym (prefix_is c.self.inside.prefix c.self.inside.rests c.self.invariant))
