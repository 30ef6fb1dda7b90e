use Rattle.std.proofs.Common.{sym, ◌∙◌}
use Rattle.sled_nodes.proofs.Prefixes.{rests_are}
use Rattle.sled_nodes.proofs.stripped.Stripped.rests.Goals as goal

pub returns : goal.returns
returns g c = rw (← c.self.view_is) (c.as_slice.ensures ∙ sym (rests_are c.self.inside.prefix c.self.inside.rests c.self.invariant))
