use Rattle.std.proofs.Common.{◌≡◌, ◌++◌, take}
use Rattle.sled_nodes.specs.Prefix.{behind}
use Rattle.sled_nodes.proofs.stripped.add_whole.Given as goal

abbrev pub invariant-loop-rest : goal.invariant-loop-rest
invariant-loop-rest g l = l.list.items ≡ l.fn.list.items ++ behind l.prefix (take l.rest-index l.rests)
