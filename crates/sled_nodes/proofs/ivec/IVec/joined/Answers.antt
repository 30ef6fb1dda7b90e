use Rattle.std.proofs.Common.{◌≡◌, subst, IfOk}
use Rattle.sled_nodes.proofs.Strings.{joined_in}
use Rattle.sled_nodes.proofs.ivec.IVec.joined.Goals as goal

pub returns-then-len-le-MIDDLE-clause-ok : goal.returns-then-len-le-MIDDLE-clause-ok
returns-then-len-le-MIDDLE-clause-ok c = subst (λ l. IfOk c.from_slice.result (λ made. made ≡ l)) (joined_in c.args.front.now c.args.back.now c.copy_from_slice.new.self c.copy_from_slice-then-len-le-MIDDLE.new.self _ _ c.copy_from_slice.ensures.after c.copy_from_slice-then-len-le-MIDDLE.ensures.after) c.from_slice.ensures.ok
