use Rattle.std.proofs.Common.{◌≤◌, ◌<◌, length, get_or, rules, arith}
use Rattle.sled_nodes.proofs.All.{le_more, le_front}
use Rattle.sled_nodes.proofs.stripped.greatest_pid.Goals as goal

pub loop-pointer-preserved : goal.loop-pointer-preserved
loop-pointer-preserved c =
    let es = c.args.pointers.now in
    let i = c.loop-pointer.pointer-index in
    let h : i < length es = omega arith in
    let a : c.loop-pointer.greatest ≤ c.max-greatest.result = search rules in
    let b : (get_or es i c.pointer-item.result).1 ≤ c.max-greatest.result = search rules in
    let l = c.loop-pointer.invariant.least in
    record {
      least = omega arith;
      all = le_more es i c.loop-pointer.greatest c.max-greatest.result c.pointer-item.result h a b c.loop-pointer.invariant.all;
      such = λ n k e.
          let front = le_front es i n c.pointer-item.result h e in
          let before : c.loop-pointer.greatest ≤ n = c.loop-pointer.invariant.such n k front.0 in
          let here : (get_or es i c.pointer-item.result).1 ≤ n = front.1 in
          search rules;
    }
