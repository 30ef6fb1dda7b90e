use Rattle.std.proofs.Common.{◌≡◌, length, take, drop, ap, ◌∙◌, arith}
use Rattle.std.proofs.lemmas.List.{length-take-le}
use Rattle.sled_nodes.specs.Prefix.{shared}
use Rattle.sled_nodes.proofs.Prefixes.{prefix_more}
use Rattle.sled_nodes.proofs.Strings.{no_prefix}
use Rattle.sled_nodes.proofs.prefix.prefix_len.Goals as goal

pub loop-i-preserved : goal.loop-i-preserved
loop-i-preserved g c =
    let h : length (take c.loop-i.count c.as_ref-first.result.now) ≡ c.loop-i.count = length-take-le c.loop-i.count c.as_ref-first.result.now c.loop-i.invariant.within in
    let w = c.shared_len-count.ensures.within in
    let n = c.loop-i.invariant.within in
    record {
      so_far = prefix_more c.args.pairs.now c.loop-i.i c.index-pairs-i.result c.as_ref-first.result.now c.loop-i.count c.shared_len-count.result c.loop-i-test.true (c.shared_len-count.ensures.is ∙ ap (λ k. length (shared (take c.loop-i.count c.as_ref-first.result.now) k)) c.as_ref.ensures) c.loop-i.invariant.so_far;
      within = omega (arith, h, w, n);
    }

pub returns-then-count-eq0 : goal.returns-then-count-eq0
returns-then-count-eq0 g c = no_prefix c.args.pairs.now (drop c.loop-i.i c.args.pairs.now) c.as_ref-first.result.now c.loop-i.count (omega arith) c.loop-i.invariant.so_far
