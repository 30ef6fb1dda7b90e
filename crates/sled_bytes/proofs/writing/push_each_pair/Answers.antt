use Rattle.std.proofs.Common.{subst}
use Rattle.std.proofs.lemmas.List.Elements.{All-more}
use Rattle.sled_bytes.specs.Spelling.{pair, FitsPair}
use Rattle.sled_bytes.proofs.Fronts.{each_more}
use Rattle.sled_bytes.proofs.writing.push_each_pair.Goals as goal

pub pairs-preserved : goal.pairs-preserved
pairs-preserved c =
    record {
      written = each_more pair c.args.pairs.now c.pairs.entry-index _ _ c.args.out.now.items c.pairs.out.items _ c.pairs-test.true c.pairs.invariant.written c.entry-item.is c.in_ok-push_pair.ensures.ok;
      fits = All-more FitsPair c.args.pairs.now c.pairs.entry-index _ c.pairs-test.true c.pairs.invariant.fits (subst FitsPair c.entry-item.is c.in_ok-push_pair.ensures.fits);
    }
