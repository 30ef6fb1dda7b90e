use Rattle.std.proofs.Common.{subst}
use Rattle.std.proofs.lemmas.List.Elements.{All-more}
use Rattle.sled_bytes.specs.Spelling.{pointer, FitsPointer}
use Rattle.sled_bytes.proofs.Fronts.{each_more}
use Rattle.sled_bytes.proofs.writing.push_each_pointer.Goals as goal

pub pointers-preserved : goal.pointers-preserved
pointers-preserved c =
    record {
      written = each_more pointer c.args.pointers.now c.pointers.entry-index _ _ c.args.out.now.items c.pointers.out.items _ c.pointers-test.true c.pointers.invariant.written c.entry-item.is c.in_ok-push_pointer.ensures.ok;
      fits = All-more FitsPointer c.args.pointers.now c.pointers.entry-index _ c.pointers-test.true c.pointers.invariant.fits (subst FitsPointer c.entry-item.is c.in_ok-push_pointer.ensures.fits);
    }
