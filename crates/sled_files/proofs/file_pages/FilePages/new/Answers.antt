use Rattle.sled_files.proofs.Added.{sound_new}
use Rattle.sled_files.proofs.file_pages.FilePages.new.Goals as goal

pub invariant_of-result : goal.invariant_of-result
invariant_of-result g c = sound_new c.args.pages c.args.files _ c.new.result.items c.mark.result c.new.ensures.items c.mark.ensures c.requires.stands c.requires.within
