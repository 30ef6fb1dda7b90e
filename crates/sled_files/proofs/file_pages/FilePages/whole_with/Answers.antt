use Rattle.sled_files.proofs.file_pages.FilePages.whole_with.Goals as goal

pub returns-in-Ok-clause-ok : goal.returns-in-Ok-clause-ok
returns-in-Ok-clause-ok g c = rw (← c.self.view_is) c.in-Ok.ensures.ok

pub returns-in-Ok-clause-long : goal.returns-in-Ok-clause-long
returns-in-Ok-clause-long g c = rw (← c.self.view_is) c.in-Ok.ensures.long
