use Rattle.call_laws.proofs.Recording.{begun_record, in_pages, some_before}
use Rattle.call_laws.proofs.laws.audit_opening.Goals as goal

pub returns-clause-begins : goal.returns-clause-begins
returns-clause-begins g c = λ earlier before. begun_record g.P.Pages.store c.args.db.now c.audit.ensures.sound earlier before

pub returns-clause-maps : goal.returns-clause-maps
returns-clause-maps g c = in_pages g.P.Pages.store c.args.db.now c.audit.ensures.sound

pub returns-clause-some : goal.returns-clause-some
returns-clause-some g c = λ opens. some_before (g.P.Pages.store c.args.db.now.pages) opens
