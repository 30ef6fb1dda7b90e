use Rattle.std.proofs.Common.{◌≡◌, Some, true, refl, sym, ap, ◌∙◌}
use Rattle.std.proofs.lemmas.Result.{on_ok_weaker, on_err_weaker}
use Rattle.sled_pages.specs.Blocks.{has_of}
use Rattle.sled_pages.specs.theory.Linking.{link_answer}
use Rattle.sled_pages.specs.theory.Table.{slot_linked}
use Rattle.sled_pages.proofs.InPlace.{lies_here, lies_become, lies_stay, has_over}
use Rattle.sled_pages.proofs.memory.blocks.Blocks.link.Goals as goal

pub returns-in-Some-clause-ok : goal.returns-in-Some-clause-ok
returns-in-Some-clause-ok c =
    let has : has_of c.args.self.now c.args.place ≡ true = sym c.has.ensures ∙ c.if-not-has.false in
    let change = slot_linked c.args.link c.args.version c.args.next in
    on_ok_weaker c.link.result (λ e. lies_become c.args.self.now.blocks.items c.args.place c.index_mut-block.result.now c.index_mut.result.now has c.index_mut-block.ensures.value c.index_mut.ensures.value _ (Some c.link.new.self) change refl (e ∙ ap change (sym c.in-Some.is))) c.link.ensures.ok

pub returns-in-Some-clause-err : goal.returns-in-Some-clause-err
returns-in-Some-clause-err c =
    let has : has_of c.args.self.now c.args.place ≡ true = sym c.has.ensures ∙ c.if-not-has.false in
    on_err_weaker c.link.result (λ e. lies_stay c.args.self.now.blocks.items c.args.place c.index_mut-block.result.now c.index_mut.result.now has c.index_mut-block.ensures.value c.index_mut.ensures.value _ (Some c.link.new.self) refl (ap (λ s. Some s) e ∙ sym c.in-Some.is)) c.link.ensures.err

pub returns-in-Some-clause-places : goal.returns-in-Some-clause-places
returns-in-Some-clause-places c =
    let has : has_of c.args.self.now c.args.place ≡ true = sym c.has.ensures ∙ c.if-not-has.false in
    has_over c.args.self.now.blocks.items c.args.place c.index_mut-block.result.now c.index_mut.result.now has c.index_mut-block.ensures.value c.index_mut.ensures.value _ (Some c.link.new.self) refl

pub returns-in-None-clause-told : goal.returns-in-None-clause-told
returns-in-None-clause-told c =
    let has : has_of c.args.self.now c.args.place ≡ true = sym c.has.ensures ∙ c.if-not-has.false in
    sym (ap (link_answer c.args.pid c.args.version) (lies_here c.args.self.now.blocks.items c.args.place c.index_mut-block.result.now c.index_mut.result.now has c.index_mut-block.ensures.value c.index_mut.ensures.value ∙ c.in-None.is))

pub returns-in-None-clause-ok : goal.returns-in-None-clause-ok
returns-in-None-clause-ok c =
    let has : has_of c.args.self.now c.args.place ≡ true = sym c.has.ensures ∙ c.if-not-has.false in
    let change = slot_linked c.args.link c.args.version c.args.next in
    lies_become c.args.self.now.blocks.items c.args.place c.index_mut-block.result.now c.index_mut.result.now has c.index_mut-block.ensures.value c.index_mut.ensures.value _ c.index_mut.result.now change refl (c.in-None.is ∙ sym (ap change c.in-None.is))

pub returns-in-None-clause-places : goal.returns-in-None-clause-places
returns-in-None-clause-places c =
    let has : has_of c.args.self.now c.args.place ≡ true = sym c.has.ensures ∙ c.if-not-has.false in
    has_over c.args.self.now.blocks.items c.args.place c.index_mut-block.result.now c.index_mut.result.now has c.index_mut-block.ensures.value c.index_mut.ensures.value _ c.index_mut.result.now refl
