use Rattle.std.proofs.Common.{refl, ap, ◌∙◌, ◌≡◌, ◌++◌, ◌∷◌, [], ◌⊎◌, ◌<◌, inl, inr, true, length, option_to_list, rules}
use Rattle.sled_pages.specs.Table.{undo_given}
use Rattle.sled_nodes.proofs.All.{all_front}
use Rattle.sled_pages.proofs.Back.{back_none, back_one, kept_back, place_of_last}
use Rattle.sled_pages.proofs.memory.back.take_all_back.Goals as goal
use Rattle.sled_pages.proofs.memory.back.take_all_back.Goals.{then-len-keep, else-len-keep+then-in_group}

pub loop-log-init : goal.loop-log-init
loop-log-init c = record { kept = c.requires.kept; places = refl; given = refl; ascends = c.requires.ascends; below = λ next h. h; so_far = back_none _ _ _ }

pub loop-log-preserved : goal.loop-log-preserved
loop-log-preserved c =
    let last : c.loop-log.log.items ≡ c.pop.new.self.items ++ c.in-Some.undo ∷ [] = c.pop.ensures.items ∙ ap (λ o. c.pop.new.self.items ++ option_to_list o) c.in-Some.is in
    let back = c.in_ok-take_back-in-Some.ensures.ok in
    let cause : (c.args.keep < length c.loop-log.log.items) ⊎ (c.loop-log.in_group ≡ true) = elim c.if-len-keep.branch [ then-len-keep w ↦ inl (search rules) | else-len-keep+then-in_group w ↦ inr w.if-in_group.true ] in
    record {
      kept = kept_back _ _ _ _ _ _ _ last c.in_ok-take_back-in-Some.ensures.places back c.loop-log.invariant.kept;
      places = c.in_ok-take_back-in-Some.ensures.places ∙ c.loop-log.invariant.places;
      given = c.in_ok-take_back-in-Some.ensures.given ∙ c.loop-log.invariant.given;
      ascends = c.in_ok-take_back-in-Some.ensures.ascends;
      below = λ next h. let k = c.loop-log.invariant.below next h in let f = all_front (undo_given next) _ _ _ last k.in_log in record { here = c.in_ok-take_back-in-Some.ensures.below next k.here f.1; in_log = f.0 };
      so_far = back_one _ _ _ _ _ _ _ _ last back cause c.loop-log.invariant.so_far;
    }

pub take_back-requires-clause-placed : goal.take_back-requires-clause-placed
take_back-requires-clause-placed c =
    place_of_last _ _ _ c.in-Some.undo (c.pop.ensures.items ∙ ap (λ o. c.pop.new.self.items ++ option_to_list o) c.in-Some.is) c.loop-log.invariant.kept.placed

pub returns-in_err-take_back-in-Some-clause-places : goal.returns-in_err-take_back-in-Some-clause-places
returns-in_err-take_back-in-Some-clause-places c = c.take_back.ensures.places ∙ c.loop-log.invariant.places
