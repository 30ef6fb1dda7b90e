-- What steps note, told by their outcomes alone.
use Rattle.std.proofs.Common.{◌≡◌, ◌≢◌, ◌∙◌, ℕ, Bool, true, false, cond, List, [], ◌∷◌, ◌++◌, append-nil, Option, Some, None, is_none, Result, Ok, Err, IfOk, sym, refl, ap, subst}
use Rattle.sled_nodes.proofs.Basics.{none_some, true_false}
use Rattle.sled_nodes.specs.Order.{Key}
use Rattle.sled_nodes.specs.declared.error.Error.{Error}
use Rattle.sled_nodes.specs.Ranges.{Range}
use Rattle.sled_store.specs.Store.{Store}
use Rattle.sled_model.specs.Maps.{Maps, Merge}
use Rattle.sled_model.specs.Answer.{decision_of, effect_of_write}
use Rattle.sled_model.specs.State.{State, CallInFlight, IsOnKey, range_of}
use Rattle.sled_model.specs.Transition.{transition_as, Decide}
use Rattle.sled_model.specs.declared.call.Call.{Call}
use Rattle.sled_model.specs.declared.call.Call.TheVariants.{Get, Insert, Remove, CompareAndSwap, Merge as Merges, Scan}
use Rattle.sled_model.specs.declared.decision.Decision.{Decision}
use Rattle.sled_model.specs.declared.decision.Effect.TheVariants as effect
use Rattle.sled_model.specs.declared.tree.Tree.{Tree}
use Rattle.sled_model.specs.declared.reply.Reply.{Reply}
use Rattle.sled_model.specs.declared.reply.Reply.TheVariants as told
use Rattle.sled_model.specs.declared.outcome.Outcome.{Outcome}
use Rattle.sled_model.specs.declared.outcome.Outcome.TheVariants as outcome
use Rattle.sled_model.specs.declared.outcome.Step.TheVariants as step
use Rattle.sled_model.proofs.Shapes.{same_value}
use Rattle.machine_alone.specs.Values.{MachineValue, configuration_of, slots_of}
use Rattle.machine_shared.specs.Made.{MadeValue, PointMade}
use Rattle.machine_shared.specs.Notes.{noted_as, noted_in, AddsReply, AddsStep}
use Rattle.machine_shared.specs.Steps.{SlotStep}
use Rattle.machine_shared.specs.theory.Noting.{is_on_key_in}

-- the reply of a scan is its end, and of no call on a key
scan_ends : (merge : Option Merge) (call : Call) (value : Option Key) (r : Range) → range_of call ≡ Some r → (decision_of merge call value).reply ≡ told.End
scan_ends merge (Scan lo hi back) value r e = refl
scan_ends merge other value r e = none_some e

either_no_end : (b : Bool) (x y : Decision) → (x.reply ≡ told.End → ⊥) → (y.reply ≡ told.End → ⊥) → (cond b x y).reply ≡ told.End → ⊥
either_no_end true x y f g h = f h
either_no_end false x y f g h = g h

pub no_end : (merge : Option Merge) (call : Call) (value : Option Key) → range_of call ≡ None → (decision_of merge call value).reply ≢ told.End
no_end merge (Get k) value e h = cc
no_end merge (Insert k v) value e h = cc
no_end merge (Remove k) value e h = cc
no_end merge (CompareAndSwap k old new) value e h =
    let swapped : Decision = record { effect = effect_of_write new; reply = told.Swapped (Ok tt) } in
    let conflict : Decision = record { effect = effect.Nothing; reply = told.Swapped (Err (record { current = value; proposed = new })) } in
    either_no_end (same_value value old) swapped conflict (λ q. cc) (λ q. cc) h
no_end None (Merges k bytes) value e h = cc
no_end (Some merge) (Merges k bytes) value e h = cc
no_end merge (Scan lo hi back) value e h = none_some (sym e)

-- a reply that is no end comes to the list
adds_reply : (reply : Reply) (tree : Tree) (call : Call) (made more : List MadeValue) → reply ≢ told.End → more ≡ made ++ PointMade tree call reply ∷ [] → AddsReply reply made more
adds_reply told.End tree call made more off e = absurd (off refl)
adds_reply other tree call made more off e = (tree, call, e)

decided_adds : (old new : State) (slot : ℕ) (reply : Reply) (made more : List MadeValue) → Decide old slot reply new → more ≡ made ++ noted_in (outcome.Decided reply) (old.slots slot) → AddsReply reply made more
decided_adds old new slot reply made more d e = go (range_of d.flying.call) refl
  where
    noted : (r : Option Range) → range_of d.flying.call ≡ r → more ≡ made ++ noted_as r d.flying.tree d.flying.call reply
    noted r k = e ∙ ap (λ s. made ++ noted_in (outcome.Decided reply) s) d.here ∙ ap (λ z. made ++ noted_as z d.flying.tree d.flying.call reply) k

    go : (r : Option Range) → range_of d.flying.call ≡ r → AddsReply reply made more
    go None k = adds_reply reply d.flying.tree d.flying.call made more (λ h. no_end d.tree.merge d.flying.call _ k (sym d.replies ∙ h)) (noted None k)
    go (Some r) k = subst (λ x. AddsReply x made more) (sym (d.replies ∙ scan_ends d.tree.merge d.flying.call _ r k)) (noted (Some r) k ∙ append-nil made)

-- what a step of a slot adds is told by its outcome
pub step_adds : {P M : Type 0} (store : P → Store) (number : P → ℕ) (meant : M → Merge) (a b : MachineValue P M) (slot : ℕ) (o : Outcome) (made more : List MadeValue) → SlotStep store number meant a slot o b
    → more ≡ made ++ noted_in o (slots_of a.flights slot) → AddsStep o made more
step_adds store number meant a b slot o made more s e = go o _ s.step.step.is e
  where
    go : (o : Outcome) (maps : List Maps) → transition_as (configuration_of store number meant a) (step.Step slot) o (configuration_of store number meant b) maps → more ≡ made ++ noted_in o (slots_of a.flights slot) → AddsStep o made more
    go (outcome.Decided reply) maps t e = decided_adds _ _ slot reply made more t.0 e
    go outcome.Abandoned maps t e = absurd t
    go (outcome.Begun i) maps t e = absurd t
    go other maps t e = e ∙ append-nil made

-- where there was memory to make a call on a key it is one
pub on_key_made : (made : Result Call Error) (call : Call) → IfOk made (λ it. it ≡ call) → IsOnKey call → IfOk made IsOnKey
on_key_made (Ok it) call e k = subst IsOnKey (sym e) k
on_key_made (Err x) call e k = tt

-- nothing is noted of a slot that has no call on a key
not_noted_as : (r : Option Range) (tree : Tree) (call : Call) (reply : Reply) → is_none r ≡ false → [] ≡ noted_as r tree call reply
not_noted_as None tree call reply e = true_false e
not_noted_as (Some r) tree call reply e = refl

pub not_noted : (o : Outcome) (slot : Option CallInFlight) → is_on_key_in slot ≡ false → [] ≡ noted_in o slot
not_noted (outcome.Decided reply) None e = refl
not_noted (outcome.Decided reply) (Some f) e = not_noted_as (range_of f.call) f.tree f.call reply e
not_noted other slot e = refl
