-- What kept replies tell of the map, at the step that decided and right after it.
use Rattle.std.proofs.Common.{◌≡◌, ℕ, Option, Some, IfSome, sym, ap, ◌∙◌, subst}
use Rattle.std.specs.FinMap.Entries.{find}
use Rattle.sled_nodes.specs.Order.{Key, key_cmp}
use Rattle.sled_store.specs.Store.{Store}
use Rattle.sled_store.specs.theory.Facts.{put_name_here}
use Rattle.sled_model.specs.Answer.{answer_of}
use Rattle.sled_model.specs.Maps.{Map, Merge}
use Rattle.sled_model.specs.State.{State, CallInFlight}
use Rattle.sled_model.specs.Transition.{Decide}
use Rattle.sled_model.specs.declared.call.Call.{Call}
use Rattle.sled_model.specs.declared.call.Call.TheVariants.{Get}
use Rattle.sled_model.specs.declared.reply.Reply.{Reply}
use Rattle.sled_model.specs.declared.reply.Reply.TheVariants.{Value}
use Rattle.sled_model.specs.declared.outcome.Step.TheVariants as step
use Rattle.sled_model.specs.declared.outcome.Outcome.{Outcome}
use Rattle.sled_model.specs.declared.outcome.Outcome.TheVariants.{Decided}
use Rattle.tree_steps.specs.Outcomes.{kept_of}
use Rattle.sled.specs.Values.{db_state}
use Rattle.machine_alone.specs.Step.{MachineStep}
use Rattle.machine_alone.specs.Values.{MachineValue, slots_of, configuration_of}
use Rattle.edit_calls.specs.Kept.{RepliesAt, AreValueAt}

same_call : (f g : CallInFlight) → Some f ≡ Some g → f ≡ g
same_call f g e = cc

-- a `Get` leaves the map, and replies what that has
reads : (merge : Option Merge) (key : Key) (map : Map) (call : Call) (reply : Reply) → call ≡ Get key → reply ≡ (answer_of merge call map).reply → reply ≡ Value (find key_cmp key (answer_of merge call map).map)
reads merge key map call reply e = subst (λ c. reply ≡ (answer_of merge c map).reply → reply ≡ Value (find key_cmp key (answer_of merge c map).map)) (sym e) (λ r. r)

module _ {P M : Type 0} (store : P → Store) (flush_number : P → ℕ) (meant : M → Merge) (slot : ℕ) (old new : MachineValue P M) where
  -- the states before and after
  abbrev before : State
  before = (configuration_of store flush_number meant old).state

  abbrev after : State
  after = (configuration_of store flush_number meant new).state

  -- of each decision it is so
  abbrev Told : (Reply × Reply → Type 0) → Type 0
  Told claim = (reply : Reply) → Decide before slot reply after → claim (reply, reply)

  of_kept : (claim : Reply × Reply → Type 0) (o : Outcome) (copies : Option (Reply × Reply)) → Told claim → copies ≡ kept_of o → MachineStep store flush_number meant old (step.Step slot) o new → IfSome copies claim
  of_kept claim o copies told kept one = subst (λ c. IfSome c claim) (sym kept) (go o one)
    where
      go : (o : Outcome) → MachineStep store flush_number meant old (step.Step slot) o new → IfSome (kept_of o) claim
      go (Decided reply) one = told reply one.step.is.0
      go other one = tt

  pub replies_kept : (o : Outcome) (copies : Option (Reply × Reply)) → copies ≡ kept_of o → MachineStep store flush_number meant old (step.Step slot) o new → IfSome copies (RepliesAt before slot)
  replies_kept o copies = of_kept (RepliesAt before slot) o copies (λ reply d. record { flying = d.flying; here = d.here; tree = d.tree; there = d.there; one = d.replies; other = d.replies })

  value_now : (flying : CallInFlight) (key : Key) → slots_of old.flights slot ≡ Some flying → flying.call ≡ Get key → Told (AreValueAt (db_state store meant new.db) flying.tree key)
  value_now flying key here get reply d =
      let same = same_call d.flying flying (sym d.here ∙ here) in
      let answer = answer_of d.tree.merge d.flying.call d.tree.map in
      let told = reads d.tree.merge key d.tree.map d.flying.call reply (ap (λ (f : CallInFlight). f.call) same ∙ get) d.replies in
      record {
        named = record (d.tree) { map = answer.map };
        there = subst (λ (f : CallInFlight). after.trees f.tree.name ≡ Some (record (d.tree) { map = answer.map })) same
            (ap (λ (s : State). s.trees d.flying.tree.name) d.is ∙ put_name_here before.trees d.flying.tree.name (Some (record (d.tree) { map = answer.map })));
        one = told;
        other = told;
      }

  pub value_kept : (o : Outcome) (copies : Option (Reply × Reply)) → copies ≡ kept_of o → MachineStep store flush_number meant old (step.Step slot) o new
      → (flying : CallInFlight) (key : Key) → slots_of old.flights slot ≡ Some flying → flying.call ≡ Get key → IfSome copies (AreValueAt (db_state store meant new.db) flying.tree key)
  value_kept o copies kept one flying key here get = of_kept (AreValueAt (db_state store meant new.db) flying.tree key) o copies (value_now flying key here get) kept one
