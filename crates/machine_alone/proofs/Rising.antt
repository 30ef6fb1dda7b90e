-- Each id that a step gives is above those before it.
use Rattle.std.proofs.Common.{◌≡◌, ℕ, zero, suc, ◌+◌, ◌≤◌, List, [], ◌∷◌, ◌++◌, Option, Some, None, refl, ap, ◌∙◌, inl, inr, arith}
use Rattle.sled_nodes.specs.Order.{Key}
use Rattle.sled_store.specs.Store.{Store}
use Rattle.sled_model.specs.Maps.{Maps, Merge}
use Rattle.sled_model.specs.Answer.{answer_of}
use Rattle.sled_model.specs.Groups.{Write, writes_of, after_write_on, after_writes}
use Rattle.sled_model.specs.Imports.{Part, OpensName, Puts, does_part_as, DoesParts, NoPart, OnePart}
use Rattle.sled_model.specs.State.{State, NamedTree, after_decision_on}
use Rattle.sled_model.specs.Transition.{Configuration, transition_as}
use Rattle.sled_model.specs.Whole.{after_pop, RemovesLeast, RemovesNone, RemovesOne, state_opened, state_dropped}
use Rattle.sled_model.specs.declared.call.Call.TheVariants.{Remove}
use Rattle.sled_model.specs.declared.call.Whole.{Whole}
use Rattle.sled_model.specs.declared.call.Whole.TheVariants.{Flush, PopMin, PopMax, Clear, Group, OpenTree, DropTree, GenerateId, Import, Watch, Next, Unsubscribe}
use Rattle.sled_model.specs.declared.outcome.Step.{Step}
use Rattle.sled_model.specs.declared.outcome.Step.TheVariants as step
use Rattle.sled_model.specs.declared.outcome.Outcome.{Outcome}
use Rattle.sled_model.specs.declared.outcome.Outcome.TheVariants as outcome
use Rattle.sled_model.specs.declared.reply.Reply.{Reply}
use Rattle.sled_model.specs.declared.reply.Reply.TheVariants as told
use Rattle.sled_model.specs.declared.tree.Tree.{Tree}
use Rattle.sled_model.proofs.Shapes.{after_write}
use Rattle.machine_alone.specs.Ids.{id_of, ids_of, RiseBetween}
use Rattle.machine_alone.specs.Run.{MachineSteps, NoCalls, OneCall}
use Rattle.machine_alone.specs.Values.{MachineValue, configuration_of}

-- where no id was given the greatest stays
stays : (a b : State) → b ≡ a → a.greatest_id ≤ b.greatest_id
stays a b e = same (ap (λ (s : State). s.greatest_id) e)
  where
    same : b.greatest_id ≡ a.greatest_id → a.greatest_id ≤ b.greatest_id
    same f = omega arith

pub at_most : (x y : ℕ) → y ≡ x → x ≤ y
at_most x y e = omega arith

popped : (s : State) (name : Key) (t : NamedTree) (found : Option (Key × Key)) → (after_pop s name t found).greatest_id ≡ s.greatest_id
popped s name t None = refl
popped s name t (Some pair) = refl

removed : (tree : Tree) (a b : State) (n : ℕ) (maps : List Maps) → RemovesLeast tree a n b maps → b.greatest_id ≡ a.greatest_id
removed tree a b zero [] RemovesNone = refl
removed tree a b (suc n) (m ∷ maps) (RemovesOne named pair rest there is more) = removed tree (after_decision_on a tree.name named (answer_of named.merge (Remove pair.0) named.map)) b n maps more
removed tree a b zero (m ∷ maps) run = elim run [ ]
removed tree a b (suc n) [] run = elim run [ ]

opened : (o : Option NamedTree) (s : State) (name : Key) → (state_opened o s name).greatest_id ≡ s.greatest_id
opened (Some t) s name = refl
opened None s name = refl

dropped : (o : Option NamedTree) (s : State) (name : Key) → (state_dropped o s name).greatest_id ≡ s.greatest_id
dropped (Some t) s name = refl
dropped None s name = refl

-- no part of an import gives an id
part_done : (a b : State) (part : Part) (maps : List Maps) → does_part_as a part b maps → b.greatest_id ≡ a.greatest_id
part_done a b (OpensName name) maps d = ap (λ (s : State). s.greatest_id) d.0 ∙ opened (a.trees name) a name
part_done a b (Puts name key value) maps d = ap (λ (s : State). s.greatest_id) d.is

parts_done : {a b : State} {parts : List Part} {maps : List Maps} → DoesParts a parts b maps → b.greatest_id ≡ a.greatest_id
parts_done NoPart = refl
parts_done (OnePart {a = a} {m = m} {part = part} added one more) = parts_done more ∙ part_done a m part added one

-- no write of a group gives an id
written_on : (o : Option NamedTree) (w : Write) (s : State) → (after_write_on o w s).greatest_id ≡ s.greatest_id
written_on None w s = refl
written_on (Some t) w s = refl

written : (ws : List Write) (s : State) → (after_writes ws s).greatest_id ≡ s.greatest_id
written [] s = refl
written (w ∷ ws) s = written ws (after_write w s) ∙ written_on (s.trees w.tree.name) w s

-- an id was given
one_given : (low high : ℕ) (reply : Reply) → reply ≡ told.Number (low + 1) → high ≡ low + 1 → RiseBetween low (id_of (step.Whole GenerateId) (outcome.Decided reply)) high
one_given low high (told.Number id) r h = let e = number_is r in (omega arith, omega arith)
  where
    number_is : told.Number id ≡ told.Number (low + 1) → id ≡ low + 1
    number_is e = cc
one_given low high other r h = omega arith

whole_rises : (a b : Configuration) (w : Whole) (o : Outcome) (maps : List Maps) → transition_as a (step.Whole w) o b maps → RiseBetween a.state.greatest_id (id_of (step.Whole w) o) b.state.greatest_id
whole_rises a b Flush (outcome.Decided reply) maps t = stays a.state b.state t.2
whole_rises a b (PopMin tree) (outcome.Decided reply) maps t = at_most _ _ (ap (λ (s : State). s.greatest_id) t.is ∙ popped a.state tree.name t.named t.found)
whole_rises a b (PopMax tree) (outcome.Decided reply) maps t = at_most _ _ (ap (λ (s : State). s.greatest_id) t.is ∙ popped a.state tree.name t.named t.found)
whole_rises a b (Clear tree) (outcome.Decided reply) maps t = at_most _ _ (removed tree a.state b.state t.1.parts maps t.1.removes)
whole_rises a b (Group batches) (outcome.Decided reply) maps t = at_most _ _ (ap (λ (s : State). s.greatest_id) t.is ∙ written (writes_of batches.items) a.state)
whole_rises a b (OpenTree name) (outcome.Decided reply) maps t = at_most _ _ (ap (λ (s : State). s.greatest_id) t.is ∙ opened (a.state.trees name) a.state name)
whole_rises a b (DropTree name) (outcome.Decided reply) maps t = at_most _ _ (ap (λ (s : State). s.greatest_id) t.is ∙ dropped (a.state.trees name) a.state name)
whole_rises a b GenerateId (outcome.Decided reply) maps t = one_given a.state.greatest_id b.state.greatest_id reply t.replies (ap (λ (s : State). s.greatest_id) t.is)
whole_rises a b (Import collections) (outcome.Decided reply) maps t = at_most _ _ (parts_done t.1.does)
whole_rises a b (Watch tree prefix) (outcome.Decided reply) maps t = at_most _ _ (ap (λ (s : State). s.greatest_id) t.2.is)
whole_rises a b (Next subscriber) (outcome.Decided reply) maps t = at_most _ _ (ap (λ (s : State). s.greatest_id) t.2.is)
whole_rises a b (Unsubscribe subscriber) (outcome.Decided reply) maps t = at_most _ _ (ap (λ (s : State). s.greatest_id) t.1)
whole_rises a b (Clear tree) (outcome.Refused e) maps t = at_most _ _ (removed tree a.state b.state t.parts maps t.removes)
whole_rises a b (Group batches) (outcome.Refused e) maps t = elim t.is [
  | inl same ↦ stays a.state b.state same
  | inr closed ↦ at_most _ _ (ap (λ (s : State). s.greatest_id) closed.1.is)
]
whole_rises a b (Import collections) (outcome.Refused e) maps t = elim t [
  | inl none ↦ stays a.state b.state none.1
  | inr parts ↦ at_most _ _ (parts_done parts.1.does)
]
whole_rises a b (Next subscriber) (outcome.Refused e) maps t = absurd t
whole_rises a b (Unsubscribe subscriber) (outcome.Refused e) maps t = absurd t
whole_rises a b other (outcome.Refused e) maps t = stays a.state b.state t.1
whole_rises a b w other maps t = absurd t

pub step_rises : (a b : Configuration) (s : Step) (o : Outcome) (maps : List Maps) → transition_as a s o b maps → RiseBetween a.state.greatest_id (id_of s o) b.state.greatest_id
step_rises a b (step.Whole w) o maps t = whole_rises a b w o maps t
step_rises a b (step.Begin tree call) (outcome.Begun slot) maps t = at_most _ _ (ap (λ (s : State). s.greatest_id) t.0.is)
step_rises a b (step.Begin tree call) (outcome.Refused e) maps t = stays a.state b.state t.1
step_rises a b (step.Begin tree call) other maps t = absurd t
step_rises a b (step.Step slot) outcome.NoSuchSlot maps t = stays a.state b.state t.0.1
step_rises a b (step.Step slot) (outcome.Begun i) maps t = absurd t
step_rises a b (step.Step slot) outcome.Abandoned maps t = absurd t
step_rises a b (step.Step slot) other maps t = at_most _ _ (ap (λ (s : State). s.greatest_id) t.0.is)
step_rises a b (step.Abandon slot) outcome.NoSuchSlot maps t = stays a.state b.state t.0.1
step_rises a b (step.Abandon slot) outcome.Abandoned maps t = at_most _ _ (ap (λ (s : State). s.greatest_id) t.0.is)
step_rises a b (step.Abandon slot) other maps t = absurd t

-- two lists one after the other
pub rise_on : (low mid high : ℕ) (xs ys : List ℕ) → RiseBetween low xs mid → RiseBetween mid ys high → RiseBetween low (xs ++ ys) high
rise_on low mid high [] ys x y = lower low mid ys x y
  where
    lower : (low mid : ℕ) (ys : List ℕ) → low ≤ mid → RiseBetween mid ys high → RiseBetween low ys high
    lower low mid [] l y = omega arith
    lower low mid (id ∷ ids) l y = let first = y.0 in (omega arith, y.1)
rise_on low mid high (id ∷ ids) ys x y = (x.0, rise_on id mid high ids ys x.1 y)

module _ {P M : Type 0} (store : P → Store) (number : P → ℕ) (meant : M → Merge) where
  pub run_rises : (a b : MachineValue P M) (ss : List Step) (os : List Outcome) → MachineSteps store number meant a ss os b → RiseBetween a.db.greatest_id (ids_of ss os) b.db.greatest_id
  run_rises a b [] [] NoCalls = at_most a.db.greatest_id a.db.greatest_id refl
  run_rises a b (s ∷ ss) (o ∷ os) (OneCall {m = m} one rest) =
      rise_on a.db.greatest_id m.db.greatest_id b.db.greatest_id (id_of s o) (ids_of ss os)
      (step_rises (configuration_of store number meant a) (configuration_of store number meant m) s o one.step.maps one.step.step.is)
      (run_rises m b ss os rest)
  run_rises a b [] (o ∷ os) run = elim run [ ]
  run_rises a b (s ∷ ss) [] run = elim run [ ]
