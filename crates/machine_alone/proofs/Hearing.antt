-- What a subscriber hears over a list of steps.
use Rattle.std.proofs.Common.{◌≡◌, ℕ, ◌≤◌, true, nat_eq, cond, List, ◌++◌, Option, Some, None, refl, sym, ap, subst, ◌∙◌, arith}
use Rattle.std.proofs.lemmas.Bool.{eq-eqb}
use Rattle.std.proofs.lemmas.Bool.Decides.{nat_tests}
use Rattle.sled_nodes.proofs.Basics.{none_some, some_is}
use Rattle.sled_nodes.specs.Order.{Key}
use Rattle.sled_store.specs.Store.{Store}
use Rattle.sled_model.specs.Maps.{Map, Merge}
use Rattle.sled_model.specs.State.{State, NamedTree, Queue}
use Rattle.sled_model.specs.Backlog.{no_backlog}
use Rattle.sled_model.specs.Queues.{backlog_in, waiting_in}
use Rattle.sled_model.specs.declared.call.Whole.TheVariants.{Watch}
use Rattle.sled_model.specs.declared.event.Event.{Event}
use Rattle.sled_model.specs.declared.tree.Tree.{Tree}
use Rattle.sled_model.specs.declared.reply.Reply.TheVariants.{Subscriber}
use Rattle.sled_model.specs.declared.outcome.Step.{Step}
use Rattle.sled_model.specs.declared.outcome.Step.TheVariants as step
use Rattle.sled_model.specs.declared.outcome.Outcome.{Outcome}
use Rattle.sled_model.specs.declared.outcome.Outcome.TheVariants.{Decided}
use Rattle.sled_queues.specs.Events.{after_turns, taken_by, brought, Stays}
use Rattle.sled_queues.specs.Hears as hearing
use Rattle.sled_queues.specs.Copies.{IsCopy, after_events, came_to, events_told, TellsEvents}
use Rattle.sled_queues.specs.Trees.{AreNumbered, IsTreeAfter}
use Rattle.sled_queues.proofs.Hearing.{hears_law, stays_there}
use Rattle.sled_queues.proofs.Copied.{follows_law}
use Rattle.sled_queues.proofs.Turning.{after_both_turns, stays_both, taken_both, turns_law, heard_law}
use Rattle.sled_queues.proofs.Numbering.{tree_after_both, trees_law}
use Rattle.sled_queues.proofs.Closing.{opens_none}
use Rattle.sled.specs.Sound.{IsDb}
use Rattle.sled.specs.Values.{named, numbers_of, given_to}
use Rattle.machine_alone.specs.Hears.{queues_at, turns_of_step, turns_of_run, told_to, IsKept, KeepsTree, IsCopyOfTree, Hears}
use Rattle.machine_alone.specs.Run.{MakesSteps, NoStep, OneStep}
use Rattle.machine_alone.specs.Step.{MachineStep}
use Rattle.machine_alone.specs.Values.{MachineValue, configuration_of}

-- a named tree has the number of its name
number_named : (o : Option ℕ) (m : Option Map) (merge : ℕ → Option Merge) (t : NamedTree) → named o m merge ≡ Some t → o ≡ Some t.number
number_named None m merge t e = none_some e
number_named (Some n) None merge t e = none_some e
number_named (Some n) (Some m) merge t e = ap Some (ap (λ (z : NamedTree). z.number) (some_is e))

up_to : (last n : ℕ) → given_to last n ≡ true → n ≤ last
up_to last n e = grind (arith, nat_tests)

module _ {P M : Type 0} (store : P → Store) (number : P → ℕ) (meant : M → Merge) where
  abbrev state_at : MachineValue P M → State
  state_at m = (configuration_of store number meant m).state

  numbered : (m : MachineValue P M) → IsDb store m.db → AreNumbered (state_at m)
  numbered m db = record {
    given = λ name t there. up_to m.db.trees_given t.number (db.is.given name t.number (is name t there));
    apart = λ a b t u p q same. db.is.apart a b t.number (is a t p) (is b u q ∙ ap Some (sym same));
  }
    where
      is : (name : Key) (t : NamedTree) → (state_at m).trees name ≡ Some t → numbers_of m.db.trees name ≡ Some t.number
      is name t there = number_named (numbers_of m.db.trees name) _ _ t there

  begins : (a b : MachineValue P M) (tree : Tree) (prefix : Key) (n : ℕ) → MachineStep store number meant a (step.Whole (Watch tree prefix)) (Decided (Subscriber n)) b
      → queues_at b n ≡ Some (record { tree = tree.number; prefix = prefix; backlog = no_backlog })
  begins a b tree prefix n one =
      let t = one.step.is in
      let same : n ≡ t.0 = subscriber_is t.1 in
      ap (λ (s : State). s.queues n) t.2.is
      ∙ ap (λ k. cond (nat_eq n k) (Some (record { tree = tree.number; prefix = prefix; backlog = no_backlog })) (queues_at a n)) (sym same)
      ∙ ap (λ z. cond z (Some (record { tree = tree.number; prefix = prefix; backlog = no_backlog })) (queues_at a n)) (eq-eqb n n refl)
    where
      subscriber_is : {k l : ℕ} → Subscriber k ≡ Subscriber l → k ≡ l
      subscriber_is e = cc

  run_queues : {a b : MachineValue P M} {ss : List Step} {os : List Outcome} (run : MakesSteps store number meant a ss os b)
      → queues_at b ≡ after_turns (turns_of_run store number meant run) (queues_at a)
  run_queues NoStep = refl
  run_queues (OneStep {a = a} {m = m} {step = s} {outcome = o} one rest) =
      run_queues rest
      ∙ ap (after_turns (turns_of_run store number meant rest)) (turns_law (configuration_of store number meant a) s o (configuration_of store number meant m) one.maps one.step.is)
      ∙ sym (after_both_turns (turns_of_step store number meant a s o m one) (turns_of_run store number meant rest) (queues_at a))

  run_heard : {a b : MachineValue P M} {ss : List Step} {os : List Outcome} (run : MakesSteps store number meant a ss os b) (n : ℕ) (q : Queue) → queues_at a n ≡ Some q → IsKept n ss
      → Stays n (turns_of_run store number meant run) × (told_to n ss os ≡ taken_by n (turns_of_run store number meant run) (queues_at a))
  run_heard NoStep n q here kept = (tt, refl)
  run_heard (OneStep {a = a} {m = m} {step = s} {steps = ss} {outcome = o} {outcomes = os} one rest) n q here kept =
      let ts = turns_of_step store number meant a s o m one in
      let us = turns_of_run store number meant rest in
      let h = heard_law n q (configuration_of store number meant a) s o (configuration_of store number meant m) one.maps one.step.is here kept.0 in
      let e : queues_at m ≡ after_turns ts (queues_at a) = turns_law (configuration_of store number meant a) s o (configuration_of store number meant m) one.maps one.step.is in
      let r = stays_there ts n (queues_at a) q here h.stays in
      let more = run_heard rest n r.0 (ap (λ (f : ℕ → Option Queue). f n) e ∙ r.1) kept.1 in (
        stays_both n ts us h.stays more.0,
        ap (λ l. l ++ told_to n ss os) h.told ∙ ap (λ l. taken_by n ts (queues_at a) ++ l) (more.1 ∙ ap (taken_by n us) e) ∙ sym (taken_both n ts us (queues_at a)),
      )

  hears : {a b : MachineValue P M} {ss : List Step} {os : List Outcome} (run : MakesSteps store number meant a ss os b) (n : ℕ) (q : Queue) → queues_at a n ≡ Some q → IsKept n ss
      → hearing.CountsAll n (turns_of_run store number meant run) (queues_at a) → (all : List Event) → hearing.Holds q.backlog all
      → hearing.Hears (told_to n ss os) (all ++ brought q (turns_of_run store number meant run)) (backlog_in (queues_at b n))
  hears {a = a} {b = b} run n q here kept counts all holds =
      let ts = turns_of_run store number meant run in
      let h = run_heard run n q here kept in
      subst (λ l. hearing.Hears l (all ++ brought q ts) (backlog_in (queues_at b n))) (sym h.1)
      (subst (λ (f : ℕ → Option Queue). hearing.Hears (taken_by n ts (queues_at a)) (all ++ brought q ts) (backlog_in (f n))) (sym (run_queues run))
      (hears_law ts n (queues_at a) q here h.0 counts all holds))

  -- no step opens a closed database
  run_open : {a b : MachineValue P M} {ss : List Step} {os : List Outcome} → MakesSteps store number meant a ss os b → (state_at b).is_open ≡ true → (state_at a).is_open ≡ true
  run_open NoStep is_open = is_open
  run_open (OneStep {a = a} {m = m} {step = s} {outcome = o} one rest) is_open = opens_none (configuration_of store number meant a) s o (configuration_of store number meant m) one.maps one.step.is (run_open rest is_open)

  run_trees : {a b : MachineValue P M} {ss : List Step} {os : List Outcome} (run : MakesSteps store number meant a ss os b) → AreNumbered (state_at a) → (state_at b).is_open ≡ true
      → (name : Key) (t : NamedTree) → (state_at a).trees name ≡ Some t → KeepsTree name ss os → IsTreeAfter name t (turns_of_run store number meant run) (state_at b)
  run_trees NoStep numbers is_open name t there kept = record { tree = t; there = there; number = refl; map = refl }
  run_trees {b = b} (OneStep {a = a} {m = m} {step = s} {outcome = o} one rest) numbers is_open name t there kept =
      let one_told = trees_law (configuration_of store number meant a) s o (configuration_of store number meant m) one.maps one.step.is numbers in
      let x = one_told.maps (run_open rest is_open) name t there kept.0 in
      tree_after_both name t (turns_of_step store number meant a s o m one) (turns_of_run store number meant rest) (state_at m) (state_at b) x
      (run_trees rest one_told.numbered is_open name x.tree x.there kept.1)

  follows : {a b : MachineValue P M} {ss : List Step} {os : List Outcome} (run : MakesSteps store number meant a ss os b) → IsDb store a.db → (state_at b).is_open ≡ true
      → (n : ℕ) (q : Queue) → queues_at a n ≡ Some q → IsKept n ss → (name : Key) → KeepsTree name ss os
      → TellsEvents (told_to n ss os) → (backlog_in (queues_at b n)).missed ≡ 0
      → (copy : Map) → IsCopyOfTree store meant a name q.tree q.prefix (after_events q.backlog.events copy)
      → IsCopyOfTree store meant b name q.tree q.prefix (after_events (waiting_in (queues_at b n)) (after_events (events_told (told_to n ss os)) copy))
  follows {a = a} {b = b} {ss = ss} {os = os} run db is_open n q here kept name keeps told none copy c =
      let ts = turns_of_run store number meant run in
      let h = run_heard run n q here kept in
      let x = run_trees run (numbered a db) is_open name c.tree c.there keeps in
      let e : x.tree.map ≡ after_events (came_to q.tree ts) c.tree.map = x.map ∙ ap (λ k. after_events (came_to k ts) c.tree.map) c.same in
      let f : after_events (waiting_in (queues_at b n)) (after_events (events_told (told_to n ss os)) copy) ≡ after_events (waiting_in (after_turns ts (queues_at a) n)) (after_events (events_told (taken_by n ts (queues_at a))) copy)
      = ap (λ (g : ℕ → Option Queue). after_events (waiting_in (g n)) (after_events (events_told (told_to n ss os)) copy)) (run_queues run)
      ∙ ap (λ l. after_events (waiting_in (after_turns ts (queues_at a) n)) (after_events (events_told l) copy)) h.1 in
      let all : TellsEvents (taken_by n ts (queues_at a)) = subst TellsEvents h.1 told in
      let counted : (backlog_in (after_turns ts (queues_at a) n)).missed ≡ 0 = subst (λ (g : ℕ → Option Queue). (backlog_in (g n)).missed ≡ 0) (run_queues run) none in
      record {
        tree = x.tree;
        there = x.there;
        same = x.number ∙ c.same;
        copied = subst (λ z. IsCopy q.prefix z x.tree.map) (sym f) (subst (IsCopy q.prefix (after_events (waiting_in (after_turns ts (queues_at a) n)) (after_events (events_told (taken_by n ts (queues_at a))) copy))) (sym e) (follows_law ts n (queues_at a) q here h.0 all counted copy c.tree.map c.copied));
      }

  pub hears_runs : Hears store number meant
  hears_runs = record {
    begins = begins;
    queues = λ a b ss os run. run_queues run;
    hears = λ a b ss os run. hears run;
    follows = λ a b ss os run. follows run;
  }
