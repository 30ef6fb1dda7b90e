-- The steps of a walk, one after the other.
use Rattle.std.proofs.Common.{◌≡◌, ◌≢◌, ◌-◌, ◌<◌, ◌≤◌, false, None, Option, Some, IfSome, IfNone, Result, Ok, Err, option_map, sym, refl, ap, ◌∙◌, subst, arith}
use Rattle.std.specs.FinMap.Entries.{find}
use Rattle.std.specs.Ordering.{nat_cmp}
use Rattle.sled_nodes.specs.Node.{value_at}
use Rattle.sled_nodes.specs.declared.error.Error.{Error}
use Rattle.sled_store.specs.Store.{Store}
use Rattle.sled_model.specs.Answer.{key_of}
use Rattle.sled_model.specs.Maps.{Merge}
use Rattle.sled_model.specs.State.{IsOnKey, range_of}
use Rattle.sled_model.specs.Refusal.{must_refuse, ToStep, ToPoint}
use Rattle.sled_model.specs.declared.call.Call.{Call}
use Rattle.sled_model.specs.declared.reply.Reply.{Reply}
use Rattle.sled_model.specs.declared.tree.Tree.{Tree}
use Rattle.sled_model.specs.declared.TheConstants.{MAX_LOOPS}
use Rattle.sled_queues.specs.Tells.{IsUnwatched}
use Rattle.sled_queues.specs.Values.{queue_at}
use Rattle.tree_laws.specs.declared.flight.Stage.TheVariants as stage
use Rattle.sled_tree.specs.Change.{reply_at}
use Rattle.sled_tree.specs.Course.{course_of}
use Rattle.sled_tree.specs.Stages.{changes_at}
use Rattle.sled_tree.specs.Known.{IsKnown}
use Rattle.sled_tree.specs.declared.flight.InFlight.{InFlight}
use Rattle.sled_tree.specs.declared.flight.Job.{Job}
use Rattle.sled_tree.specs.declared.flight.Went.{Went}
use Rattle.sled_tree.specs.declared.flight.Went.TheVariants.{Moved}
use Rattle.sled_tree.specs.theory.Linking.{StepsBy}
use Rattle.sled_tree.specs.theory.Stages.{IsOffWalk}
use Rattle.sled_tree.specs.theory.Walking.{WalkStep, WalksTo, WalksDown}
use Rattle.sled_tree.specs.theory.Walking as tree
use Rattle.sled_tree.proofs.Facts.{flies_by_these}
use Rattle.sled_tree.proofs.Known.{known_new}
use Rattle.tree_quick.specs.Outcomes.{went_of}
use Rattle.tree_quick.specs.theory.Quick.{RunsStraight}
use Rattle.sled.specs.Values.{DbValue, db_state, snapshot_of_db}
use Rattle.sled.specs.Sound.{IsDb}
use Rattle.sled.specs.Flights.{call_in_flight_of, DbStepContract}
use Rattle.sled.specs.Direct.{begun_flight, RunsAtOnce}
use Rattle.sled.specs.theory.Direct.{TellsNobody}
use Rattle.tree_steps.specs.theory.Watched.{links_watched_as, steps_over_as, StepsOver}
use Rattle.sled.specs.theory.Walking.{DbWalksTo, Stays, GoesOn, DbWalksDown}
use Rattle.sled.proofs.Flying.{IsFlying, going_first, going_more, going_ends, still_tested, turn_taken}
use Rattle.tree_steps.proofs.Watching.{alone}
use Rattle.sled.proofs.Yielding.{flown_as}

module _ {P M : Type 0} (store : P → Store) (meant : M → Merge) (db : DbValue P M) (sound : IsDb store db) where
  -- one of them is a step of the database
  one_step : (f g : InFlight) (went : Went) → IsOnKey f.job.call → IsKnown (snapshot_of_db store db) f → must_refuse (db_state store meant db) (ToStep (call_in_flight_of f)) ≡ None → WalkStep (store db.pages) f went g → DbStepContract store meant db f went db g
  one_step f g went on_key known tested step =
      let operator = option_map meant (find nat_cmp f.job.tree.number db.operators) in
      let steps : StepsBy operator (store db.pages) f went (store db.pages) g = record {
        advances = flies_by_these (store db.pages) (store db.pages) f g went step.settles.advances;
        passes = step.settles.passes;
        follows = step.settles.follows;
      } in
      let over = alone operator (store db.pages) (store db.pages) f g db.queues sound.calm (λ view is. absurd (step.on_walk (subst IsOffWalk (sym is) tt))) went steps in
      (flown_as store meant db db refl sound f db.pages db.queues step.has_turns went g tested known operator refl (record { is = subst (λ r. steps_over_as r operator (store db.pages) db.queues f went (store db.pages) db.queues g) (sym on_key) over })).0

  -- what is known of a call after some of them
  record Walked (f g : InFlight) : Type 0 where
    pub walks : DbWalksTo store meant db f g
    pub on_key : IsOnKey g.job.call
    pub known : IsKnown (snapshot_of_db store db) g
    pub tested : must_refuse (db_state store meant db) (ToStep (call_in_flight_of g)) ≡ None
    pub job : g.job ≡ f.job

  walked : (f g : InFlight) → IsOnKey f.job.call → IsKnown (snapshot_of_db store db) f → must_refuse (db_state store meant db) (ToStep (call_in_flight_of f)) ≡ None → WalksTo (store db.pages) f g → Walked f g
  walked f g on_key known tested tree.Stays = record { walks = Stays; on_key = on_key; known = known; tested = tested; job = refl }
  walked f g on_key known tested (tree.GoesOn {g = mid} walks step) =
      let w = walked f mid on_key known tested walks in
      let d = one_step mid g Moved w.on_key w.known w.tested step in
      record {
        walks = GoesOn w.walks d;
        on_key = ap (λ (j : Job). range_of j.call) (d.knows.goes_on tt).0 ∙ w.on_key;
        known = (d.knows.goes_on tt).1;
        tested = still_tested store meant db db mid g d w.tested;
        job = (d.knows.goes_on tt).0 ∙ w.job;
      }

  module _ (f g : InFlight) (on_key : IsOnKey f.job.call) (known : IsKnown (snapshot_of_db store db) f) (tested : must_refuse (db_state store meant db) (ToStep (call_in_flight_of f)) ≡ None) where
    down_none : WalksDown (store db.pages) f None g → DbWalksDown store meant db f None g
    down_none w = record { sound = sound; is = (walked f g on_key known tested w.is).walks }

    -- the last of them went on too
    down_moved : WalksDown (store db.pages) f (Some Moved) g → DbWalksDown store meant db f None g
    down_moved w =
        let k = walked f w.is.0 on_key known tested w.is.1 in
        record { sound = sound; is = GoesOn k.walks (one_step w.is.0 g Moved k.on_key k.known k.tested w.is.2) }

    down_ended : (went : Went) → went ≢ Moved → WalksDown (store db.pages) f (Some went) g → DbWalksDown store meant db f (Some went) g
    down_ended went off w =
        let k = walked f w.is.0 on_key known tested w.is.1 in
        record { sound = sound; is = (w.is.0, k.walks, one_step w.is.0 g went k.on_key k.known k.tested w.is.2, off) }

    pub down_told : (r : Option Went) → (r ≡ Some Moved → ⊥) → WalksDown (store db.pages) f r g → DbWalksDown store meant db f r g
    down_told None off w = down_none w
    down_told (Some went) off w = down_ended went (λ e. off (ap Some e)) w

    pub down_on : (r : Option Went) → r ≡ Some Moved → WalksDown (store db.pages) f r g → DbWalksDown store meant db f None g
    down_on r is w = down_moved (subst (λ z. WalksDown (store db.pages) f z g) is w)

  pub down_stays : (f : InFlight) → DbWalksDown store meant db f None f
  down_stays f = record { sound = sound; is = Stays }

-- a call on its way goes on by them
module _ {P M : Type 0} (store : P → Store) (meant : M → Merge) (old : DbValue P M) (f : InFlight) (db : DbValue P M) where
  pub going_walk : (sound : IsDb store db) (h k : InFlight) → IsFlying store meant old f db h → DbWalksTo store meant db h k → IsFlying store meant old f db k
  going_walk sound h k is Stays = is
  going_walk sound h k is (GoesOn {g = g} walks d) = going_more store meant old f db db g k (going_walk sound h g is walks) d sound

  walk_turns : (h k : InFlight) → DbWalksTo store meant db h k → h.turns ≤ k.turns
  walk_turns h k Stays = omega arith
  walk_turns h k (GoesOn {g = g} walks d) = let t = walk_turns h g walks in let one = (turn_taken store meant db db g k d).1 in omega arith

  -- the measure of a walk and the step after it
  pub fewer_after : (h k m : InFlight) → DbWalksTo store meant db h k → MAX_LOOPS - m.turns < MAX_LOOPS - k.turns → MAX_LOOPS - m.turns < MAX_LOOPS - h.turns
  fewer_after h k m walks less = let t = walk_turns h k walks in omega arith

-- a call that walks straight to its last step is made at once
module _ {P M : Type 0} (store : P → Store) (meant : M → Merge) (db : DbValue P M) (sound : IsDb store db) (tree : Tree) (call : Call) (on_key : IsOnKey call) (tested : must_refuse (db_state store meant db) (ToPoint tree call) ≡ None) (quiet : TellsNobody (queue_at db.queues) tree.number call) where
  -- what it links at its last step tells nobody
  untold : (last : InFlight) → last.job ≡ record { tree = tree; call = call } → IsKnown (snapshot_of_db store db) last → links_watched_as db.queues last false
  untold last job known view here =
      let leaf : changes_at (course_of last) (stage.Act view) = subst (changes_at (course_of last)) here (known.is sound.forest sound.is).1 in
      subst (λ (j : Job). IsUnwatched j.tree.number (key_of j.call) (queue_at db.queues)) (sym job)
      (quiet.is (value_at view.node.content (key_of call)) (ap (λ (j : Job). reply_at j.call view.node.content) (sym job) ∙ leaf))

  module _ (q : P) (made : Result Reply Error) (r : RunsStraight (option_map meant (find nat_cmp tree.number db.operators)) (store db.pages) (begun_flight tree call) made (store q)) where
    abbrev new : DbValue P M
    new = record db { pages = q; queues = db.queues }

    last_known : Walked store meant db sound (begun_flight tree call) r.last
    last_known = walked store meant db sound (begun_flight tree call) r.last on_key (known_new (snapshot_of_db store db) tree call) tested r.walks

    last_step : DbStepContract store meant db r.last (went_of made) new r.last × IsDb store new
    last_step =
        let operator = option_map meant (find nat_cmp tree.number db.operators) in
        let over = alone operator (store db.pages) (store q) r.last r.last db.queues sound.calm (untold r.last last_known.job last_known.known) (went_of made) r.ends in
        flown_as store meant db db refl sound r.last q db.queues r.has_turns (went_of made) r.last last_known.tested last_known.known _ refl
        (subst (λ (j : Job). StepsOver (option_map meant (find nat_cmp j.tree.number db.operators)) (store db.pages) db.queues r.last (went_of made) (store q) db.queues r.last) (sym last_known.job)
        (record { is = subst (λ o. steps_over_as o operator (store db.pages) db.queues r.last (went_of made) (store q) db.queues r.last) (sym last_known.on_key) over }))

    ended : (made : Result Reply Error) → went_of made ≢ Moved
    ended (Ok reply) e = cc
    ended (Err e) is = cc

    straight : RunsAtOnce store meant db tree call made new × IsDb store new
    straight = (
      record {
        last = r.last;
        steps = going_ends store meant db (begun_flight tree call) db new r.last r.last (went_of made)
            (going_walk store meant db (begun_flight tree call) db sound (begun_flight tree call) r.last (going_first store meant db (begun_flight tree call) (known_new (snapshot_of_db store db) tree call) tested) last_known.walks)
            last_step.0 (ended made);
      },
      last_step.1,
    )

-- what comes of it, where a method knows the database by its fields
pub record Quickly {P M : Type 0} (store : P → Store) (meant : M → Merge) (old : DbValue P M) (tree : Tree) (call : Call) (made : Option (Result Reply Error)) (new : DbValue P M) : Type 0 where
  pub steps : IfSome made (λ made. RunsAtOnce store meant old tree call made new)
  pub nothing : IfNone made (new ≡ old)
  pub sound : IsDb store new

module _ {P M : Type 0} (store : P → Store) (meant : M → Merge) (inside : DbValue P M) (db : IsDb store inside) (tree : Tree) (call : Call) (on_key : IsOnKey call) (quiet : TellsNobody (queue_at inside.queues) tree.number call) where
  quickly : (q : P) (made : Option (Result Reply Error)) → must_refuse (db_state store meant inside) (ToPoint tree call) ≡ None
      → IfSome made (λ made. RunsStraight (option_map meant (find nat_cmp tree.number inside.operators)) (store inside.pages) (begun_flight tree call) made (store q)) → IfNone made (q ≡ inside.pages)
      → Quickly store meant inside tree call made (record inside { pages = q; queues = inside.queues })
  quickly q None tested r none = record { steps = tt; nothing = same; sound = subst (λ z. IsDb store z) (sym same) db }
    where
      same : record inside { pages = q; queues = inside.queues } ≡ inside
      same = ap (λ p. record inside { pages = p; queues = inside.queues }) none
  quickly q (Some made) tested r none = let s = straight store meant inside db tree call on_key tested quiet q made r in record { steps = s.0; nothing = tt; sound = s.1 }

  pub quickly_as : (old : DbValue P M) (e : inside ≡ old) (q : P) (made : Option (Result Reply Error)) → must_refuse (db_state store meant old) (ToPoint tree call) ≡ None
      → IfSome made (λ made. RunsStraight (option_map meant (find nat_cmp tree.number inside.operators)) (store inside.pages) (begun_flight tree call) made (store q)) → IfNone made (q ≡ inside.pages)
      → Quickly store meant old tree call made (record inside { pages = q; queues = inside.queues })
  quickly_as old e q made tested r none =
      subst (λ (z : DbValue P M). must_refuse (db_state store meant z) (ToPoint tree call) ≡ None → Quickly store meant z tree call made (record inside { pages = q; queues = inside.queues })) e (λ tested. quickly q made tested r none) tested

-- a step after which the call goes on
pub that_moved : {P M : Type 0} (store : P → Store) (meant : M → Merge) (old : DbValue P M) (f : InFlight) (went : Went) (new : DbValue P M) (g : InFlight) → went ≡ Moved → DbStepContract store meant old f went new g → DbStepContract store meant old f Moved new g
that_moved store meant old f went new g is step = subst (λ w. DbStepContract store meant old f w new g) is step
