-- The steps of a call that a database makes at once are counted.
use Rattle.std.proofs.Common.{◌≡◌, ◌≢◌, ℕ, zero, suc, ◌+◌, ◌*◌, ◌<◌, ◌≤◌, Option, Some, None, sym, refl, ap, ◌∙◌, subst, inl, inr, ◌⊎◌, arith}
use Rattle.std.proofs.Math.Nat.{suc-mul}
use Rattle.std.specs.declared.ops.Bound.TheVariants.{Included}
use Rattle.sled_nodes.proofs.Basics.{some_is, none_some}
use Rattle.sled_nodes.specs.declared.error.Error.{Error}
use Rattle.sled_nodes.specs.declared.error.Error.TheVariants as error
use Rattle.sled_store.specs.State.{nodes_of}
use Rattle.sled_store.specs.Store.{Store, now}
use Rattle.sled_model.specs.Answer.{key_of}
use Rattle.sled_model.specs.Maps.{Merge}
use Rattle.sled_model.specs.Refusal.{MustRefuse, ToStep, ToPoint, must_refuse, may_refuse_as, TellsTurns, turns_limit, cause_of}
use Rattle.sled_model.specs.State.{State, CallInFlight, IsOnKey, range_of}
use Rattle.sled_model.specs.declared.call.Call.{Call}
use Rattle.sled_model.specs.declared.tree.Tree.{Tree}
use Rattle.tree_laws.specs.Forest.{Forest}
use Rattle.tree_laws.specs.Snapshot.{HasForest, snapshot_of}
use Rattle.sled_tree.proofs.Known.{aims}
use Rattle.sled_tree.specs.Course.{course_of, IsAimed}
use Rattle.sled_tree.specs.Follows.{FollowsOn}
use Rattle.sled_tree.specs.Known.{IsKnown}
use Rattle.sled_tree.specs.Stages.{Knows}
use Rattle.sled_tree.specs.declared.flight.InFlight.{InFlight}
use Rattle.sled_tree.specs.declared.flight.Job.{Job}
use Rattle.sled_tree.specs.declared.flight.Went.{Went}
use Rattle.sled_tree.specs.declared.flight.Went.TheVariants.{Moved, Refused}
use Rattle.tree_progress.specs.Alone.{alone_steps, resumed_steps, GoesOnAlone, MovesAlone, Begins, Moves}
use Rattle.tree_progress.specs.Steps.{HasHalves}
use Rattle.tree_progress.specs.ToDo.{to_do}
use Rattle.tree_progress.proofs.Alone.{alone_law}
use Rattle.tree_progress.proofs.Resuming.{resumed_law}
use Rattle.sled.proofs.Flying.{everywhere, named_now, went_on, turn_taken}
use Rattle.sled.proofs.Testing.{untold_turns}
use Rattle.sled.specs.Direct.{begun_flight}
use Rattle.sled.specs.Flights.{call_in_flight_of, follows_as, has_turns, DbStepContract, DbSteps, Ends, GoesOn}
use Rattle.sled.specs.Sound.{IsDb}
use Rattle.sled.specs.Values.{DbValue, db_state, state_of, snapshot_of_db, numbers_of, given_to}
use Rattle.direct_laws.specs.Turns.{DirectLaw, FinishLaw}

-- the course of a call on a key aims at the key
course_is : (f : InFlight) → IsOnKey f.job.call → IsAimed (course_of f) → course_of f ≡ record { tree = f.job.tree; call = f.job.call; aim = Included (key_of f.job.call) }
course_is f on_key aimed = ap (λ z. record { tree = f.job.tree; call = f.job.call; aim = z }) (aimed.key on_key)

same_course : (f g : InFlight) → g.job ≡ f.job → IsOnKey f.job.call → IsAimed (course_of f) → IsAimed (course_of g) → course_of g ≡ course_of f
same_course f g job on_key one two =
    course_is g (ap (λ (z : Job). range_of z.call) job ∙ on_key) two ∙ ap (λ (z : Job). record { tree = z.tree; call = z.call; aim = Included (key_of z.call) }) job ∙ sym (course_is f on_key one)

module _ {P M : Type 0} (store : P → Store) (meant : M → Merge) where
  -- the tests let a call pass that goes on
  tested : (b c : DbValue P M) (f g : InFlight) → DbStepContract store meant b f Moved c g → must_refuse (db_state store meant b) (ToStep (call_in_flight_of f)) ≡ None
  tested b c f g flies =
      let k = went_on store meant b c f g flies in
      subst (λ z. must_refuse (db_state store meant b) (ToStep z) ≡ None) (sym (some_is k.here)) k.free

  -- a call that was at this stage in the database `first`, after so many steps that went on
  record IsAfter (first : DbValue P M) (w : Forest) (was : InFlight) (b : DbValue P M) (f : InFlight) (i : ℕ) : Type 0 where
    trees : b.trees ≡ first.trees
    given : b.trees_given ≡ first.trees_given
    course : course_of f ≡ course_of was
    on_key : IsOnKey f.job.call
    aimed : IsAimed (course_of f)
    forest : Forest
    formed : HasForest (snapshot_of_db store b) forest
    turns : f.turns ≡ was.turns + i
    moves : MovesAlone (numbers_of first.trees) (given_to first.trees_given) (course_of was) (store first.pages) was.stage w i (store b.pages) f.stage forest

  -- a step more
  goes_once : (first : DbValue P M) (w : Forest) (was : InFlight) (b c : DbValue P M) (f g : InFlight) (i : ℕ) → IsAfter first w was b f i → DbStepContract store meant b f Moved c g → IsDb store c → IsAfter first w was c g (suc i)
  goes_once first w was b c f g i k flies db =
      let on = flies.knows.goes_on tt in
      let turn = turn_taken store meant b c f g flies in
      let trees : c.trees ≡ first.trees = ap (λ (z : DbValue P M). z.trees) flies.step.same ∙ k.trees in
      let given : c.trees_given ≡ first.trees_given = ap (λ (z : DbValue P M). z.trees_given) flies.step.same ∙ k.given in
      let course : course_of g ≡ course_of f = same_course f g on.0 k.on_key k.aimed on.1.aimed in
      let moment : snapshot_of_db store c ≡ snapshot_of (store c.pages) (numbers_of first.trees) (given_to first.trees_given) = ap (λ z. snapshot_of (store c.pages) (numbers_of z) (given_to c.trees_given)) trees ∙ ap (λ z. snapshot_of (store c.pages) (numbers_of first.trees) (given_to z)) given in
      let v : Forest = db.forest in
      let stays = flies.loses k.forest v k.formed db.is in
      let follows : FollowsOn (store b.pages) f Moved (store c.pages) g = subst (λ r. follows_as r (store b.pages) f Moved (store c.pages) g) k.on_key (flies.follows (tested b c f g flies) turn.0) in
      record {
        trees = trees;
        given = given;
        course = course ∙ k.course;
        on_key = ap (λ (z : Job). range_of z.call) on.0 ∙ k.on_key;
        aimed = on.1.aimed;
        forest = v;
        formed = db.is;
        turns = turn.1 ∙ ap (λ z. z + 1) k.turns ∙ one was.turns i;
        moves = Moves k.moves (subst (λ z. GoesOnAlone (numbers_of first.trees) (given_to first.trees_given) z (store b.pages) f.stage k.forest (store c.pages) g.stage v) k.course (record {
          follows = follows.is;
          formed = subst (λ z. HasForest z v) moment db.is;
          stays = λ x p i. stays.is x p (λ e. none_some e) i;
          knows = subst (λ z. Knows z v (course_of f) g.stage) moment (subst (λ z. Knows (snapshot_of_db store c) v z g.stage) course (on.1.is v db.is));
        }));
      }
    where
      one : (x y : ℕ) → (x + y) + 1 ≡ x + suc y
      one x y = omega arith

  -- who is refused for its turns had used them up
  all_turns : (b c : DbValue P M) (f g : InFlight) (e : Error) → TellsTurns e → DbStepContract store meant b f (Refused e) c g → f.turns ≡ turns_limit
  all_turns b c f g e tells flies =
      let k = (flies.step.steps (everywhere f) 0 0 0 0 refl).is.0 in
      ap (λ (z : CallInFlight). z.turns) (some_is k.here) ∙ go (state_of store meant b (everywhere f) 0) (store b.pages) (store c.pages) k.flying e (must_refuse (state_of store meant b (everywhere f) 0) (ToStep k.flying)) tells k.may.is
    where
      go : (s : State) (x y : Store) (f : CallInFlight) (e : Error) (o : Option MustRefuse) → TellsTurns e → may_refuse_as o (cause_of s x y (ToStep f)) e → f.turns ≡ turns_limit
      go s x y f (error.ReportableBug text) None tells t = t.1
      go s x y f e (Some must) tells t = absurd (untold_turns (Some must) e t tells)
      go s x y f other None tells t = absurd tells

  -- all steps up to its end, and the last one
  record IsAtEnd (first : DbValue P M) (w : Forest) (was : InFlight) (went : Went) (i : ℕ) : Type 0 where
    b : DbValue P M
    c : DbValue P M
    f : InFlight
    g : InFlight
    after : IsAfter first w was b f i
    last : DbStepContract store meant b f went c g

  counts : (first : DbValue P M) (w : Forest) (was : InFlight) (n i : ℕ) (b c : DbValue P M) (f g : InFlight) (went : Went) → IsAfter first w was b f i → DbSteps store meant n b f went c g → IsAtEnd first w was went (i + n)
  counts first w was zero i b c f g went k (Ends flies off) = subst (λ z. IsAtEnd first w was went z) (none i) (record { b = b; c = c; f = f; g = g; after = k; last = flies })
    where
      none : (x : ℕ) → x ≡ x + 0
      none x = omega arith
  counts first w was (suc n) i b c f g went k (GoesOn {mid = mid} {h = h} flies db rest) = subst (λ z. IsAtEnd first w was went z) (more i n) (counts first w was n (suc i) mid c h g went (goes_once first w was b mid f h i k flies db) rest)
    where
      more : (x y : ℕ) → suc x + y ≡ x + suc y
      more x y = omega arith

  from_here : (old : DbValue P M) (f : InFlight) (db : IsDb store old) → IsOnKey f.job.call → IsAimed (course_of f) → (n : ℕ) (c : DbValue P M) (g : InFlight) (went : Went) → DbSteps store meant n old f went c g → IsAtEnd old db.forest f went n
  from_here old f db on_key aimed n c g went k = subst (λ z. IsAtEnd old db.forest f went z) (none n) (counts old db.forest f n 0 old c f g went (record {
    trees = refl;
    given = refl;
    course = refl;
    on_key = on_key;
    aimed = aimed;
    forest = db.forest;
    formed = db.is;
    turns = nothing f.turns;
    moves = Begins;
  }) k)
    where
      none : (x : ℕ) → 0 + x ≡ x
      none x = omega arith

      nothing : (x : ℕ) → x ≡ x + 0
      nothing x = omega arith

  -- a call that goes on has the number of its tree
  named_first : (n : ℕ) (old c : DbValue P M) (f g : InFlight) (went : Went) → IsDb store old → DbSteps store meant n old f went c g → (n ≡ 0) ⊎ (numbers_of old.trees f.job.tree.name ≡ Some f.job.tree.number)
  named_first zero old c f g went db k = inl refl
  named_first (suc n) old c f g went db (GoesOn {mid = mid} {h = h} flies rest_db rest) = inr (named_now store meant old db f (tested old mid f h flies))

  positive : (x y : ℕ) → 0 < (x + 1) * (y + 4)
  positive x y = sum (x * (y + 4)) _ (ap (λ z. z * (y + 4)) one ∙ suc-mul x (y + 4))
    where
      one : x + 1 ≡ suc x
      one = omega arith

      sum : (a b : ℕ) → b ≡ a + (y + 4) → 0 < b
      sum a b e = omega arith

  few_alone : (old : DbValue P M) (tree : Tree) (call : Call) → IsDb store old → IsOnKey call → (n : ℕ) (c : DbValue P M) (g : InFlight) (went : Went) → DbSteps store meant n old (begun_flight tree call) went c g → n < alone_steps (now (store old.pages)) tree.name
  few_alone old tree call db on_key n c g went k = elim (named_first n old c (begun_flight tree call) g went db k) [
    | inl none ↦ subst (λ z. z < alone_steps (now (store old.pages)) tree.name) (sym none) (positive (to_do (now (store old.pages)) tree.name) _)
    | inr named ↦
        let e = from_here old (begun_flight tree call) db on_key (aims tree call) n c g went k in
        alone_law (numbers_of old.trees) (given_to old.trees_given) (course_of (begun_flight tree call)) (store old.pages) db.forest db.is named on_key (aims tree call) n (store e.b.pages) e.f.stage e.after.forest e.after.moves
  ]

  -- who is refused for its turns went on so many times
  turns_gone : (old : DbValue P M) (f : InFlight) (db : IsDb store old) → IsOnKey f.job.call → IsAimed (course_of f) → (n : ℕ) (c : DbValue P M) (g : InFlight) (e : Error) → TellsTurns e → DbSteps store meant n old f (Refused e) c g → f.turns + n ≡ turns_limit
  turns_gone old f db on_key aimed n c g e tells k =
      let x = from_here old f db on_key aimed n c g (Refused e) k in
      sym x.after.turns ∙ all_turns x.b x.c x.f x.g e tells x.last

  few_resumed : (old : DbValue P M) (f : InFlight) → IsDb store old → IsOnKey f.job.call → IsKnown (snapshot_of_db store old) f → HasHalves (nodes_of (now (store old.pages))) f.stage → (n : ℕ) (c : DbValue P M) (g : InFlight) (went : Went) → DbSteps store meant n old f went c g → n ≤ resumed_steps (now (store old.pages)) f.job.tree.name
  few_resumed old f db on_key known halves n c g went k = elim (named_first n old c f g went db k) [
    | inl none ↦ subst (λ z. z ≤ resumed_steps (now (store old.pages)) f.job.tree.name) (sym none) (least _)
    | inr named ↦
        let e = from_here old f db on_key known.aimed n c g went k in
        resumed_law (numbers_of old.trees) (given_to old.trees_given) (course_of f) (store old.pages) f.stage db.forest db.is named on_key (known.is db.forest db.is) halves n (store e.b.pages) e.f.stage e.after.forest e.after.moves
  ]
    where
      least : (x : ℕ) → 0 ≤ x
      least x = omega arith

  pub finish_law : FinishLaw store meant
  finish_law old f db on_key known halves new went last r = record {
    few = few_resumed old f db on_key known halves r.moves new last went r.flies;
    unlimited = λ room. limited went room r.moves r.flies (few_resumed old f db on_key known halves r.moves new last went r.flies);
  }
    where
      limited : (went : Went) → f.turns + resumed_steps (now (store old.pages)) f.job.tree.name < turns_limit → (n : ℕ) → DbSteps store meant n old f went new last → n ≤ resumed_steps (now (store old.pages)) f.job.tree.name → has_turns went
      limited (Refused e) room n k few = λ tells. off n _ room few (turns_gone old f db on_key known.aimed n new last e tells k)
        where
          off : (n most : ℕ) → f.turns + most < turns_limit → n ≤ most → f.turns + n ≡ turns_limit → ⊥
          off n most l u e = omega arith
      limited other room n k few = tt

  pub direct_law : DirectLaw store meant
  direct_law old tree call db on_key = record {
    few = λ new went last r. few_alone old tree call db on_key r.moves new last went r.flies;
    unlimited = λ new e k tells. elim k.steps [
      | inl a ↦ elim a.0.why [
        | inl must ↦ absurd (told (db_state store meant old) (store old.pages) (store new.pages) e (must_refuse (db_state store meant old) (ToPoint tree call)) must tells k.refuses.may.is)
        | inr none ↦ absurd (subst TellsTurns none tells)
      ]
      | inr a ↦
          let few = few_alone old tree call db on_key a.1.moves new a.0 (Refused e) a.1.flies in
          subst (λ z. z < alone_steps (now (store old.pages)) tree.name) (turns_gone old (begun_flight tree call) db on_key (aims tree call) a.1.moves new a.0 e tells a.1.flies) (plain few)
    ];
  }
    where
      told : (s : State) (x y : Store) (e : Error) (o : Option MustRefuse) → o ≢ None → TellsTurns e → may_refuse_as o (cause_of s x y (ToPoint tree call)) e → ⊥
      told s x y e None off tells t = off refl
      told s x y e (Some must) off tells t = untold_turns (Some must) e t tells

      plain : {x y : ℕ} → x < y → 0 + x < y
      plain l = omega arith
