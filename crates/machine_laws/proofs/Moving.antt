-- The calls in flight of a machine go on as several calls do, whose flights are known.
use Rattle.std.proofs.Common.{◌≡◌, ◌≢◌, ℕ, zero, suc, ◌+◌, ◌<◌, ◌≤◌, Bool, true, false, cond, List, [], ◌∷◌, ◌++◌, Option, Some, None, option_map, sym, refl, ap, ◌∙◌, subst, inl, inr, arith}
use Rattle.std.proofs.Math.Arith.{lt_of_le-ne}
use Rattle.std.proofs.Math.Path.{fun_ext}
use Rattle.std.proofs.lemmas.Bool.{eq-eqb, eqb-true}
use Rattle.std.proofs.lemmas.List.{append_assoc}
use Rattle.sled_nodes.proofs.Basics.{none_some, some_is, same_or_not}
use Rattle.sled_nodes.specs.Order.{Key}
use Rattle.sled_store.specs.In.{In}
use Rattle.sled_store.specs.Store.{Store, now}
use Rattle.sled_store.specs.theory.Facts.{put_here}
use Rattle.sled_model.specs.Maps.{Map, Merge}
use Rattle.sled_model.specs.Refusal.{ToStep, must_refuse, turns_limit}
use Rattle.sled_model.specs.State.{State, NamedTree, CallInFlight}
use Rattle.sled_model.specs.Transition.{Move}
use Rattle.sled_model.specs.declared.outcome.Outcome.TheVariants as outcome
use Rattle.sled_model.specs.declared.outcome.Step.TheVariants as step
use Rattle.tree_laws.proofs.Runs.{In_cases}
use Rattle.tree_laws.specs.Contents.{trees_of}
use Rattle.tree_laws.specs.Forest.{Forest}
use Rattle.tree_laws.specs.Snapshot.{HasForest, snapshot_of}
use Rattle.sled_tree.specs.Course.{course_of}
use Rattle.sled_tree.specs.Stages.{Knows}
use Rattle.sled_tree.specs.declared.flight.InFlight.{InFlight}
use Rattle.sled_tree.specs.declared.flight.Went.{Went}
use Rattle.sled_tree.specs.declared.flight.Went.TheVariants.{Moved, Yielded, Decided, Refused}
use Rattle.tree_progress.specs.Alone.{GoesOnAlone}
use Rattle.move_laws.proofs.Running.{among_law}
use Rattle.move_laws.specs.Among.{IsUnderWay, GoesOnAmong, MovesAmong, Turns, Begins as NoneMoved, Moves as OneMoved}
use Rattle.move_laws.specs.Meant.{Flight, flight}
use Rattle.tree_steps.specs.Outcomes.{outcome_of}
use Rattle.sled.proofs.Flying.{named_now}
use Rattle.sled.proofs.Trees.{trees_at}
use Rattle.sled.specs.Flights.{call_in_flight_of}
use Rattle.sled.specs.Values.{db_state, named, numbers_of, given_to, snapshot_of_db}
use Rattle.machine_alone.specs.Step.{MachineStepContract, FollowsAt}
use Rattle.machine_alone.specs.StepsInSlot.{flight_after}
use Rattle.machine_alone.specs.Values.{MachineValue, kept_at, slots_of, configuration_of}
use Rattle.machine_laws.specs.Moves.{has_number, is_live, flights_in, flights_up_to, flights_of, IsSound, IsReached, MovesInARow, Begins, Moves, MovesLaw}
use Rattle.machine_laws.proofs.SettingOff.{flight_of, SetsOff, sets_off}
use Rattle.machine_laws.proofs.Halving.{flying_there, reached_sound, machine_halves_law}

live_means : (o : Option ℕ) (n : ℕ) → has_number o n ≡ true → o ≡ Some n
live_means (Some k) n e = ap Some (eqb-true k n e)
live_means None n e = absurd (off e)
  where
    off : false ≡ true → ⊥
    off e = cc

live_is : (o : Option ℕ) (n : ℕ) → o ≡ Some n → has_number o n ≡ true
live_is o n there = ap (λ z. has_number z n) there ∙ eq-eqb n n refl

-- The flights of slots
module _ (numbers : Key → Option ℕ) where
  record IsIn (kept : ℕ → Option InFlight) (q : ℕ) (x : Flight) : Type 0 where
    call : InFlight
    there : kept q ≡ Some call
    live : is_live numbers call ≡ true
    is : x ≡ flight_of call

  in_one : (kept : ℕ → Option InFlight) (q : ℕ) (x : Flight) → In x (flights_in numbers (kept q)) → IsIn kept q x
  in_one kept q x i = go (kept q) refl i
    where
      one : (f : InFlight) (b : Bool) → In x (cond b (flight_of f ∷ []) []) → (b ≡ true) × (x ≡ flight_of f)
      one f true (inl e) = (refl, e)
      one f true (inr i) = absurd i
      one f false i = absurd i

      go : (o : Option InFlight) → kept q ≡ o → In x (flights_in numbers o) → IsIn kept q x
      go None e i = absurd i
      go (Some f) e i = let k = one f (is_live numbers f) i in record { call = f; there = e; live = k.0; is = k.1 }

  in_slots : (kept : ℕ → Option InFlight) (n : ℕ) (x : Flight) → In x (flights_up_to numbers kept n) → (q : ℕ) × (q ≤ n) × IsIn kept q x
  in_slots kept zero x i = (0, least, in_one kept 0 x i)
    where
      least : 0 ≤ 0
      least = omega arith
  in_slots kept (suc n) x i = elim (In_cases (flights_in numbers (kept (suc n))) (flights_up_to numbers kept n) x i) [
    | inl here ↦ (suc n, most (suc n), in_one kept (suc n) x here)
    | inr below ↦ let k = in_slots kept n x below in (k.0, more k.0 k.1, k.2)
  ]
    where
      most : (q : ℕ) → q ≤ q
      most q = omega arith

      more : (q : ℕ) → q ≤ n → q ≤ suc n
      more q l = omega arith

  here_is : (kept : ℕ → Option InFlight) (q : ℕ) (f : InFlight) → kept q ≡ Some f → is_live numbers f ≡ true → flights_in numbers (kept q) ≡ flight_of f ∷ []
  here_is kept q f there live = ap (flights_in numbers) there ∙ ap (λ b. cond b (flight_of f ∷ []) []) live

  same_slots : (old new : ℕ → Option InFlight) (n : ℕ) → ((q : ℕ) → q ≤ n → new q ≡ old q) → flights_up_to numbers new n ≡ flights_up_to numbers old n
  same_slots old new zero same = ap (flights_in numbers) (same 0 least)
    where
      least : 0 ≤ 0
      least = omega arith
  same_slots old new (suc n) same = ap (λ z. flights_in numbers z ++ flights_up_to numbers new n) (same (suc n) (most (suc n))) ∙ ap (λ z. flights_in numbers (old (suc n)) ++ z) (same_slots old new n (λ q l. same q (more q l)))
    where
      most : (q : ℕ) → q ≤ q
      most q = omega arith

      more : (q : ℕ) → q ≤ n → q ≤ suc n
      more q l = omega arith

  -- where the call of one slot goes on, one flight is another
  module _ (old new : ℕ → Option InFlight) (slot : ℕ) (f g : InFlight) (was : old slot ≡ Some f) (is : new slot ≡ Some g) (live : is_live numbers f ≡ true) (lives : is_live numbers g ≡ true) (same : (q : ℕ) → q ≢ slot → new q ≡ old q) where
    record AreBeside (n : ℕ) : Type 0 where
      before : List Flight
      behind : List Flight
      from : flights_up_to numbers old n ≡ before ++ flight_of f ∷ behind
      to : flights_up_to numbers new n ≡ before ++ flight_of g ∷ behind
      others : (x : Flight) → In x (before ++ behind) → (q : ℕ) × (q ≢ slot) × IsIn old q x

    beside : (n : ℕ) → slot ≤ n → AreBeside n
    beside zero l =
        let e : slot ≡ 0 = none l in
        record {
          before = [];
          behind = [];
          from = here_is old 0 f (ap old (sym e) ∙ was) live;
          to = here_is new 0 g (ap new (sym e) ∙ is) lives;
          others = λ x i. absurd i;
        }
      where
        none : slot ≤ 0 → slot ≡ 0
        none l = omega arith
    beside (suc n) l = elim (same_or_not slot (suc n)) [
      | inl e ↦ record {
        before = [];
        behind = flights_up_to numbers old n;
        from = ap (λ z. z ++ flights_up_to numbers old n) (here_is old (suc n) f (ap old (sym e) ∙ was) live);
        to = ap (λ z. z ++ flights_up_to numbers new n) (here_is new (suc n) g (ap new (sym e) ∙ is) lives) ∙ ap (λ z. flight_of g ∷ z) (same_slots old new n (λ q m. same q (λ s. above q m (s ∙ e))));
        others = λ x i. let k = in_slots old n x i in (k.0, (λ s. above k.0 k.1 (s ∙ e)), k.2);
      }
      | inr off ↦
          let k = beside n (within (lt_of_le-ne l off)) in
          record {
            before = flights_in numbers (old (suc n)) ++ k.before;
            behind = k.behind;
            from = ap (λ z. flights_in numbers (old (suc n)) ++ z) k.from ∙ sym (append_assoc (flights_in numbers (old (suc n))) k.before (flight_of f ∷ k.behind));
            to = ap (λ z. flights_in numbers z ++ flights_up_to numbers new n) (same (suc n) (λ e. off (sym e))) ∙ ap (λ z. flights_in numbers (old (suc n)) ++ z) k.to ∙ sym (append_assoc (flights_in numbers (old (suc n))) k.before (flight_of g ∷ k.behind));
            others = λ x i. elim (In_cases (flights_in numbers (old (suc n))) (k.before ++ k.behind) x (subst (λ z. In x z) (append_assoc (flights_in numbers (old (suc n))) k.before k.behind) i)) [
              | inl here ↦ (suc n, (λ e. off (sym e)), in_one old (suc n) x here)
              | inr there ↦ k.others x there
            ];
          }
    ]
      where
        above : (q : ℕ) → q ≤ n → q ≡ suc n → ⊥
        above q l e = omega arith

        within : slot < suc n → slot ≤ n
        within l = omega arith

-- the trees have the numbers that the state has for them
same_number : (a b : ℕ → Option Merge) (c d : Map) (n k : Option ℕ) (x y : Option Map) → x ≡ option_map (λ _. c) n → y ≡ option_map (λ _. d) k → named n x a ≡ named k y b → n ≡ k
same_number a b c d None None x y p q e = refl
same_number a b c d None (Some k) x None p q e = none_some q
same_number a b c d None (Some k) x (Some m) p q e = none_some e
same_number a b c d (Some n) k None y p q e = none_some p
same_number a b c d (Some n) None (Some m) y p q e = none_some (sym e)
same_number a b c d (Some n) (Some k) (Some m) None p q e = none_some q
same_number a b c d (Some n) (Some k) (Some m) (Some l) p q e = ap (λ (z : NamedTree). Some z.number) (some_is e)

moved_is : (went : Went) → outcome.Moved ≡ outcome_of went → went ≡ Moved
moved_is Moved e = refl
moved_is (Yielded key value) e = absurd (off e)
  where
    off : outcome.Moved ≡ outcome.Yielded key value → ⊥
    off e = cc
moved_is (Decided reply) e = absurd (off e)
  where
    off : outcome.Moved ≡ outcome.Decided reply → ⊥
    off e = cc
moved_is (Refused r) e = absurd (off e)
  where
    off : outcome.Moved ≡ outcome.Refused r → ⊥
    off e = cc

module _ {P M : Type 0} (store : P → Store) (number : P → ℕ) (meant : M → Merge) where
  -- a step of the slot by which its call goes on
  module _ (a b : MachineValue P M) (slot : ℕ) (k : MachineStepContract store number meant a (step.Step slot) outcome.Moved b) (x : IsSound store a) (y : IsSound store b) where
    move : Move (configuration_of store number meant a).state slot (configuration_of store number meant b).state
    move = k.step.step.is.0

    flying : (f : InFlight) × (kept_at a.flights slot ≡ Some f) × (call_in_flight_of f ≡ move.flying)
    flying = flying_there (kept_at a.flights slot) move.flying move.here

    abbrev f : InFlight
    f = flying.0

    passes : must_refuse (db_state store meant a.db) (ToStep (call_in_flight_of f)) ≡ None
    passes = subst (λ z. must_refuse (db_state store meant a.db) (ToStep z) ≡ None) (sym flying.2) move.free

    follows_at : FollowsAt store a f slot outcome.Moved b
    follows_at = k.follows.is f flying.1 passes (subst (λ (z : CallInFlight). z.turns < turns_limit) (sym flying.2) move.fits)

    abbrev g : InFlight
    g = follows_at.next

    went_is : follows_at.went ≡ Moved
    went_is = moved_is follows_at.went follows_at.outcome

    now_there : kept_at b.flights slot ≡ Some g
    now_there = follows_at.there ∙ ap (λ z. flight_after z g) went_is

    -- it has the same call and tree
    put : option_map call_in_flight_of (kept_at b.flights slot) ≡ Some (record (move.flying) { turns = move.flying.turns + 1; waiting = move.waiting; rest = move.rest })
    put = ap (λ (s : State). s.slots slot) move.is ∙ put_here (slots_of a.flights) slot _

    is_call : call_in_flight_of g ≡ record (move.flying) { turns = move.flying.turns + 1; waiting = move.waiting; rest = move.rest }
    is_call = some_is (sym (ap (option_map call_in_flight_of) now_there) ∙ put)

    same_tree : g.job.tree ≡ f.job.tree
    same_tree = ap (λ (z : CallInFlight). z.tree) is_call ∙ ap (λ (z : CallInFlight). z.tree) (sym flying.2)

    same_call : g.job.call ≡ f.job.call
    same_call = ap (λ (z : CallInFlight). z.call) is_call ∙ ap (λ (z : CallInFlight). z.call) (sym flying.2)

    off : SetsOff (store a.db.pages) (store b.db.pages) f g
    off = sets_off (store a.db.pages) (store b.db.pages) f g same_tree same_call (x.calls.known slot f flying.1).aimed (y.calls.known slot g now_there).aimed follows_at.went went_is follows_at.follows

    same_trees : numbers_of b.db.trees ≡ numbers_of a.db.trees
    same_trees = fun_ext (λ t. same_number _ _ _ _ (numbers_of b.db.trees t) (numbers_of a.db.trees t) (trees_of (now (store b.db.pages)) t) (trees_of (now (store a.db.pages)) t)
        (trees_at (store b.db.pages) (numbers_of b.db.trees) (given_to b.db.trees_given) y.db.forest y.db.is t)
        (trees_at (store a.db.pages) (numbers_of a.db.trees) (given_to a.db.trees_given) x.db.forest x.db.is t)
        (ap (λ (s : State). s.trees t) move.is))

    same_given : b.db.trees_given ≡ a.db.trees_given
    same_given = ap (λ (s : State). s.trees_given) move.is

    same_count : b.slots_given ≡ a.slots_given
    same_count = ap (λ (s : State). s.slots_given) move.is

    is_named : numbers_of a.db.trees f.job.tree.name ≡ Some f.job.tree.number
    is_named = named_now store meant a.db x.db f passes

  module _ (first : MachineValue P M) where
    abbrev numbers : Key → Option ℕ
    numbers = numbers_of first.db.trees

    abbrev given : ℕ → Bool
    given = given_to first.db.trees_given

    abbrev flights : MachineValue P M → List Flight
    flights m = flights_up_to numbers (kept_at m.flights) first.slots_given

    -- after so many steps that went on
    record IsAfter (w : Forest) (m : MachineValue P M) (i : ℕ) : Type 0 where
      trees : numbers_of m.db.trees ≡ numbers
      tree_count : m.db.trees_given ≡ first.db.trees_given
      slot_count : m.slots_given ≡ first.slots_given
      sound : IsSound store m
      moves : MovesAmong numbers given (store first.db.pages) (flights first) w i (store m.db.pages) (flights m) sound.db.forest

    moment : (m : MachineValue P M) → numbers_of m.db.trees ≡ numbers → m.db.trees_given ≡ first.db.trees_given → snapshot_of_db store m.db ≡ snapshot_of (store m.db.pages) numbers given
    moment m trees count = ap (λ z. snapshot_of (store m.db.pages) z (given_to m.db.trees_given)) trees ∙ ap (λ z. snapshot_of (store m.db.pages) numbers (given_to z)) count

    module _ (w : Forest) (a b : MachineValue P M) (i slot : ℕ) (r : IsAfter w a i)
        (k : MachineStepContract store number meant a (step.Step slot) outcome.Moved b) (y : IsSound store b) where
      abbrev was : InFlight
      was = f a b slot k r.sound y

      abbrev is : InFlight
      is = g a b slot k r.sound y

      there : kept_at a.flights slot ≡ Some was
      there = (flying a b slot k r.sound y).1

      there_now : kept_at b.flights slot ≡ Some is
      there_now = now_there a b slot k r.sound y

      has_name : numbers was.job.tree.name ≡ Some was.job.tree.number
      has_name = subst (λ z. z was.job.tree.name ≡ Some was.job.tree.number) r.trees (is_named a b slot k r.sound y)

      live : is_live numbers was ≡ true
      live = live_is _ _ has_name

      lives : is_live numbers is ≡ true
      lives = live_is _ _ (subst (λ z. numbers z.name ≡ Some z.number) (sym (same_tree a b slot k r.sound y)) has_name)

      other_slots : (q : ℕ) → q ≢ slot → kept_at b.flights q ≡ kept_at a.flights q
      other_slots q off = k.slots.others q (λ e. off (sym (some_is e)))

      trees_now : numbers_of b.db.trees ≡ numbers
      trees_now = same_trees a b slot k r.sound y ∙ r.trees

      count_now : b.db.trees_given ≡ first.db.trees_given
      count_now = same_given a b slot k r.sound y ∙ r.tree_count

      at_moment : snapshot_of_db store b.db ≡ snapshot_of (store b.db.pages) numbers given
      at_moment = moment b trees_now count_now

      -- what a call in a slot knows then
      known_now : (q : ℕ) (h : InFlight) → kept_at b.flights q ≡ Some h → Knows (snapshot_of (store b.db.pages) numbers given) y.db.forest (course_of h) h.stage
      known_now q h e = subst (λ z. Knows z y.db.forest (course_of h) h.stage) at_moment ((y.calls.known q h e).is y.db.forest y.db.is)

      slots : AreBeside numbers (kept_at a.flights) (kept_at b.flights) slot was is there there_now live lives other_slots first.slots_given
      slots = beside numbers (kept_at a.flights) (kept_at b.flights) slot was is there there_now live lives other_slots first.slots_given (subst (λ z. slot ≤ z) r.slot_count (r.sound.calls.given slot was there))

      sets : SetsOff (store a.db.pages) (store b.db.pages) was is
      sets = off a b slot k r.sound y

      goes : GoesOnAlone numbers given sets.course (store a.db.pages) sets.was r.sound.db.forest (store b.db.pages) is.stage y.db.forest
      goes = record {
        follows = sets.follows;
        formed = subst (λ z. HasForest z y.db.forest) at_moment y.db.is;
        stays = λ x p i. (k.loses.none r.sound.db.forest y.db.forest r.sound.db.is y.db.is).is x p (λ e. none_some e) i;
        knows = subst (λ z. Knows (snapshot_of (store b.db.pages) numbers given) y.db.forest z is.stage) sets.same (known_now slot is there_now);
      }

      goes_among : GoesOnAmong numbers given (store a.db.pages) (slots.before ++ flight sets.course sets.was ∷ slots.behind) r.sound.db.forest (store b.db.pages) (flights b) y.db.forest
      goes_among = record {
        course = sets.course;
        was = sets.was;
        is = is.stage;
        before = slots.before;
        behind = slots.behind;
        from = refl;
        to = slots.to ∙ ap (λ z. slots.before ++ flight z is.stage ∷ slots.behind) sets.same;
        goes = goes;
        begins = sets.begins;
        others = λ x i.
            let e = slots.others x i in
            subst (λ (z : Flight). Knows (snapshot_of (store b.db.pages) numbers given) y.db.forest z.course z.stage) (sym e.2.is) (known_now e.0 e.2.call (other_slots e.0 e.1 ∙ e.2.there));
      }

      turned : MovesAmong numbers given (store first.db.pages) (flights first) w i (store a.db.pages) (slots.before ++ flight sets.course sets.was ∷ slots.behind) r.sound.db.forest
      turned = elim (sets.turns (flights a) slots.before slots.behind slots.from) [
        | inl e ↦ subst (λ z. MovesAmong numbers given (store first.db.pages) (flights first) w i (store a.db.pages) z r.sound.db.forest) e r.moves
        | inr t ↦ Turns r.moves t
      ]

      step_on : IsAfter w b (suc i)
      step_on = record {
        trees = trees_now;
        tree_count = count_now;
        slot_count = same_count a b slot k r.sound y ∙ r.slot_count;
        sound = y;
        moves = OneMoved turned goes_among;
      }

    rows : (reached : IsReached store number meant first) (n : ℕ) (last : MachineValue P M) → MovesInARow store number meant first n last → IsAfter (reached_sound store number meant first reached).db.forest last n
    rows reached n last Begins = record { trees = refl; tree_count = refl; slot_count = refl; sound = reached_sound store number meant first reached; moves = NoneMoved }
    rows reached n last (Moves {n = i} {slot = slot} {a = a} before k y) = step_on (reached_sound store number meant first reached).db.forest a last i slot (rows reached i a before) k y

    under_way : (reached : IsReached store number meant first) (x : Flight) → In x (flights first) → IsUnderWay numbers given (store first.db.pages) (reached_sound store number meant first reached).db.forest x
    under_way reached x i =
        let k = in_slots numbers (kept_at first.flights) first.slots_given x i in
        let means = live_means (numbers k.2.call.job.tree.name) k.2.call.job.tree.number k.2.live in
        let sound = reached_sound store number meant first reached in
        subst (λ z. IsUnderWay numbers given (store first.db.pages) sound.db.forest z) (sym k.2.is) (record {
          named = means;
          knows = (sound.calls.known k.0 k.2.call k.2.there).is sound.db.forest sound.db.is;
          halves = machine_halves_law store number meant first reached k.0 k.2.call k.2.there;
        })

  pub moves_law : MovesLaw store number meant
  moves_law first reached n last row =
      let sound = reached_sound store number meant first reached in
      let k = rows first reached n last row in
      among_law (numbers_of first.db.trees) (given_to first.db.trees_given) (store first.db.pages) (flights_of first) sound.db.forest sound.db.is (under_way first reached) n (store last.db.pages) _ k.sound.db.forest k.moves
