-- One step of a scan.
use Rattle.std.proofs.Common.{◌≡◌, ℕ, ◌+◌, ◌<◌, Bool, true, false, List, [], ◌∷◌, drop, Option, Some, None, option_map, sym, refl, ap, ◌∙◌, subst, inl, inr, arith}
use Rattle.std.specs.FinMap.Entries.{find}
use Rattle.std.specs.Ordering.{nat_cmp}
use Rattle.std.specs.declared.ops.Bound.{Bound}
use Rattle.std.specs.declared.ops.Bound.TheVariants.{Included}
use Rattle.sled_nodes.proofs.Basics.{none_some, some_is, true_false}
use Rattle.sled_nodes.specs.Order.{Key}
use Rattle.sled_nodes.specs.Node.{pairs}
use Rattle.sled_nodes.specs.Ranges.{Range, pairs_in}
use Rattle.sled_nodes.specs.declared.error.Error.{Error}
use Rattle.sled_nodes.specs.declared.error.Error.TheVariants as error
use Rattle.sled_store.specs.Update.{put_at, put_name}
use Rattle.sled_store.specs.Store.{Store, now}
use Rattle.sled_model.specs.Maps.{Map, Merge}
use Rattle.sled_model.specs.Answer.{Answer, answer_of}
use Rattle.sled_model.specs.State.{CallInFlight, NamedTree, IsOnKey, range_of}
use Rattle.sled_model.specs.Scan.{is_read}
use Rattle.sled_model.specs.Refusal.{must_refuse, ToStep, turns_limit}
use Rattle.sled_model.specs.declared.call.Call.{Call}
use Rattle.sled_model.specs.declared.call.Call.TheVariants.{Scan}
use Rattle.sled_model.specs.declared.event.Event.{Event}
use Rattle.sled_model.specs.declared.reply.Reply.{Reply}
use Rattle.sled_model.specs.declared.reply.Reply.TheVariants.{End}
use Rattle.sled_queues.specs.Values.{QueuesValue, queue_at}
use Rattle.sled_queues.specs.Queues.{Becomes}
use Rattle.tree_laws.specs.Contents.{trees_of}
use Rattle.sled_store.specs.In.{In}
use Rattle.sled_model.proofs.Shapes.{Reads}
use Rattle.tree_laws.specs.Crashes.{AddsCrashStates, IsCrashConsistent}
use Rattle.tree_laws.specs.Forest.{Forest, contents}
use Rattle.tree_laws.specs.Snapshot.{Snapshot, nodes_at, HasForest}
use Rattle.tree_laws.specs.Stages.{owned}
use Rattle.tree_laws.specs.declared.flight.Giving.{Giving}
use Rattle.tree_laws.specs.declared.flight.Stage.{Stage}
use Rattle.tree_laws.specs.declared.flight.Stage.TheVariants as stage
use Rattle.tree_laws.specs.theory.Snapshot.{KeepsForest}
use Rattle.tree_laws.proofs.Crashing.{extends_same, extends_again}
use Rattle.tree_laws.proofs.Known.{fresh_in}
use Rattle.tree_laws.proofs.Reading.{range_law}
use Rattle.sled_tree.specs.Course.{Course, course_of, course, start_of, first_aim, aim_of, IsAimed}
use Rattle.sled_tree.specs.Follows.{Follows}
use Rattle.sled_tree.specs.Known.{IsKnown}
use Rattle.sled_tree.specs.StageAction.{LeaksNoPage, leaks_no_page_as}
use Rattle.sled_tree.specs.Stages.{Knows, IsOnItsWay}
use Rattle.sled_tree.specs.declared.flight.Aim.{Aim}
use Rattle.sled_tree.specs.declared.flight.Aim.TheVariants.{Own, At}
use Rattle.sled_tree.specs.declared.flight.InFlight.{InFlight}
use Rattle.sled_tree.specs.declared.flight.Job.{Job}
use Rattle.sled_tree.specs.declared.flight.Sequel.TheVariants as sequel
use Rattle.sled_tree.specs.declared.flight.Went.{Went}
use Rattle.sled_tree.specs.declared.flight.Went.TheVariants.{Moved, Yielded, Decided, Refused}
use Rattle.sled_tree.specs.theory.Linking.{StepsBy}
use Rattle.sled_tree.specs.theory.StageAction.{StageActionBy, KeepsContents, Only}
use Rattle.sled_tree.proofs.Deciding.{give_law}
use Rattle.sled_tree.proofs.Facts.{by_these, unable, leaves_same}
use Rattle.sled_tree.proofs.Known.{known_kept}
use Rattle.tree_scans.specs.Scans.{ScanStep, CanEnd, Gives, Ends, GoesOn, Walks, Lacks, waiting_of, rest_of, waiting_in, rest_in, waiting_at, rest_at, range_from, behind, aim_behind}
use Rattle.tree_scans.proofs.Scanning as scanning
use Rattle.sled.specs.Values.{DbValue, numbers_of, given_to, state_of, db_state, snapshot_of_db}
use Rattle.sled.specs.Sound.{IsDb}
use Rattle.sled.specs.Flights.{call_in_flight_of, sequel_of, WalksOn, follows_as, has_path, BringsEvent, DbStepContract}
use Rattle.tree_steps.specs.theory.Watched.{StepsOver, steps_over_as}
use Rattle.sled.proofs.Flying.{at, is_db, calm_still, no_group, operator, tree_now, there, named_now, state_over, loses_acting, refuses_quietly, cause_is, touches_acting, told_now, done_state, flies_moved, moved_db, flies_refused, refused_db, flown}
use Rattle.sled.proofs.Trees.{trees_put, maps_are}

-- a scan is on no key
off_key : (call : Call) (range : Range) → range_of call ≡ Some range → IsOnKey call → ⊥
off_key call range scan on_key = none_some (sym on_key ∙ scan)

-- what a scan answers on any map: it changes nothing
scan_answers : (op : Option Merge) (map : Map) (call : Call) (range : Range) → range_of call ≡ Some range → answer_of op call map ≡ record { map = map; reply = End; event = None }
scan_answers op map (Scan lo hi back) range scan = refl
scan_answers op map other range scan = none_some scan

-- a walk of a scan aims at where it goes on
start_is : (lo : Bound Key) → scanning.IsStart lo (start_of lo)
start_is (Included k) = refl
start_is other = refl

first_starts : (call : Call) (range : Range) → range_of call ≡ Some range → scanning.starts_as range.back range.lo range.hi (first_aim call)
first_starts (Scan lo hi false) range scan = subst (λ (r : Range). scanning.starts_as r.back r.lo r.hi (Included (start_of lo))) (some_is scan) (start_of lo, refl, start_is lo)
first_starts (Scan lo hi true) range scan = subst (λ (r : Range). scanning.starts_as r.back r.lo r.hi hi) (some_is scan) refl
first_starts other range scan = none_some scan

from_starts : (j : Job) (aim : Aim) (range : Range) → range_of j.call ≡ Some range → IsAimed (course j aim) → scanning.starts_as (range_from aim range).back (range_from aim range).lo (range_from aim range).hi (aim_of j aim)
from_starts j Own range scan aimed = first_starts j.call range scan
from_starts j (At bound) range scan aimed = go range.lo range.hi range.back scan
  where
    go : (lo hi : Bound Key) (back : Bool) → range_of j.call ≡ Some (record { lo = lo; hi = hi; back = back })
        → scanning.starts_as (range_from (At bound) (record { lo = lo; hi = hi; back = back })).back (range_from (At bound) (record { lo = lo; hi = hi; back = back })).lo (range_from (At bound) (record { lo = lo; hi = hi; back = back })).hi bound
    go lo hi true scan = refl
    go lo hi false scan = let k = aimed.rises (record { lo = lo; hi = hi; back = false }) scan refl in (k.0, k.1, subst (λ z. scanning.IsStart z k.0) (sym k.1) refl)

-- a call that does not end with its action asks for no operator
goes_any : {by which : Option Merge → Type 0} {j : Course} {a b : Store} {s c : Stage} → StageActionBy by j a s (sequel.Go c) b → StageActionBy which j a s (sequel.Go c) b
goes_any x = record { touches = x.touches; is = x.is }

refuses_any : {by which : Option Merge → Type 0} {j : Course} {a b : Store} {s : Stage} {e : Error} → StageActionBy by j a s (sequel.Refused e) b → StageActionBy which j a s (sequel.Refused e) b
refuses_any x = record { touches = x.touches; is = x.is }

-- a call that is on its way has all of its range to read
rest_way : (s : Stage) (r : Range) → IsOnItsWay s → rest_at s r ≡ Some r
rest_way (stage.Give a) r way = absurd way
rest_way other r way = refl

waits_way : (s : Stage) (r : Range) → IsOnItsWay s → waiting_at s r ≡ []
waits_way (stage.Give a) r way = absurd way
waits_way other r way = refl

ends_unowned : (s : Stage) → CanEnd s → owned s ≡ []
ends_unowned stage.Root between = refl
ends_unowned (stage.Give a) between = refl
ends_unowned other between = absurd between

-- a scan on its way aims where it aimed
walks_on : (old new : Store) (f g : InFlight) (went : Went) → StepsBy None old f went new g → WalksOn old f went new g
walks_on old new f g Moved s = record { follows = s.follows; aims = s.advances.is.1 }
walks_on old new f g (Yielded key value) s = record { follows = s.follows; aims = tt }
walks_on old new f g (Decided reply) s = record { follows = s.follows; aims = tt }
walks_on old new f g (Refused e) s = record { follows = s.follows; aims = tt }

module _ {P M : Type 0} (store : P → Store) (meant : M → Merge) (old : DbValue P M) (db : IsDb store old) (q : P) (queues : QueuesValue) (keeps : Becomes (queue_at old.queues) old.queues.given queues) where
  abbrev new : DbValue P M
  new = record old { pages = q; queues = queues }

  abbrev after : Snapshot
  after = snapshot_of_db store (record old { pages = q })

  module _ (f : InFlight) (must : must_refuse (db_state store meant old) (ToStep (call_in_flight_of f)) ≡ None) (known : IsKnown (snapshot_of_db store old) f) (fits : f.turns < turns_limit) (range : Range) (scan : range_of f.job.call ≡ Some range) where
    abbrev Flown : Went → InFlight → Type 0
    Flown went g = DbStepContract store meant old f went new g × IsDb store new

    follows_scan : (went : Went) (g : InFlight) → ScanStep WalksOn (store old.pages) f went (store q) g → follows_as (range_of f.job.call) (store old.pages) f went (store q) g
    follows_scan went g s = subst (λ r. follows_as r (store old.pages) f went (store q) g) (sym scan) s

    -- the map now, and the range from where the scan goes on
    abbrev map_now : Map
    map_now = (tree_now store meant old db f must).map

    abbrev from : Range
    from = range_from f.aim range

    -- what was read at a leaf is a part of the map now
    reads_way : (g : InFlight) → IsOnItsWay f.stage → g.job ≡ f.job → g.aim ≡ f.aim → Follows (course_of f) (store old.pages) f.stage (sequel.Go g.stage) (store q)
        → (v : Forest) → HasForest after v → Knows after v (course_of f) g.stage → KeepsContents (at store meant old db) db.forest after v
        → Reads (tree_now store meant old db f must).map (waiting_of f) (rest_of f) (waiting_of g) (rest_of g)
    reads_way g way job aim follows v is knows kept =
        subst (λ (c : Call). Reads map_now (waiting_of f) (rest_of f) (waiting_in g.stage g.aim (range_of c)) (rest_in g.stage g.aim (range_of c))) (ap (λ (j : Job). j.call) (sym job))
        (subst (λ (a : Aim). Reads map_now (waiting_of f) (rest_of f) (waiting_in g.stage a (range_of f.job.call)) (rest_in g.stage a (range_of f.job.call))) (sym aim)
        (subst (λ (o : Option Range). Reads map_now (waiting_in f.stage f.aim o) (rest_in f.stage f.aim o) (waiting_in g.stage f.aim o) (rest_in g.stage f.aim o)) (sym scan)
        (go g.stage follows knows)))
      where
        goes : (s : Stage) → IsOnItsWay s → Reads map_now (waiting_at f.stage from) (rest_at f.stage from) (waiting_at s from) (rest_at s from)
        goes s on = inl (waits_way s from on ∙ sym (waits_way f.stage from way), rest_way s from on ∙ sym (rest_way f.stage from way))

        go : (s : Stage) → Follows (course_of f) (store old.pages) f.stage (sequel.Go s) (store q) → Knows after v (course_of f) s → Reads map_now (waiting_at f.stage from) (rest_at f.stage from) (waiting_at s from) (rest_at s from)
        go (stage.Give a) follows knows =
            let read = give_law (course_of f) (store old.pages) (store q) f.stage a follows in
            let here = fresh_in knows.0.seen (record { page = _; live = read.1.0; same = refl }) (named_now store meant old db f must) in
            let whole = range_law (nodes_at after) after.state.roots v is.formed f.job.tree.name a.leaf.pid a.leaf.node here (ap (option_map (λ (z : Rattle.sled_store.specs.declared.page.Page.Page). z.node)) read.1.0) in
            let part = scanning.reads_leaf a.leaf.node whole.0 (pairs a.leaf.node.content) whole.1 (contents (nodes_at after) v f.job.tree.name) whole.2 whole.3 whole.4 whole.5 from (aim_of f.job f.aim) (from_starts f.job f.aim range scan known.aimed) knows.0.under in
            inr (record {
              none = waits_way f.stage from way;
              range = from;
              had = rest_way f.stage from way;
              part = part.0;
              takes = part.1;
              wait = ap (λ n. drop n (pairs_in from (pairs a.leaf.node.content))) read.1.1 ∙ part.2 ∙ ap (pairs_in part.0) (kept.same f.job.tree.name);
            })
        go other follows knows = goes other tt

    -- ---- on its way a scan does what every call does

    walked : (went : Went) (g : InFlight) → IsOnItsWay f.stage → (f.stage ≡ stage.Root → is_read (rest_of f) ≡ false) → StepsBy None (store old.pages) f went (store q) g → Flown went g
    walked Moved g way begun s =
        let a = s.advances.is in
        let moves : StageActionBy (Only (operator store meant old db f must)) (course_of f) (store old.pages) f.stage (sequel.Go g.stage) (store q) = goes_any a.3 in
        let m = a.3.is (numbers_of old.trees) (given_to old.trees_given) db.forest db.is (named_now store meant old db f must) (known.is db.forest db.is) in
        let reads = reads_way g way a.0 a.1 s.follows.is m.0 m.1.is m.2.0 m.2.1 in
        let follows = follows_scan Moved g (Walks Moved (store q) g way begun (walks_on (store old.pages) (store q) f g Moved s)) in (
          flies_moved store meant old db f must q queues known fits g a.0 a.1 a.2 moves (λ path. s.passes) follows keeps reads,
          moved_db store meant old db f must q queues known fits g a.0 a.1 a.2 moves (λ path. s.passes) follows keeps reads,
        )
    walked (Yielded key value) g way begun s = absurd s.advances.is
    walked (Decided reply) g way begun s =
        let d = s.advances.is.is (numbers_of old.trees) (given_to old.trees_given) db.forest db.is (named_now store meant old db f must) (known.is db.forest db.is) in
        absurd (off_key f.job.call range scan (d.2 None refl).on_key)
    walked (Refused e) g way begun s =
        let moves : StageActionBy (Only (operator store meant old db f must)) (course_of f) (store old.pages) f.stage (sequel.Refused e) (store q) = refuses_any s.advances.is in
        let quietly = refuses_quietly e (store old.pages) (store q) s.advances.is.touches in
        let cause = λ (slots : ℕ → Option CallInFlight) (given : ℕ). cause_is (state_of store meant old slots given) (call_in_flight_of f) e (store old.pages) (store q) s.advances.is.touches in
        let follows = follows_scan (Refused e) g (Walks (Refused e) (store q) g way begun (walks_on (store old.pages) (store q) f g (Refused e) s)) in (
          flies_refused store meant old db f must q queues known fits g e moves quietly cause follows keeps,
          refused_db store meant old db f must q queues known fits g e moves quietly cause follows keeps,
        )

    -- ---- a step that leaves the pages as they are

    module _ (same : store q ≡ store old.pages) where
      -- it could be refused for want of memory, which leaves all as it was
      rests : StageActionBy (Only (operator store meant old db f must)) (course_of f) (store old.pages) f.stage (sequel.Refused error.NoMemory) (store q)
      rests = subst (λ s. StageActionBy (Only (operator store meant old db f must)) (course_of f) (store old.pages) f.stage (sequel.Refused error.NoMemory) s) (sym same) (by_these (course_of f) (store old.pages) (store old.pages) f.stage (sequel.Refused error.NoMemory) (unable (course_of f) (store old.pages) f.stage error.NoMemory refl))

      left : (v : Forest) × KeepsForest (owned f.stage) [] (at store meant old db) db.forest after v × KeepsContents (at store meant old db) db.forest after v × Unit {0}
      left = rests.is (numbers_of old.trees) (given_to old.trees_given) db.forest db.is (named_now store meant old db f must) (known.is db.forest db.is)

      short_follows : (g : InFlight) (a : Giving) → f.stage ≡ stage.Give a → follows_as (range_of f.job.call) (store old.pages) f (Refused error.NoMemory) (store q) g
      short_follows g a here = follows_scan (Refused error.NoMemory) g (subst (λ s. ScanStep WalksOn (store old.pages) f (Refused error.NoMemory) s g) (sym same) (Lacks a g here))

      still_db : (g : InFlight) → follows_as (range_of f.job.call) (store old.pages) f (Refused error.NoMemory) (store q) g → IsDb store new
      still_db g follows = refused_db store meant old db f must q queues known fits g error.NoMemory rests same (λ slots given. tt) follows keeps

      lacks : (g : InFlight) (a : Giving) → f.stage ≡ stage.Give a → Flown (Refused error.NoMemory) g
      lacks g a here = (
        flies_refused store meant old db f must q queues known fits g error.NoMemory rests same (λ slots given. tt) (short_follows g a here) keeps,
        still_db g (short_follows g a here),
      )

      same_trees : (t : Key) → trees_of (now (store q)) t ≡ trees_of (now (store old.pages)) t
      same_trees t = ap (λ (s : Store). trees_of (now s) t) same

      no_pages : (v : Forest) (b : Stage) → owned f.stage ≡ [] → LeaksNoPage (owned f.stage) (owned b) (now (store old.pages)) (now (store q)) v
      no_pages v b none = subst (λ (s : Store). LeaksNoPage (owned f.stage) (owned b) (now (store old.pages)) (now s) v) (sym same) (leaves_same (owned f.stage) (owned b) (now (store old.pages)) v (λ p i. absurd (subst (In p) none i)))

      -- a pair is given
      module _ (a : Giving) (key value : Key) (more : List (Key × Key)) (here : f.stage ≡ stage.Give a) (waits : waiting_of f ≡ (key, value) ∷ more) where
        abbrev gone_on : InFlight
        gone_on = record f { stage = stage.Give (record a { given = a.given + 1 }); turns = 0 }

        given_flying : call_in_flight_of gone_on ≡ record (call_in_flight_of f) { turns = 0; waiting = more }
        given_flying = λ i. record { tree = f.job.tree; call = f.job.call; turns = 0; waiting = scanning.more_wait f a (key, value) more here waits i; rest = scanning.rest_stays f a here i }

        none_owned : owned f.stage ≡ []
        none_owned = ap owned here

        known_on : IsKnown (snapshot_of_db store new) gone_on
        known_on = let k = known_kept db.is left.1 f known (λ p i j. subst (In p) none_owned i) in record {
          is = λ w is. let k = subst (Knows after w (course_of f)) here (k.is w is) in (k.0, k.1, k.2);
          aimed = k.aimed;
          fits = omega arith;
          begins = λ on_key none. absurd (off_key f.job.call range scan on_key);
        }

        gives : Flown (Yielded key value) gone_on
        gives = (
          record {
            step = record {
              steps = λ slots given slot before after there. record {
                is = (
                  record {
                    flying = call_in_flight_of f;
                    here = there;
                    free = must;
                    fits = fits;
                    more = more;
                    waits = waits;
                    is = state_over store meant old db q queues keeps slots (put_at slots slot (Some (call_in_flight_of gone_on))) given same_trees (ap (λ (s : Store). (now s).in_group) same) (ap (λ (s : Store). s.mark) same)
                        ∙ ap (λ (z : CallInFlight). record (state_of store meant old slots given) { slots = put_at slots slot (Some z) }) given_flying;
                  },
                  refl,
                );
              };
              extends = subst (λ (s : Store). AddsCrashStates [] (store old.pages) s) (sym same) (extends_same (store old.pages));
              same = refl;
              queues = keeps;
            };
            sound = record { keeps = λ d. still_db f (short_follows f a here) };
            does = record { does = same; quiet = λ k. absurd (apart k.reply k.decided); loud = λ event k. absurd (apart k.reply k.decided) };
            follows = λ must fits. follows_scan (Yielded key value) gone_on (subst (λ s. ScanStep WalksOn (store old.pages) f (Yielded key value) s gone_on) (sym same) (Gives a key value more here waits));
            passes = λ path. absurd (subst IsOnItsWay here (subst (λ r. has_path r f.stage) scan path));
            loses = loses_acting (at store meant old db) after db.forest left.0 db.is left.1;
            leaves = λ v is. no_pages v (stage.Give (record a { given = a.given + 1 })) none_owned;
            knows = record { goes_on = λ goes. (refl, known_on); others = λ h off k. (known_kept db.is left.1 h k off.off, λ goes. record { off = λ p i j. absurd i }) };
          },
          still_db f (short_follows f a here),
        )
          where
            apart : (r : Reply) → Yielded key value ≡ Decided r → ⊥
            apart r e = cc

      -- the scan ends
      module _ (g : InFlight) (between : CanEnd f.stage) (waits : waiting_of f ≡ []) (done : is_read (rest_of f) ≡ true) where
        nothing_owned : owned f.stage ≡ []
        nothing_owned = ends_unowned f.stage between

        abbrev answer : Answer
        answer = answer_of (operator store meant old db f must) f.job.call (tree_now store meant old db f must).map

        quiet : answer ≡ record { map = (tree_now store meant old db f must).map; reply = End; event = None }
        quiet = scan_answers (operator store meant old db f must) (tree_now store meant old db f must).map f.job.call range scan

        put_back : trees_of (now (store q)) ≡ put_name (trees_of (now (store old.pages))) f.job.tree.name (Some answer.map)
        put_back =
            subst (λ (s : Store). trees_of (now s) ≡ put_name (trees_of (now (store old.pages))) f.job.tree.name (Some (tree_now store meant old db f must).map)) (sym same)
            (trees_put (store old.pages) (store old.pages) (numbers_of old.trees) (given_to old.trees_given) db.forest db.forest db.is db.is f.job.tree.name f.job.tree.number (named_now store meant old db f must) (λ t off. refl))
            ∙ ap (λ (a : Answer). put_name (trees_of (now (store old.pages))) f.job.tree.name (Some a.map)) (sym quiet)

        follows_end : follows_as (range_of f.job.call) (store old.pages) f (Decided End) (store q) g
        follows_end = follows_scan (Decided End) g (subst (λ s. ScanStep WalksOn (store old.pages) f (Decided End) s g) (sym same) (Ends g between waits done))

        ends_db : IsDb store new
        ends_db = is_db store meant old db f must q queues known left.0 left.1 (subst IsCrashConsistent (sym same) db.safe) (ap (λ (s : Store). s.mark) same) (calm_still store meant old db f must q queues known keeps)

        ends : Flown (Decided End) g
        ends = (
          record {
            step = record {
              steps = λ slots given slot before after there_is. record {
                is = (
                  record {
                    flying = call_in_flight_of f;
                    here = there_is;
                    free = must;
                    fits = fits;
                    tree = tree_now store meant old db f must;
                    there = there store meant old db f must;
                    none = waits;
                    done = done;
                    replies = sym (ap (λ (a : Answer). a.reply) quiet);
                    is = done_state store meant old db f must q queues known put_back (touches_acting (store old.pages) (store q) (inl same)) (told_now store meant old db f must queues None (ap (λ (a : Answer). a.event) quiet) keeps) slots given slot;
                  },
                  refl,
                );
              };
              extends = subst (λ m. AddsCrashStates (m ∷ []) (store old.pages) (store q)) (sym (maps_are store meant new left.0 left.1.is))
                  (subst (λ (s : Store). AddsCrashStates (trees_of (now s) ∷ []) (store old.pages) s) (sym same) (extends_again (extends_same (store old.pages)) (no_group store meant old db f must q queues known)));
              same = refl;
              queues = keeps.count;
            };
            sound = record { keeps = λ d. ends_db };
            does = record { does = inl same; quiet = λ k. same; loud = λ event k. none_some (sym (ap (λ (a : Answer). a.event) quiet) ∙ (brought k.tree k.there ∙ k.is)) };
            follows = λ must fits. follows_end;
            passes = λ path. record { is = tt };
            loses = loses_acting (at store meant old db) after db.forest left.0 db.is left.1;
            leaves = λ v is. subst (λ (s : Store). LeaksNoPage (owned f.stage) [] (now (store old.pages)) (now s) v) (sym same) (leaves_same (owned f.stage) [] (now (store old.pages)) v (λ p i. subst (In p) nothing_owned i));
            knows = record { goes_on = λ goes. absurd goes; others = λ h off k. (known_kept db.is left.1 h k off.off, λ goes. absurd goes) };
          },
          ends_db,
        )
          where
            -- the event by the map now
            brought : (t : NamedTree) → (db_state store meant old).trees f.job.tree.name ≡ Some t → answer.event ≡ (answer_of t.merge f.job.call t.map).event
            brought t there_too = ap (λ (t : NamedTree). (answer_of t.merge f.job.call t.map).event) (some_is (sym (there store meant old db f must) ∙ there_too))

-- ---- a scan that goes on behind its leaf does what one does that begins there

module _ {P M : Type 0} (store : P → Store) (meant : M → Merge) (old new : DbValue P M) (f g : InFlight) (went : Went) (range : Range) (scan : range_of f.job.call ≡ Some range) (a : Giving) (here : f.stage ≡ stage.Give a) (waits : waiting_of f ≡ []) (more : is_read (rest_of f) ≡ false) where
  same_flying : call_in_flight_of f ≡ call_in_flight_of (behind f a range)
  same_flying = λ i. record { tree = f.job.tree; call = f.job.call; turns = f.turns; waiting = (waits ∙ sym (scanning.behind_waits f a range)) i; rest = sym (scanning.behind_rest f a range here scan more) i }

  from_behind : follows_as (range_of f.job.call) (store old.pages) f went (store new.pages) g → DbStepContract store meant old (behind f a range) went new g → DbStepContract store meant old f went new g
  from_behind follows s = record {
    step = record {
      steps = λ slots given slot before after there. s.step.steps slots given slot before after (there ∙ ap Some same_flying);
      extends = s.step.extends;
      same = s.step.same;
      queues = s.step.queues;
    };
    sound = s.sound;
    does = record { does = s.does.does; quiet = λ k. s.does.quiet (brought None k); loud = λ event k. s.does.loud event (brought (Some event) k) };
    follows = λ must fits. follows;
    passes = λ path. absurd (subst IsOnItsWay here (subst (λ r. has_path r f.stage) scan path));
    loses = s.loses;
    leaves = λ v is. subst (λ z. leaks_no_page_as (sequel_of went g) (owned z) (now (store old.pages)) (now (store new.pages)) v) (sym here) (s.leaves v is);
    knows = record { goes_on = s.knows.goes_on; others = λ h off k. s.knows.others h (record { off = λ p i j. absurd i }) k };
  }
    where
      brought : (event : Option Event) → BringsEvent store meant old f went event → BringsEvent store meant old (behind f a range) went event
      brought event b = record { reply = b.reply; decided = b.decided; tree = b.tree; there = b.there; is = b.is }

-- where a scan goes on, its walk aims so
behind_aimed : (f : InFlight) (a : Giving) (range : Range) → range_of f.job.call ≡ Some range → IsAimed (course_of (behind f a range))
behind_aimed f a range scan = record {
  key = λ on_key. absurd (off_key f.job.call range scan on_key);
  rises = λ r is up. (a.leaf.node.hi, go range.back (ap (λ (z : Range). z.back) (some_is (sym scan ∙ is)) ∙ up));
}
  where
    go : (back : Bool) → back ≡ false → aim_of f.job (aim_behind a.leaf.node back) ≡ Included a.leaf.node.hi
    go false up = refl
    go true up = true_false up

module _ {P M : Type 0} (store : P → Store) (meant : M → Merge) (old : DbValue P M) (db : IsDb store old) (q : P) (queues : QueuesValue) (f : InFlight) (must : must_refuse (db_state store meant old) (ToStep (call_in_flight_of f)) ≡ None) (known : IsKnown (snapshot_of_db store old) f) (fits : f.turns < turns_limit) where
  -- one step of a scan, whatever comes of it
  scanned : (range : Range) → range_of f.job.call ≡ Some range → Becomes (queue_at old.queues) old.queues.given queues → {a b : Store} {went : Went} {g : InFlight} → a ≡ store old.pages → b ≡ store q → ScanStep (StepsBy None) a f went b g
      → DbStepContract store meant old f went (record old { pages = q; queues = queues }) g × IsDb store (record old { pages = q; queues = queues })
  scanned range scan keeps from to (Gives a key value more here waits) = gives store meant old db q queues keeps f must known fits range scan (sym to ∙ from) a key value more here waits
  scanned range scan keeps from to (Ends g between waits done) = ends store meant old db q queues keeps f must known fits range scan (sym to ∙ from) g between waits done
  scanned range scan keeps from to (Lacks a g here) = lacks store meant old db q queues keeps f must known fits range scan (sym to ∙ from) g a here
  scanned range scan keeps {a = first} from to (Walks went last g way begun s) = walked store meant old db q queues keeps f must known fits range scan went g way begun (subst (λ x. StepsBy None x f went (store q) g) from (subst (λ y. StepsBy None first f went y g) to s))
  scanned range scan keeps {a = first} from to (GoesOn a r went after_is g here scan_too waits more s) =
      let one : r ≡ range = some_is (sym scan_too ∙ scan) in
      let steps : StepsBy None (store old.pages) (behind f a range) went (store q) g =
      subst (λ x. StepsBy None x (behind f a range) went (store q) g) from (subst (λ y. StepsBy None first (behind f a range) went y g) to (subst (λ z. StepsBy None first (behind f a z) went after_is g) one s)) in
      let k : IsKnown (snapshot_of_db store old) (behind f a range) = record {
        is = λ w is. (tt, tt, behind_aimed f a range scan);
        aimed = behind_aimed f a range scan;
        fits = known.fits;
        begins = λ on_key. absurd (off_key f.job.call range scan on_key);
      } in
      let w = walked store meant old db q queues keeps (behind f a range) must k fits range scan went g tt (λ root. ap is_read (scanning.behind_rest f a range here scan more) ∙ more) steps in (
        from_behind store meant old (record old { pages = q; queues = queues }) f g went range scan a here waits more
            (subst (λ o. follows_as o (store old.pages) f went (store q) g) (sym scan) (GoesOn a range went (store q) g here scan waits more (walks_on (store old.pages) (store q) (behind f a range) g went steps))) w.0,
        w.1,
      )

  -- .. and of any call
  flown_over : (went : Went) (g : InFlight) → StepsOver (operator store meant old db f must) (store old.pages) old.queues f went (store q) queues g
      → DbStepContract store meant old f went (record old { pages = q; queues = queues }) g × IsDb store (record old { pages = q; queues = queues })
  flown_over went g s = go (range_of f.job.call) refl s.is
    where
      go : (o : Option Range) → range_of f.job.call ≡ o → steps_over_as o (operator store meant old db f must) (store old.pages) old.queues f went (store q) queues g
          → DbStepContract store meant old f went (record old { pages = q; queues = queues }) g × IsDb store (record old { pages = q; queues = queues })
      go None on_key s = flown store meant old db f must q queues known fits g on_key went s
      go (Some range) scan s = scanned range scan s.1 refl refl s.0

-- the same, where a method knows the database by its fields
module _ {P M : Type 0} (store : P → Store) (meant : M → Merge) (inside old : DbValue P M) (e : inside ≡ old) (db : IsDb store inside) (f : InFlight) where
  pub flown_as : (q : P) (queues : QueuesValue) (fits : f.turns < turns_limit) (went : Went) (g : InFlight) → must_refuse (db_state store meant old) (ToStep (call_in_flight_of f)) ≡ None → IsKnown (snapshot_of_db store old) f
      → (by : Option Merge) → by ≡ option_map meant (find nat_cmp f.job.tree.number inside.operators) → StepsOver by (store inside.pages) inside.queues f went (store q) queues g
      → DbStepContract store meant old f went (record inside { pages = q; queues = queues }) g × IsDb store (record inside { pages = q; queues = queues })
  flown_as q queues fits went g must known by is a =
      subst (λ (z : DbValue P M). must_refuse (db_state store meant z) (ToStep (call_in_flight_of f)) ≡ None → IsKnown (snapshot_of_db store z) f → DbStepContract store meant z f went (record inside { pages = q; queues = queues }) g × IsDb store (record inside { pages = q; queues = queues }))
      e (λ must known. flown_over store meant inside db q queues f must known fits went g (subst (λ o. StepsOver o (store inside.pages) inside.queues f went (store q) queues g) is a)) must known

-- a call on a key is never at the pairs of a leaf
pub on_its_way : (m : Snapshot) (w : Forest) (j : Course) (a : Stage) → Knows m w j a → IsOnKey j.call → IsOnItsWay a
on_its_way m w j (stage.Give b) k on_key = k.1 on_key
on_its_way m w j other k on_key = tt
