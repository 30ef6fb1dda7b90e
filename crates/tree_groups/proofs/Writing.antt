-- The steps of one write of a group.
use Rattle.std.proofs.Common.{◌≡◌, ℕ, suc, ◌+◌, ◌<◌, ◌≤◌, ◌⊎◌, Bool, true, false, List, [], length, Option, Some, None, option_map, sym, refl, ap, ◌∙◌, subst, inl, inr, arith}
use Rattle.std.specs.declared.ops.Bound.TheVariants.{Included}
use Rattle.sled_nodes.proofs.Basics.{none_some}
use Rattle.sled_nodes.specs.declared.error.Error.{Error}
use Rattle.sled_nodes.specs.declared.error.Error.TheVariants as error
use Rattle.sled_nodes.specs.declared.node.Node.{Node}
use Rattle.sled_store.specs.In.{In}
use Rattle.sled_store.specs.State.{State, Action, GroupBegins, GroupEnds, after, nodes_of}
use Rattle.sled_store.specs.Store.{Store, now, after_action}
use Rattle.sled_store.specs.declared.page.Page.{Page}
use Rattle.sled_model.specs.Answer.{answer_of, key_of}
use Rattle.sled_model.specs.Maps.{Map, Merge}
use Rattle.sled_model.specs.Refusal.{needs_operator, TellsTurns, turns_limit}
use Rattle.sled_model.specs.State.{IsOnKey}
use Rattle.sled_model.specs.declared.TheConstants.{MAX_LOOPS}
use Rattle.sled_model.specs.declared.call.Call.{Call}
use Rattle.sled_model.specs.declared.call.Call.TheVariants as call
use Rattle.sled_model.specs.declared.reply.Reply.{Reply}
use Rattle.tree_laws.specs.theory.Crashes.{AddsAction}
use Rattle.tree_laws.specs.Forest.{Tree, Forest, Place, contents}
use Rattle.tree_laws.specs.Paths.{IsClean}
use Rattle.tree_laws.specs.Snapshot.{Snapshot, snapshot_of, nodes_at, HasForest}
use Rattle.tree_laws.specs.theory.Snapshot.{KeepsForest}
use Rattle.tree_laws.proofs.Known.{grouped}
use Rattle.tree_laws.specs.Stages.{owned}
use Rattle.tree_laws.specs.declared.flight.Stage.{Stage}
use Rattle.tree_laws.specs.declared.flight.Stage.TheVariants as stage
use Rattle.tree_laws.proofs.Crashing.{inside_group_law, decides_law, adds_acted, adds_is, adds_now, extends_same, extends_then, extends_nothing}
use Rattle.sled_tree.specs.Course.{Course, course, course_of}
use Rattle.sled_tree.specs.Known.{IsKnown, AreApart}
use Rattle.sled_tree.specs.Passing.{IsOnPath, StepsOnPath}
use Rattle.sled_tree.specs.StageAction.{ActsAtMostOnce}
use Rattle.sled_tree.specs.Follows.{Follows, FollowsOn}
use Rattle.sled_tree.specs.Stages.{Knows, IsOnItsWay}
use Rattle.sled_tree.specs.theory.StageAction.{StageActionBy, FlightStepBy, Only, is_action_refused_as}
use Rattle.sled_tree.specs.declared.flight.Aim.TheVariants.{Own}
use Rattle.sled_tree.specs.declared.flight.InFlight.{InFlight}
use Rattle.sled_tree.specs.declared.flight.Job.{Job}
use Rattle.sled_tree.specs.declared.flight.Sequel.{Sequel}
use Rattle.sled_tree.specs.declared.flight.Sequel.TheVariants as sequel
use Rattle.sled_tree.specs.declared.flight.Went.TheVariants.{Moved, Decided, Refused}
use Rattle.sled_tree.proofs.Facts.{rests}
use Rattle.sled_tree.proofs.Known.{known_kept, not_own, aims}
use Rattle.tree_groups.proofs.Stepping.{one_step, turned}
use Rattle.tree_groups.proofs.Ways.{stays_on_way}
use Rattle.tree_groups.specs.Steps.{WriteStep, WriteSteps, Ends, GoesOn, RefusedSteps, StopsAt, RunsOut, StopsLater}
use Rattle.tree_groups.specs.Writes.{fresh_call, IsFresh, ActsOften, NoAction, OneAction, is_write_refused_as, Keeps, WrittenAt, MakesWrite, KeepsMapsAt, StopsWriting, IsInside, OpenGroupLaw, RefusedGroupLaw, SealedGroupLaw, GroupBoundsLaw}

-- ---- the store's actions

pub often_then : {a b c : Store} → ActsOften a b → ActsOften b c → ActsOften a c
often_then NoAction rest = rest
often_then (OneAction one more) rest = OneAction one (often_then more rest)

pub often_once : (a b : Store) → ActsAtMostOnce a b → ActsOften a b
often_once a b (inl e) = subst (λ (s : Store). ActsOften a s) (sym e) NoAction
often_once a b (inr o) = OneAction o NoAction

-- a refused step refuses the write, and not for its turns
pub refused_so : (e : Error) (a b : Store) → is_action_refused_as e a b → is_write_refused_as e a b
refused_so error.NoMemory a b t = t
refused_so (error.Io fault) a b t = t
refused_so (error.CollectionNotFound name) a b t = absurd t
refused_so (error.Unsupported text) a b t = absurd t
refused_so (error.ReportableBug text) a b t = absurd t
refused_so (error.Corruption fault) a b t = absurd t
refused_so error.Closed a b t = absurd t

untold : (e : Error) (a b : Store) → is_action_refused_as e a b → TellsTurns e → ⊥
untold error.NoMemory a b t tells = tells
untold (error.Io fault) a b t tells = tells
untold (error.CollectionNotFound name) a b t tells = t
untold (error.Unsupported text) a b t tells = t
untold (error.ReportableBug text) a b t tells = t
untold (error.Corruption fault) a b t tells = t
untold error.Closed a b t tells = t

-- .. and one whose turns are used up
used_up : (e : Error) (a : Store) → TellsTurns e → is_write_refused_as e a a
used_up error.NoMemory a tells = absurd tells
used_up (error.Io fault) a tells = absurd tells
used_up (error.CollectionNotFound name) a tells = (tells, refl)
used_up (error.Unsupported text) a tells = (tells, refl)
used_up (error.ReportableBug text) a tells = (tells, refl)
used_up (error.Corruption fault) a tells = (tells, refl)
used_up error.Closed a tells = (tells, refl)

-- ---- the pages

-- a page is there where its node is
pub page_gone : (s : State) (p : ℕ) → nodes_of s p ≡ None → s.pages p ≡ None
page_gone s p e = go (s.pages p) e
  where
    go : (o : Option Page) → option_map (λ (g : Page). g.node) o ≡ None → o ≡ None
    go None e = refl
    go (Some g) e = none_some (sym e)

-- a page that is there has a number that was given
pub number_given : (m : Snapshot) (w : Forest) → HasForest m w → (p : ℕ) (n : Node) → nodes_at m p ≡ Some n → m.pids p ≡ true
number_given m w is p n live = go (m.state.pages p) refl live
  where
    go : (o : Option Page) → m.state.pages p ≡ o → option_map (λ (g : Page). g.node) o ≡ Some n → m.pids p ≡ true
    go None at e = none_some e
    go (Some g) at e = is.pids p g at

pub keeps_first : (m : Snapshot) (w : Forest) → HasForest m w → Keeps m w m w
keeps_first m w is = record {
  is = is;
  sized = λ s. s;
  known = λ f k. k;
  loses = λ x p i. inl i;
  last = record { pids = λ p e. e; merges = λ p d live on. inl live; gone = λ p e none. none };
}

-- one more action, of a call whose own pages are no other's
module _ (m n o : Snapshot) (w u v : Forest) (was : HasForest m w) (k : Keeps m w n u) {mine own : List ℕ} (a : KeepsForest mine own n u o v) where
  stays_gone : (p : ℕ) → m.pids p ≡ true → nodes_at n p ≡ None → nodes_at o p ≡ None
  stays_gone p given none = ap (option_map (λ (g : Page). g.node)) (a.goes.gone p (k.last.pids p given) (page_gone n.state p none))

  keeps_more : ((f : InFlight) → IsKnown m f → (q : ℕ) → In q mine → In q (owned f.stage) → ⊥) → Keeps m w o v
  keeps_more off = record {
    is = a.is;
    sized = λ s. a.sized (k.sized s);
    known = λ f y. known_kept k.is a f (k.known f y) (off f y);
    loses = λ x p i. let here = was.formed.page x p (was.formed.homed x p i) in go x p (number_given m w was p here.0 here.1.live) (k.loses x p i);
    last = record {
      pids = λ p e. a.goes.pids p (k.last.pids p e);
      merges = λ p d live on. elim (k.last.merges p d live on) [
        | inl same ↦ a.goes.keeps.capped p d same on
        | inr none ↦ inr (stays_gone p (number_given m w was p d live) none)
      ];
      gone = λ p given none. stays_gone p given (k.last.gone p given none);
    };
  }
    where
      go : (x : Place) (p : ℕ) → m.pids p ≡ true → In p (u.chain x) ⊎ (((d : Node) × (nodes_at n p ≡ Some d) × (d.merging ≡ true)) ⊎ (nodes_at n p ≡ None))
          → In p (v.chain x) ⊎ (((d : Node) × (nodes_at o p ≡ Some d) × (d.merging ≡ true)) ⊎ (nodes_at o p ≡ None))
      go x p given (inl i) =
          let here = k.is.formed.page x p (k.is.formed.homed x p i) in
          let s = a.goes.keeps.stood x p here.0 (λ e. none_some e) i here.1.live in elim s.3 [
            | inl there ↦ inl there
            | inr on ↦ inr (inl (s.0, s.1, on))
          ]
      go x p given (inr (inl (d, live, on))) = elim (a.goes.keeps.capped p d live on) [
        | inl same ↦ inr (inl (d, same, on))
        | inr none ↦ inr (inr none)
      ]
      go x p given (inr (inr none)) = inr (inr (stays_gone p given none))

-- ---- the contents

-- without an operator the answer of a call that needs none is the same by whatever operator
plain_answer : (c : Call) → needs_operator c ≡ false → (operator : Option Merge) (map : Map) → (answer_of None c map).map ≡ (answer_of operator c map).map
plain_answer (call.Get k) plain operator map = refl
plain_answer (call.Insert k v) plain operator map = refl
plain_answer (call.Remove k) plain operator map = refl
plain_answer (call.CompareAndSwap k old new) plain operator map = refl
plain_answer (call.Merge k bytes) plain operator map = cc
plain_answer (call.Scan lo hi back) plain operator map = refl

-- ---- how far a write has come

-- at a moment: no tree's contents changed so far, the call knows what it needs, and none of its pages is another call's own
pub record IsOnWay (j : Job) (m : Snapshot) (w : Forest) (n : Snapshot) (f : InFlight) : Type 0 where
  pub after : Forest
  pub keeps : Keeps m w n after
  pub knows : Knows n after (course j Own) f.stage
  pub same : (t : Tree) → contents (nodes_at n) after t ≡ contents (nodes_at m) w t
  pub apart : (h : InFlight) → IsKnown m h → AreApart f h

-- of a clean path so many pages were passed as the call took turns
pub record HasPassed (j : Job) (s : Store) (f : InFlight) (path : List ℕ) : Type 0 where
  pub rest : List ℕ
  pub count : length path ≡ f.turns + length rest
  pub ahead : IsOnPath (now s) (course j Own) f.stage rest

-- from the store before the write to the store now
pub record OnWay (j : Job) (old new : Store) (f : InFlight) : Type 0 where
  pub course_is : course_of f ≡ course j Own
  pub way : IsOnItsWay f.stage
  pub acts : ActsOften old new
  -- the rest of its steps makes them all
  pub steps : (numbers : Tree → Option ℕ) (given : ℕ → Bool) (w : Forest) → HasForest (snapshot_of old numbers given) w → numbers j.tree.name ≡ Some j.tree.number
      → (last : Store) → WriteSteps new f last → WriteSteps old (fresh_call j) last
  -- .. also if one is refused
  pub stops : (numbers : Tree → Option ℕ) (given : ℕ → Bool) (w : Forest) → HasForest (snapshot_of old numbers given) w → numbers j.tree.name ≡ Some j.tree.number
      → (last : Store) (e : Error) → RefusedSteps new f last e → RefusedSteps old (fresh_call j) last e
  pub passes : (path : List ℕ) → IsClean (now old) j.tree.name (Included (key_of j.call)) path → HasPassed j new f path
  pub told : (numbers : Tree → Option ℕ) (given : ℕ → Bool) (w : Forest) → HasForest (snapshot_of old numbers given) w → numbers j.tree.name ≡ Some j.tree.number
      → IsOnWay j (snapshot_of old numbers given) w (snapshot_of new numbers given) f

pub on_way_first : (s : Store) (f : InFlight) → IsFresh f → IsOnKey f.job.call → OnWay f.job s s f
on_way_first s f fresh key = record {
  course_is = ap course_of fresh;
  way = subst IsOnItsWay (sym root) tt;
  acts = NoAction;
  steps = λ numbers given w is named last rest. subst (λ (g : InFlight). WriteSteps s g last) fresh rest;
  stops = λ numbers given w is named last e rest. subst (λ (g : InFlight). RefusedSteps s g last e) fresh rest;
  passes = λ path clean. record {
    rest = path;
    count = none_passed f.turns (length path) (ap (λ (g : InFlight). g.turns) fresh);
    ahead = subst (λ (z : Stage). IsOnPath (now s) (course f.job Own) z path) (sym root) (subst (λ b. IsClean (now s) f.job.tree.name b path) (sym ((aims f.job.tree f.job.call).key key)) clean);
  };
  told = λ numbers given w is named. record {
    after = w;
    keeps = keeps_first (snapshot_of s numbers given) w is;
    knows = subst (λ (z : Stage). Knows (snapshot_of s numbers given) w (course f.job Own) z) (sym root) (tt, tt, aims f.job.tree f.job.call);
    same = λ t. refl;
    apart = λ h k. record { off = λ q i. absurd (subst (λ (z : Stage). In q (owned z)) root i) };
  };
}
  where
    root : f.stage ≡ stage.Root
    root = ap (λ (g : InFlight). g.stage) fresh

    none_passed : (t n : ℕ) → t ≡ 0 → n ≡ t + n
    none_passed t n e = omega arith

-- ---- one step more, at a moment

module _ (j : Job) (old a b : Store) (f : InFlight) (numbers : Tree → Option ℕ) (given : ℕ → Bool) (w : Forest) (is : HasForest (snapshot_of old numbers given) w) (named : numbers j.tree.name ≡ Some j.tree.number)
    (p : IsOnWay j (snapshot_of old numbers given) w (snapshot_of a numbers given) f) where
  abbrev at_first : Snapshot
  at_first = snapshot_of old numbers given

  abbrev at_last : Snapshot
  at_last = snapshot_of a numbers given

  abbrev at_next : Snapshot
  at_next = snapshot_of b numbers given

  keeps_step : {mine own : List ℕ} (v : Forest) → ((h : InFlight) → IsKnown at_first h → (q : ℕ) → In q mine → In q (owned h.stage) → ⊥) → KeepsForest mine own at_last p.after at_next v → Keeps at_first w at_next v
  keeps_step v off r = keeps_more at_first at_last at_next w p.after v is p.keeps r off

  -- the call goes on
  pub moved_at : (g : InFlight) → StageActionBy (Only None) (course j Own) a f.stage (sequel.Go g.stage) b → IsOnWay j at_first w at_next g
  moved_at g step =
      let r = step.is numbers given p.after p.keeps.is named p.knows in record {
        after = r.0;
        keeps = keeps_step r.0 (λ h y. (p.apart h y).off) r.1;
        knows = r.2.0;
        same = λ t. r.2.1.same t ∙ p.same t;
        apart = λ h y. record { off = λ q i l. not_own p.keeps.is r.1 h (p.keeps.known h y) (p.apart h y).off q l i };
      }

  -- it is decided
  pub decided_at : needs_operator j.call ≡ false → (reply : Reply) → StageActionBy (Only None) (course j Own) a f.stage (sequel.Decided reply) b → WrittenAt j at_first w at_next
  decided_at plain reply step =
      let r = step.is numbers given p.after p.keeps.is named p.knows in
      let d = r.2 None refl in record {
        after = r.0;
        keeps = keeps_step r.0 (λ h y. (p.apart h y).off) r.1;
        here = λ operator. d.here ∙ ap (λ z. (answer_of None j.call z).map) (p.same j.tree.name) ∙ plain_answer j.call plain operator (contents (nodes_at at_first) w j.tree.name);
        others = λ t off. d.others t off ∙ p.same t;
      }

  -- it is refused
  pub refused_at : (e : Error) → StageActionBy (Only None) (course j Own) a f.stage (sequel.Refused e) b → KeepsMapsAt at_first w at_next
  refused_at e step =
      let r = step.is numbers given p.after p.keeps.is named p.knows in record {
        after = r.0;
        keeps = keeps_step r.0 (λ h y. (p.apart h y).off) r.1;
        same = λ t. r.2.same t ∙ p.same t;
      }

-- ---- and from the store before the write

module _ (j : Job) (old a : Store) (f : InFlight) (k : OnWay j old a f) (b : Store) where
  -- one step more
  step_more : (n : Sequel) → f.turns < turns_limit → ActsAtMostOnce a b → StageActionBy (Only None) (course j Own) a f.stage n b → Follows (course_of f) a f.stage n b
      → (numbers : Tree → Option ℕ) (given : ℕ → Bool) (w : Forest) → HasForest (snapshot_of old numbers given) w → numbers j.tree.name ≡ Some j.tree.number → WriteStep a f n b
  step_more n room acts step follows numbers given w is named =
      let p = k.told numbers given w is named in
      one_step None (course j Own) a b f n numbers given p.after p.keeps.is named p.knows room acts step follows

  on_course : (n : Sequel) → StageActionBy (Only None) (course_of f) a f.stage n b → StageActionBy (Only None) (course j Own) a f.stage n b
  on_course n s = subst (λ (z : Course). StageActionBy (Only None) z a f.stage n b) k.course_is s

  -- the call goes on
  pub on_way_more : f.turns < turns_limit → IsOnKey j.call → (g : InFlight) → FlightStepBy (Only None) a f Moved b g → StepsOnPath (now a) f Moved (now b) g → FollowsOn a f Moved b g → OnWay j old b g
  on_way_more room key g x further follows = record {
    course_is = course_on;
    way = stays_on_way (course_of f) (subst (λ (z : Course). IsOnKey z.call) (sym k.course_is) key) a b f.stage g.stage follows.is;
    acts = often_then k.acts (often_once a b step.touches);
    steps = λ numbers given w is named last rest.
        k.steps numbers given w is named last
        (GoesOn (step_more (sequel.Go g.stage) room step.touches step follows.is numbers given w is named) (subst (λ (h : InFlight). WriteSteps b h last) (turned f g x.is.0 x.is.1 x.is.2) rest));
    stops = λ numbers given w is named last e rest.
        k.stops numbers given w is named last e
        (StopsLater (step_more (sequel.Go g.stage) room step.touches step follows.is numbers given w is named) (subst (λ (h : InFlight). RefusedSteps b h last e) (turned f g x.is.0 x.is.1 x.is.2) rest));
    passes = λ path clean.
        let p = k.passes path clean in
        let r = further.is p.rest (subst (λ (z : Course). IsOnPath (now a) z f.stage p.rest) (sym k.course_is) p.ahead) in record {
          rest = r.0;
          count = one_passed (length path) f.turns g.turns (length p.rest) (length r.0) p.count x.is.2 r.1;
          ahead = subst (λ (z : Course). IsOnPath (now b) z g.stage r.0) course_on r.2;
        };
    told = λ numbers given w is named. moved_at j old a b f numbers given w is named (k.told numbers given w is named) g step;
  }
    where
      step : StageActionBy (Only None) (course j Own) a f.stage (sequel.Go g.stage) b
      step = on_course (sequel.Go g.stage) x.is.3

      course_on : course_of g ≡ course j Own
      course_on = ap (λ (z : Job). course z g.aim) x.is.0 ∙ ap (course f.job) x.is.1 ∙ k.course_is

      one_passed : (all t u rest less : ℕ) → all ≡ t + rest → u ≡ t + 1 → rest ≡ suc less → all ≡ u + less
      one_passed all t u rest less p q r = omega arith

  -- it is decided
  pub on_way_decided : f.turns < turns_limit → needs_operator j.call ≡ false → (reply : Reply) (g : InFlight) → FlightStepBy (Only None) a f (Decided reply) b g → FollowsOn a f (Decided reply) b g → MakesWrite j old b
  on_way_decided room plain reply g x follows = record {
    acts = often_then k.acts (often_once a b step.touches);
    steps = λ numbers given w is named. k.steps numbers given w is named b (Ends (step_more (sequel.Decided reply) room step.touches step follows.is numbers given w is named));
    told = λ numbers given w is named. decided_at j old a b f numbers given w is named (k.told numbers given w is named) plain reply step;
  }
    where
      step : StageActionBy (Only None) (course j Own) a f.stage (sequel.Decided reply) b
      step = on_course (sequel.Decided reply) x.is

  -- it is refused
  pub on_way_refused : f.turns < turns_limit → (e : Error) (g : InFlight) → FlightStepBy (Only None) a f (Refused e) b g → FollowsOn a f (Refused e) b g → StopsWriting j old b e
  on_way_refused room e g x follows = record {
    last = a;
    acts = k.acts;
    refused = refused_so e a b step.touches;
    stops = λ numbers given w is named. inr (k.stops numbers given w is named b e (StopsAt room follows.is));
    turns = λ tells path clean. absurd (untold e a b step.touches tells);
    told = λ numbers given w is named. refused_at j old a b f numbers given w is named (k.told numbers given w is named) e step;
  }
    where
      step : StageActionBy (Only None) (course j Own) a f.stage (sequel.Refused e) b
      step = on_course (sequel.Refused e) x.is

pub limit_is : MAX_LOOPS ≡ turns_limit
limit_is = refl

-- its turns are used up
pub on_way_ends : (j : Job) (old a : Store) (f : InFlight) → OnWay j old a f → (e : Error) → TellsTurns e → turns_limit ≤ f.turns → StopsWriting j old a e
on_way_ends j old a f k e tells many = record {
  last = a;
  acts = k.acts;
  refused = used_up e a tells;
  stops = λ numbers given w is named. inr (k.stops numbers given w is named a e (RunsOut many tells));
  turns = λ tells path clean. let p = k.passes path clean in longer (length path) f.turns (length p.rest) p.count many;
  told = λ numbers given w is named. let p = k.told numbers given w is named in record { after = p.after; keeps = p.keeps; same = p.same };
}
  where
    longer : (all t rest : ℕ) → all ≡ t + rest → turns_limit ≤ t → turns_limit ≤ all
    longer all t rest p q = omega arith

-- ---- groups

often_inside : {a b : Store} → ActsOften a b → (now a).in_group ≡ true → IsInside a b
often_inside {a} NoAction inside = record { inside = inside; adds = extends_same a }
often_inside {a} (OneAction {b = m} one more) inside =
    let now_inside = one.no_group ∙ inside in
    let rest = often_inside more now_inside in
    let added : AddsAction one.action a m = record { base = ap (λ (s : Store). s.base) one.is; recent = ap (λ (s : Store). s.recent) one.is; actions = ap (λ (s : Store). s.actions) one.is } in record {
      inside = rest.inside;
      adds = extends_then (inside_group_law one.action a m added now_inside) rest.adds;
    }

-- a group that begins
begun_inside : (a b : Store) → b ≡ after_action GroupBegins a → IsInside a b
begun_inside a b begins =
    let inside = ap (λ (s : State). s.in_group) (adds_now (adds_is begins)) in record { inside = inside; adds = inside_group_law GroupBegins a b (adds_is begins) inside }

pub open_law : OpenGroupLaw
open_law a b c begins acts =
    let first = begun_inside a b begins in
    let rest = often_inside acts first.inside in record { inside = rest.inside; adds = extends_then first.adds rest.adds }

-- a refusal adds nothing
stays_inside : (a d : Store) → d ≡ a → (now a).in_group ≡ true → IsInside a d
stays_inside a d same inside = subst (λ (s : Store). IsInside a s) (sym same) (record { inside = inside; adds = extends_same a })

refused_inside : (e : Error) (a d : Store) → is_write_refused_as e a d → (now a).in_group ≡ true → IsInside a d
refused_inside error.NoMemory a d t inside = stays_inside a d t inside
refused_inside (error.Io fault) a d (inl t) inside = record {
  inside = ap (λ (s : Store). (now s).in_group) t ∙ inside;
  adds = extends_nothing a d (ap (λ (s : Store). s.base) t) (ap (λ (s : Store). s.recent) t) (ap (λ (s : Store). s.actions) t);
}
refused_inside (error.Io fault) a d (inr t) inside = stays_inside a d t.0 inside
refused_inside (error.CollectionNotFound name) a d t inside = stays_inside a d t.1 inside
refused_inside (error.Unsupported text) a d t inside = stays_inside a d t.1 inside
refused_inside (error.ReportableBug text) a d t inside = stays_inside a d t.1 inside
refused_inside (error.Corruption fault) a d t inside = stays_inside a d t.1 inside
refused_inside error.Closed a d t inside = stays_inside a d t.1 inside

pub refused_law : RefusedGroupLaw
refused_law a b c d e begins acts refused =
    let first = open_law a b c begins acts in
    let rest = refused_inside e c d refused first.inside in record { inside = rest.inside; adds = extends_then first.adds rest.adds }

pub sealed_law : SealedGroupLaw
sealed_law a b c d begins acts seals well = extends_then (open_law a b c begins acts).adds (decides_law GroupEnds c d (adds_is seals) (ap (λ (s : State). s.in_group) (adds_now (adds_is seals))) well)

-- what calls in flight know does not say whether a group is open
abbrev marked : Snapshot → Bool → Snapshot
marked m inside = record m { state = record (m.state) { in_group = inside } }

module _ (m : Snapshot) (w : Forest) (is : HasForest m w) (inside : Bool) where
  marked_acts : KeepsForest [] [] m w (marked m inside) w
  marked_acts =
      let g = grouped inside m w is in
      let r = rests [] [] m w is (λ q i. i) in
      record { is = g.is; goes = g.goes; fresh = r.fresh; sized = r.sized; grows = r.grows }

  marked_stops : KeepsMapsAt m w (marked m inside)
  marked_stops = record { after = w; keeps = keeps_more m m (marked m inside) w w w is (keeps_first m w is) marked_acts (λ f k q i. absurd i); same = λ t. refl }

module _ (act : Action) (inside : Bool) (marks : (s : State) → after act s ≡ record s { in_group = inside }) (a b : Store) (e : b ≡ after_action act a) where
  marked_so : (numbers : Tree → Option ℕ) (given : ℕ → Bool) → snapshot_of b numbers given ≡ marked (snapshot_of a numbers given) inside
  marked_so numbers given =
      ap (λ (s : Store). snapshot_of s numbers given) e
      ∙ ap (λ (s : State). record (snapshot_of a numbers given) { state = s }) (adds_now (adds_acted act a) ∙ marks (now a))

  bounds_keep : (numbers : Tree → Option ℕ) (given : ℕ → Bool) (w : Forest) → HasForest (snapshot_of a numbers given) w → KeepsMapsAt (snapshot_of a numbers given) w (snapshot_of b numbers given)
  bounds_keep numbers given w is = subst (λ (m : Snapshot). KeepsMapsAt (snapshot_of a numbers given) w m) (sym (marked_so numbers given)) (marked_stops (snapshot_of a numbers given) w is inside)

pub bounds_law : GroupBoundsLaw
bounds_law a b (inl e) = bounds_keep GroupBegins true (λ s. refl) a b e
bounds_law a b (inr e) = bounds_keep GroupEnds false (λ s. refl) a b e
