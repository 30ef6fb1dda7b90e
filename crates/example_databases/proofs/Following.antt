-- What an index by endings has, what it has after events, and how it begins anew.
use Rattle.std.proofs.Common.{◌≡◌, ◌≢◌, ◌≤◌, ◌+◌, ◌||◌, ℕ, not, nat_eq, nat_le, min, Bool, true, false, cond, drop, length, List, [], ◌∷◌, ◌++◌, Option, Some, None, option_map, length-append, length-drop, le_of_eq, ◌<◌, sym, refl, ap, ◌∙◌, subst, append_assoc, arith}
use Rattle.std.proofs.Math.Bool.{or-false}
use Rattle.std.proofs.lemmas.Bool.{eq-eqb, eqb-true}
use Rattle.std.specs.FinMap.Entries.{find}
use Rattle.std.specs.List.{starts_with, AllByRecursion}
use Rattle.std.specs.Option.{option_to_list}
use Rattle.sled_nodes.proofs.Basics.{none_some, first_false, or_true}
use Rattle.sled_nodes.specs.Order.{Key, key_cmp}
use Rattle.sled_store.specs.theory.Facts.{put_here, put_elsewhere, put_name_here}
use Rattle.sled_store.specs.Store.{Store}
use Rattle.tree_reads.specs.Prefixes.{IsBytes}
use Rattle.tree_reads.specs.Ranges.{Coming}
use Rattle.sled.specs.Reads.{ReadsMap, BeginsWith}
use Rattle.sled.specs.Values.{DbValue}
use Rattle.sled_store.specs.Update.{put_at}
use Rattle.sled_model.specs.Backlog.{Backlog, no_backlog, comes, next_of, after_next, queue_limit}
use Rattle.sled_model.specs.Maps.{Map, Merge}
use Rattle.sled_model.specs.Queues.{backlog_in, waiting_in, without_next}
use Rattle.sled_model.specs.Answer.{key_of, decision_of, map_after, event_of}
use Rattle.sled_model.specs.Refusal.{IsClosed, IsDropped, foreign_test, is_number, must_refuse_of}
use Rattle.sled_model.specs.State.{State, NamedTree, Queue, matches, queues_after}
use Rattle.sled_model.specs.Whole.{TakesNext, Watches, DecidesPoint}
use Rattle.sled_model.specs.Ids.{greatest_of_all}
use Rattle.sled_model.specs.declared.call.Call.{Call}
use Rattle.sled_model.specs.declared.decision.Effect.{Effect}
use Rattle.sled_model.specs.declared.decision.Effect.TheVariants.{Nothing, Set}
use Rattle.sled_model.specs.declared.decision.Effect.TheVariants as effect
use Rattle.sled_model.specs.declared.reply.Reply.{Reply}
use Rattle.sled_model.specs.declared.event.Event.{Event}
use Rattle.sled_model.specs.declared.event.Event.TheVariants.{Insert, Remove}
use Rattle.sled_model.specs.declared.event.Next.{Next}
use Rattle.sled_model.specs.declared.event.Next.TheVariants as next
use Rattle.sled_model.specs.declared.tree.Tree.{Tree}
use Rattle.sled_model.proofs.Tests.{passed}
use Rattle.sled_queues.specs.Copies.{IsCopy, after_event, after_events, came_to, events_told, TellsEvents}
use Rattle.sled_queues.specs.Events.{Turn, after_turns, taken_by, Stays}
use Rattle.sled_queues.specs.Turns.{turns_of_event}
use Rattle.sled_queues.specs.Trees.{IsTreeAfter}
use Rattle.sled_queues.proofs.Copied.{copy_law, follows_law, after_both}
use Rattle.typed_map.specs.Typed.{still_given}
use Rattle.typed_map.proofs.Listing.{given_open}
use Rattle.example_parts.proofs.Maps.{second_none}
use Rattle.example_databases.proofs.Missing.{GivenBy, given_by, comes_fits, stands_after, some_missed, none_missed}
use Rattle.example_databases.proofs.Turned.{copies_prefix}
use Rattle.example_databases.specs.declared.endings.Progress.{Progress}
use Rattle.example_databases.specs.declared.endings.Progress.TheVariants.{UpToDate, Partly, Lost}
use Rattle.example_databases.specs.Endings.{HasSame, EndingsValue, to_come, has_missed, IsIndex, IsUpToDate, BeginsIndex, TakesEvents, takes_as, TakesOldest, CatchesUp, caught_as, CatchesUpBy, BeginsAnew, StillFollowsLaw, KeepsFollowing, FindsInTree}

-- ---- events

same_event : (e : Event) (a b : Map) → HasSame a b → HasSame (after_event e a) (after_event e b)
same_event e a b h = record { has = (copy_law [] (e ∷ []) a b (record { has = h.has })).has }

pub same_events : (es : List Event) (a b : Map) → HasSame a b → HasSame (after_events es a) (after_events es b)
same_events [] a b h = h
same_events (e ∷ es) a b h = same_events es (after_event e a) (after_event e b) (same_event e a b h)

pub same_copy : (prefix : Key) (a b m : Map) → HasSame a b → IsCopy prefix b m → IsCopy prefix a m
same_copy prefix a b m h c = record { has = λ q. h.has q ∙ c.has q }

-- ---- what an index has after it took some events

module _ (old : State) (i : EndingsValue) (events : List Event) (new : State) (j : EndingsValue) (t : TakesEvents old i events new j) where
  pub same_subscriber : j.subscriber ≡ i.subscriber
  same_subscriber = ap (λ (k : EndingsValue). k.subscriber) t.index

  module _ (h : HasSame j.entries (after_events events i.entries)) where
    abbrev still : IsIndex old i → IsIndex new j
    still f =
        let w = t.watches f.queue f.watches in
        record {
          named = f.named;
          there = ap (λ (s : State). s.trees j.tree.name) t.same ∙ ap (λ (k : EndingsValue). old.trees k.tree.name) t.index ∙ f.there;
          queue = record f.queue { backlog = w.0 };
          watches = ap new.queues same_subscriber ∙ w.1;
          of_tree = f.of_tree;
          under = f.under ∙ sym (ap (λ (k : EndingsValue). k.prefix) t.index);
          is = λ none. subst (λ p. IsCopy p (after_events (to_come j new) j.entries) f.named.map) (sym (ap (λ (k : EndingsValue). k.prefix) t.index))
              (same_copy i.prefix _ _ _
              (same_events (to_come j new) j.entries (after_events events i.entries) h)
              (subst (λ m. IsCopy i.prefix m f.named.map) (ap (λ es. after_events es i.entries) t.in_order ∙ after_both events (to_come j new) i.entries) (f.is (sym t.missed ∙ none))));
        }

    abbrev pub catches : CatchesUp old i new j
    catches = record { events = events; takes = t; changes = h; follows = still }

-- ---- taking one event after the other

module _ (old : State) (i : EndingsValue) (mid : State) (j : EndingsValue) (new : State) (k : EndingsValue) (xs ys : List Event) where
  pub takes_both : TakesEvents old i xs mid j → TakesEvents mid j ys new k → TakesEvents old i (xs ++ ys) new k
  takes_both t u = let same = same_subscriber old i xs mid j t in record {
    in_order = t.in_order ∙ ap (λ es. xs ++ es) u.in_order ∙ sym (append_assoc xs ys (to_come k new));
    missed = u.missed ∙ t.missed;
    index = u.index ∙ ap (λ (m : EndingsValue). record m { late = k.late; is_lost = k.is_lost; entries = k.entries }) t.index;
    watches = λ q e.
        let v = t.watches q e in
        let w = u.watches (record q { backlog = v.0 }) (ap mid.queues same ∙ v.1) in
        (w.0, ap new.queues (sym same) ∙ w.1);
    others = λ n off. u.others n (λ e. off (e ∙ same)) ∙ t.others n off;
    same = u.same ∙ ap (λ (s : State). record s { queues = new.queues }) t.same;
  }

-- nothing was taken
pub takes_nothing : (s : State) (i : EndingsValue) → TakesEvents s i [] s i
takes_nothing s i = record { in_order = refl; missed = refl; index = refl; watches = λ q e. (q.backlog, e); others = λ n off. refl; same = refl }

abbrev pub catches_none : (s : State) (i : EndingsValue) → CatchesUp s i s i
catches_none s i = catches s i [] s i (takes_nothing s i) (record { has = λ q. refl })

abbrev pub catches_both : (old : State) (i : EndingsValue) (mid : State) (j : EndingsValue) (new : State) (k : EndingsValue) → CatchesUp old i mid j → CatchesUp mid j new k → CatchesUp old i new k
catches_both old i mid j new k c d = catches old i (c.events ++ d.events) new k
    (takes_both old i mid j new k c.events d.events c.takes d.takes)
    (record {
      has = λ q. d.changes.has q
          ∙ (same_events d.events j.entries (after_events c.events i.entries) c.changes).has q
          ∙ ap (find key_cmp q) (sym (after_both c.events d.events i.entries));
    })

-- ---- what is next

-- a late event
module _ (s : State) (t : Tree) (p : Key) (n : ℕ) (l o : Option Event) (b : Bool) (es : Map) (i : EndingsValue) (is : record { tree = t; prefix = p; subscriber = n; late = l; is_lost = b; entries = es } ≡ i) (none : o ≡ None) where
  pub takes_late : (e : Event) → Some e ≡ l → TakesOldest s i (Some (next.Event e)) s (record { tree = t; prefix = p; subscriber = n; late = o; is_lost = b; entries = es })
  takes_late e at = subst (λ i. TakesOldest s i (Some (next.Event e)) s (record { tree = t; prefix = p; subscriber = n; late = o; is_lost = b; entries = es })) is (record {
    takes = record {
      in_order = ap (λ o. option_to_list o ++ waiting_in (s.queues n)) (sym at) ∙ ap (λ o. e ∷ (option_to_list o ++ waiting_in (s.queues n))) (sym none);
      missed = refl;
      index = refl;
      watches = λ q w. (q.backlog, w);
      others = λ n off. refl;
      same = refl;
    };
    same = ap (λ o. record { tree = t; prefix = p; subscriber = n; late = o; is_lost = b; entries = es }) none;
  })

-- what is left of a queue then
left_in : (q : Option Queue) → backlog_in (option_map without_next q) ≡ after_next (backlog_in q)
left_in None = refl
left_in (Some q) = refl

-- one that waits, or that some were missed
module _ (old new : State) (t : Tree) (p : Key) (n : ℕ) (l o : Option Event) (b : Bool) (es : Map) (i : EndingsValue) (is : record { tree = t; prefix = p; subscriber = n; late = l; is_lost = b; entries = es } ≡ i) (none : o ≡ None) (late : None ≡ l) where
  abbrev before : EndingsValue
  before = record { tree = t; prefix = p; subscriber = n; late = l; is_lost = b; entries = es }

  abbrev after : EndingsValue
  after = record { tree = t; prefix = p; subscriber = n; late = o; is_lost = b; entries = es }

  module _ (given : Option Next) (d : TakesNext old n given new) where
    queue_left : new.queues n ≡ option_map without_next (old.queues n)
    queue_left = ap (λ (s : State). s.queues n) d.is ∙ put_here old.queues n (option_map without_next (old.queues n))

    abbrev had : Backlog
    had = backlog_in (old.queues n)

    left : backlog_in (new.queues n) ≡ after_next had
    left = ap backlog_in queue_left ∙ left_in (old.queues n)

    took : (events : List Event) (lost : Bool) → had.events ≡ events ++ waiting_in (new.queues n) → (lost || not (nat_eq (backlog_in (new.queues n)).missed 0)) ≡ (b || not (nat_eq had.missed 0)) → TakesEvents old before events new (record after { is_lost = lost })
    took events lost in_order missed = record {
      in_order = ap (λ o. option_to_list o ++ had.events) (sym late)
          ∙ in_order
          ∙ ap (λ o. events ++ (option_to_list o ++ waiting_in (new.queues n))) (sym none);
      missed = missed;
      index = refl;
      watches = λ q w. (after_next q.backlog, queue_left ∙ ap (option_map without_next) w);
      others = λ m off. ap (λ (s : State). s.queues m) d.is ∙ put_elsewhere old.queues n m (option_map without_next (old.queues n)) off;
      same = d.is ∙ ap (λ qs. record old { queues = qs }) (sym (ap (λ (s : State). s.queues) d.is));
    }

    -- where the count is 0, the events are one fewer, if there was one, and the count stays
    module _ (m : nat_eq had.missed 0 ≡ true) where
      events_left : waiting_in (new.queues n) ≡ drop 1 had.events
      events_left = ap (λ (z : Backlog). z.events) left ∙ ap (λ t. (cond t (record had { events = drop 1 had.events }) (record had { missed = 0 })).events) m

      count_left : nat_eq (backlog_in (new.queues n)).missed 0 ≡ true
      count_left = ap (λ (z : Backlog). nat_eq z.missed 0) left ∙ ap (λ t. nat_eq (cond t (record had { events = drop 1 had.events }) (record had { missed = 0 })).missed 0) m ∙ m

      stays_counted : (b || not (nat_eq (backlog_in (new.queues n)).missed 0)) ≡ (b || not (nat_eq had.missed 0))
      stays_counted = ap (λ z. b || not z) (count_left ∙ sym m)

    at_next : (x : Option Next) → GivenBy had x → takes_as old before x new after
    at_next None g = (
      took [] b (g.1 ∙ sym (ap (drop 1) g.1) ∙ sym (events_left g.0)) (stays_counted g.0),
      ap (λ o. option_to_list o ++ waiting_in (new.queues n)) none ∙ events_left g.0 ∙ ap (drop 1) g.1,
      ap (λ z. b || not z) (count_left g.0) ∙ or-false b,
    )
    at_next (Some (next.Event e)) g = took (e ∷ []) b (g.1 ∙ ap (λ l. e ∷ l) (sym (events_left g.0))) (stays_counted g.0)
    at_next (Some (next.Missed k)) g = took [] true
        (sym (ap (λ (z : Backlog). z.events) left ∙ ap (λ t. (cond t (record had { events = drop 1 had.events }) (record had { missed = 0 })).events) g))
        (sym (or_true b) ∙ ap (λ z. b || not z) (sym g))

    pub takes_waiting : TakesOldest old i given new after
    takes_waiting = subst (λ i. TakesOldest old i given new after) is (record {
      takes = subst (λ x. takes_as old before x new after) (sym d.gives) (at_next (next_of had) (given_by had));
      same = ap (λ o. record { tree = t; prefix = p; subscriber = n; late = o; is_lost = b; entries = es }) none;
    })

-- ---- one step: the first event changed the entries, or it is late, or there was none, or some were missed

-- none is left and none was missed
up_to_date : (s : State) (i : EndingsValue) → (to_come i s ≡ []) × (has_missed i s ≡ false) → IsIndex s i → IsUpToDate s i
up_to_date s i none f = record { named = f.named; there = f.there; is = subst (λ l. IsCopy i.prefix (after_events l i.entries) f.named.map) none.0 (f.is none.1) }

partly_off : {A : Type 0} → Partly ≡ UpToDate → A
partly_off e = cc

lost_off : {A : Type 0} → Lost ≡ UpToDate → A
lost_off e = cc

-- the index is lost already
pub stays_lost : (s : State) (i : EndingsValue) → i.is_lost ≡ true → CatchesUpBy 1 s i Lost s i
stays_lost s i lost = record { catches = catches_none s i; within = omega arith; done = lost; has = λ e. lost_off e }

module _ (old : State) (i : EndingsValue) (new : State) (j : EndingsValue) where
  pub takes_none : i.is_lost ≡ false → TakesOldest old i None new j → CatchesUpBy 1 old i UpToDate new j
  takes_none found o =
      let c : CatchesUp old i new j = catches old i [] new j o.takes.0 (record { has = λ q. ap (λ (k : EndingsValue). find key_cmp q k.entries) o.same }) in
      let done : (to_come j new ≡ []) × (has_missed j new ≡ false) = (o.takes.1, o.takes.2 ∙ ap (λ (k : EndingsValue). k.is_lost) o.same ∙ found) in
      record { catches = c; within = omega arith; done = done; has = λ e f. up_to_date new j done (c.follows f) }

  -- some were missed
  pub takes_missed : (x : Next) (n : ℕ) → x ≡ next.Missed n → TakesOldest old i (Some x) new j → (k : EndingsValue) → k ≡ record j { is_lost = true } → CatchesUpBy 1 old i Lost new k
  takes_missed x n at o k is = subst (λ z. CatchesUpBy 1 old i Lost new z) (sym is) (record {
    catches = catches old i [] new (record j { is_lost = true }) (subst (λ x. takes_as old i (Some x) new j) at o.takes) (record { has = λ q. ap (λ (k : EndingsValue). find key_cmp q k.entries) o.same });
    within = omega arith;
    done = refl;
    has = λ e. lost_off e;
  })

  -- an event changed the entries, or it is late
  module _ (x : Next) (e : Event) (at : x ≡ next.Event e) (o : TakesOldest old i (Some x) new j) (k : EndingsValue) where
    taken : TakesEvents old i (e ∷ []) new j
    taken = subst (λ x. takes_as old i (Some x) new j) at o.takes

    pub takes_one : HasSame k.entries (after_event e j.entries) → k ≡ record j { entries = k.entries } → CatchesUpBy 1 old i Partly new k
    takes_one h is = record {
      catches = catches old i (e ∷ []) new k (subst (λ z. TakesEvents old i (e ∷ []) new z) (sym is) changed)
          (record { has = λ q. h.has q ∙ ap (λ (z : EndingsValue). find key_cmp q (after_event e z.entries)) o.same });
      within = omega arith;
      done = refl;
      has = λ e. partly_off e;
    }
      where
        changed : TakesEvents old i (e ∷ []) new (record j { entries = k.entries })
        changed = record {
          in_order = taken.in_order;
          missed = taken.missed;
          index = ap (λ (z : EndingsValue). record z { entries = k.entries }) taken.index;
          watches = taken.watches;
          others = taken.others;
          same = taken.same;
        }

    pub takes_late_one : k ≡ record j { late = Some e } → CatchesUp old i new k
    takes_late_one is = subst (λ z. CatchesUp old i new z) (sym is) (catches old i [] new (record j { late = Some e }) late
        (record { has = λ q. ap (λ (z : EndingsValue). find key_cmp q z.entries) o.same }))
      where
        late : TakesEvents old i [] new (record j { late = Some e })
        late = record {
          in_order = taken.in_order ∙ ap (λ (z : EndingsValue). e ∷ (option_to_list z.late ++ waiting_in (new.queues j.subscriber))) o.same;
          missed = taken.missed;
          index = ap (λ (z : EndingsValue). record z { late = Some e }) taken.index;
          watches = taken.watches;
          others = taken.others;
          same = taken.same;
        }

-- ---- and so on, up to a number of them

pub catches_more : (n : ℕ) (old : State) (i : EndingsValue) (mid : State) (j : EndingsValue) (new : State) (k : EndingsValue) (c : CatchesUp old i mid j) → length c.events ≡ n → (p : Progress) → p ≡ Partly → CatchesUpBy 1 mid j p new k
    → (b : CatchesUp old i new k) × (length b.events ≡ n + 1)
catches_more n old i mid j new k c len p is up = let d : CatchesUpBy 1 mid j Partly new k = subst (λ p. CatchesUpBy 1 mid j p new k) is up in (
  catches_both old i mid j new k c d.catches,
  length-append c.events d.catches.events ∙ ap (λ m. m + length d.catches.events) len ∙ ap (λ m. n + m) d.done,
)

-- the last of them, with none left or with some missed
caught_last : (at_most : ℕ) (es fs : List Event) (new : State) (k : EndingsValue) (p : Progress) → p ≢ Partly → caught_as 1 es new k p → caught_as at_most fs new k p
caught_last at_most es fs new k UpToDate off d = d
caught_last at_most es fs new k Partly off d = absurd (off refl)
caught_last at_most es fs new k Lost off d = d

pub current_partly : UpToDate ≢ Partly
current_partly e = cc

pub lost_partly : Lost ≢ Partly
lost_partly e = cc

pub catches_last : (n at_most : ℕ) (old : State) (i : EndingsValue) (mid : State) (j : EndingsValue) (new : State) (k : EndingsValue) (c : CatchesUp old i mid j) → length c.events ≡ n → n < at_most → (p q : Progress) → q ≡ p → p ≢ Partly → CatchesUpBy 1 mid j q new k
    → CatchesUpBy at_most old i p new k
catches_last n at_most old i mid j new k c len l p q is off up = let d : CatchesUpBy 1 mid j p new k = subst (λ p. CatchesUpBy 1 mid j p new k) is up in record {
  catches = catches_both old i mid j new k c d.catches;
  within = at_last (length (c.events ++ d.catches.events)) (length c.events) (length d.catches.events) (length-append c.events d.catches.events) len d.within;
  done = caught_last at_most d.catches.events (c.events ++ d.catches.events) new k p off d.done;
  has = λ e f. d.has e (c.follows f);
}
  where
    at_last : (a b m : ℕ) → a ≡ b + m → b ≡ n → m ≤ 1 → a ≤ at_most
    at_last a b m e f g = omega arith

pub catches_many : (at_most : ℕ) (old : State) (i : EndingsValue) (new : State) (k : EndingsValue) (c : CatchesUp old i new k) → length c.events ≡ at_most → CatchesUpBy at_most old i Partly new k
catches_many at_most old i new k c len = record { catches = c; within = le_of_eq len; done = len; has = λ e. partly_off e }

-- fewer are to come then
pub fewer_to_come : (at_most : ℕ) (old : State) (i : EndingsValue) (new : State) (j : EndingsValue) → 0 < at_most → (p : Progress) → p ≡ Partly → CatchesUpBy at_most old i p new j → length (to_come j new) < length (to_come i old)
fewer_to_come at_most old i new j some p is up = let c : CatchesUpBy at_most old i Partly new j = subst (λ p. CatchesUpBy at_most old i p new j) is up in fewer (length (to_come i old)) (length c.catches.events) (length (to_come j new)) (ap length c.catches.takes.in_order ∙ length-append c.catches.events (to_come j new)) c.done
  where
    fewer : (a b m : ℕ) → a ≡ b + m → b ≡ at_most → m < a
    fewer a b m e f = omega arith

-- ---- an index that begins

-- the entries of a scan are a copy of what the tree has under the prefix
module _ {P M : Type 0} (store : P → Store) (meant : M → Merge) (d : DbValue P M) (tree : Tree) (prefix : Key) (coming : Coming P) where
  pub copies_scan : (pairs es : Map) → BeginsWith store meant d tree prefix coming → pairs ≡ still_given coming → AllByRecursion (λ e. IsBytes e.0) pairs → HasSame es pairs → ReadsMap store meant d tree (IsCopy prefix es)
  copies_scan pairs es b is bytes h =
      let all : pairs ≡ coming.pairs = is ∙ given_open coming b.ended in
      let r = b.beginning (subst (λ m. AllByRecursion (λ e. IsBytes e.0) m) all bytes) in
      record { tested = r.tested; named = r.named; there = r.there; is = copies_prefix prefix es r.named.map (record { has = λ q. h.has q ∙ ap (find key_cmp q) (all ∙ r.is) }) }

-- a tree that passes the tests has its number
number_is : (s : State) (tree : Tree) (named : NamedTree) → must_refuse_of s (tree ∷ []) ≡ None → s.trees tree.name ≡ Some named → named.number ≡ tree.number
number_is s tree named tested there =
    eqb-true named.number tree.number (sym (ap (is_number tree.number) there)
    ∙ passed (is_number tree.number (s.trees tree.name)) (IsDropped tree.name)
    (second_none (foreign_test s.name (tree ∷ [])) _ (second_none (cond s.is_open None (Some IsClosed)) _ tested)))

pub begins_index : (old new : State) (tree : Tree) (prefix : Key) (n : ℕ) (es : Map) (named : NamedTree) → must_refuse_of old (tree ∷ []) ≡ None → old.trees tree.name ≡ Some named → IsCopy prefix es named.map → Watches old tree prefix n new
    → (copy : Tree) (beginning : Key) → copy ≡ tree → beginning ≡ prefix → BeginsIndex new tree prefix (record { tree = copy; prefix = beginning; subscriber = n; late = None; is_lost = false; entries = es })
begins_index old new tree prefix n es named tested there c w copy beginning same_tree same_prefix = record {
  of_tree = same_tree;
  under = same_prefix;
  none = none;
  follows = record {
    index = record {
      named = named;
      there = stays;
      queue = record { tree = tree.number; prefix = prefix; backlog = no_backlog };
      watches = queue;
      of_tree = sym (number_is old tree named tested there);
      under = sym same_prefix;
      is = λ all. subst (λ p. IsCopy p (after_events (waiting_in (new.queues n)) es) named.map) (sym same_prefix) (subst (λ l. IsCopy prefix (after_events l es) named.map) (sym none) c);
    };
    all = ap (λ q. not (nat_eq (backlog_in q).missed 0)) queue;
  };
  has = record { named = named; there = stays; is = subst (λ p. IsCopy p es named.map) (sym same_prefix) c };
}
  where
    queue : new.queues n ≡ Some (record { tree = tree.number; prefix = prefix; backlog = no_backlog })
    queue = ap (λ (s : State). s.queues n) w.is ∙ put_here old.queues n (Some (record { tree = tree.number; prefix = prefix; backlog = no_backlog }))

    none : waiting_in (new.queues n) ≡ []
    none = ap waiting_in queue

    stays : new.trees copy.name ≡ Some named
    stays = ap (λ (s : State). s.trees copy.name) w.is ∙ ap (λ (t : Tree). old.trees t.name) same_tree ∙ there

-- nothing of a database changes but its queues, in two calls neither
pub only_queues : {P M : Type 0} (a b c : DbValue P M) → b ≡ record a { queues = b.queues } → c ≡ record b { queues = c.queues } → c ≡ record a { queues = c.queues }
only_queues a b c e f = f ∙ ap (λ (d : DbValue _ _). record d { queues = c.queues }) e

-- ---- an index that begins anew

-- an index stays one where its queue and the trees do
index_kept : (old new : State) (j : EndingsValue) → new.trees ≡ old.trees → new.queues j.subscriber ≡ old.queues j.subscriber → IsIndex old j → IsIndex new j
index_kept old new j trees queue f = record {
  named = f.named;
  there = ap (λ (ts : Key → Option NamedTree). ts j.tree.name) trees ∙ f.there;
  queue = f.queue;
  watches = queue ∙ f.watches;
  of_tree = f.of_tree;
  under = f.under;
  is = λ none. subst (λ q. IsCopy j.prefix (after_events (option_to_list j.late ++ waiting_in q) j.entries) f.named.map) (sym queue) (f.is (ap (λ q. j.is_lost || not (nat_eq (backlog_in q).missed 0)) (sym queue) ∙ none));
}

kept_begun : (old new : State) (tree : Tree) (prefix : Key) (j : EndingsValue) → new.trees ≡ old.trees → new.queues j.subscriber ≡ old.queues j.subscriber → BeginsIndex old tree prefix j → BeginsIndex new tree prefix j
kept_begun old new tree prefix j trees queue b = record {
  of_tree = b.of_tree;
  under = b.under;
  none = ap (λ q. option_to_list j.late ++ waiting_in q) queue ∙ b.none;
  follows = record { index = index_kept old new j trees queue b.follows.index; all = ap (λ q. j.is_lost || not (nat_eq (backlog_in q).missed 0)) queue ∙ b.follows.all };
  has = record { named = b.has.named; there = ap (λ (ts : Key → Option NamedTree). ts j.tree.name) trees ∙ b.has.there; is = b.has.is };
}

none_late : (o : Option Event) (es : List Event) → option_to_list o ++ es ≡ [] → o ≡ None
none_late None es e = refl
none_late (Some x) es e = absurd cc

-- a subscriber has no queue any more
abbrev GivesUpQueue : State → ℕ → State → Type 0
GivesUpQueue old n new = new ≡ record old { queues = put_at old.queues n None }

module _ (old : State) (i : EndingsValue) (mid new : State) (j : EndingsValue) (b : BeginsIndex mid i.tree i.prefix j) (w : Watches old i.tree i.prefix j.subscriber mid) (g : GivesUpQueue mid i.subscriber new) where
  trees_kept : new.trees ≡ mid.trees
  trees_kept = ap (λ (s : State). s.trees) g

  -- a subscriber that had a queue is not the new one
  another : IsIndex old i → j.subscriber ≢ i.subscriber
  another f e = none_some (sym w.fresh ∙ ap old.queues e ∙ f.watches)

  queue_kept : (n : ℕ) → n ≢ i.subscriber → new.queues n ≡ mid.queues n
  queue_kept n off = ap (λ (s : State). s.queues n) g ∙ put_elsewhere mid.queues i.subscriber n None off

  pub begins_anew : BeginsAnew old i new j
  begins_anew = record {
    same = ap (λ t. record j { tree = t }) b.of_tree
        ∙ ap (λ p. record j { tree = i.tree; prefix = p }) b.under
        ∙ ap (λ o. record j { tree = i.tree; prefix = i.prefix; late = o }) (none_late j.late (waiting_in (mid.queues j.subscriber)) b.none)
        ∙ ap (λ z. record j { tree = i.tree; prefix = i.prefix; late = None; is_lost = z }) (first_false j.is_lost _ b.follows.all);
    begins = λ f. kept_begun mid new i.tree i.prefix j trees_kept (queue_kept j.subscriber (another f)) b;
    gone = ap (λ (s : State). s.queues i.subscriber) g ∙ put_here mid.queues i.subscriber None;
    others = λ n off other. queue_kept n off ∙ ap (λ (s : State). s.queues n) w.is ∙ put_elsewhere old.queues j.subscriber n _ other;
    trees = trees_kept ∙ ap (λ (s : State). s.trees) w.is;
  }

-- the same, where a method knows the index by its fields
pub begins_anew_as : (old : State) (i : EndingsValue) (mid new : State) (j k l : EndingsValue) (tree : Tree) (prefix : Key) → tree ≡ i.tree → prefix ≡ i.prefix → k ≡ j → l ≡ i → BeginsIndex mid tree prefix j → Watches old tree prefix j.subscriber mid → GivesUpQueue mid l.subscriber new → BeginsAnew old i new k
begins_anew_as old i mid new j k l tree prefix t p e f b w g = subst (λ z. BeginsAnew old i new z) (sym e) (begins_anew old i mid new j
    (subst (λ x. BeginsIndex mid x i.prefix j) t (subst (λ x. BeginsIndex mid tree x j) p b))
    (subst (λ x. Watches old x i.prefix j.subscriber mid) t (subst (λ x. Watches old tree x j.subscriber mid) p w))
    (subst (λ (z : EndingsValue). GivesUpQueue mid z.subscriber new) f g))

-- ---- what happens elsewhere

pub still_follows : StillFollowsLaw
still_follows old new i turns f qs trees stays takes =
    let t = trees f.named f.there in
    let r = stands_after turns i.subscriber old.queues f.queue f.watches stays in
    let copy = after_events (option_to_list i.late) i.entries in
    let queue : new.queues i.subscriber ≡ after_turns turns old.queues i.subscriber = ap (λ (queues : ℕ → Option Queue). queues i.subscriber) qs in
    record {
      index = record {
        named = t.tree;
        there = t.there;
        queue = r.queue;
        watches = queue ∙ r.there;
        of_tree = r.tree ∙ f.of_tree ∙ sym t.number;
        under = r.prefix ∙ f.under;
        is = λ none.
            let counted : (backlog_in (after_turns turns old.queues i.subscriber)).missed ≡ 0 = ap (λ q. (backlog_in q).missed) (sym queue) ∙ is_zero i.is_lost (backlog_in (new.queues i.subscriber)).missed none in
            let before : has_missed i old ≡ false = missed_none i.is_lost _ (first_false i.is_lost _ none) (ap (λ q. (backlog_in q).missed) f.watches ∙ some_missed turns i.subscriber old.queues f.queue f.watches stays takes counted) in
            let law = follows_law turns i.subscriber old.queues f.queue f.watches stays (subst TellsEvents (sym takes) tt) counted copy f.named.map
            (subst (λ p. IsCopy p (after_events f.queue.backlog.events copy) f.named.map) (sym f.under)
            (subst (λ m. IsCopy i.prefix m f.named.map) (ap (λ o. after_events (option_to_list i.late ++ waiting_in o) i.entries) f.watches ∙ after_both (option_to_list i.late) f.queue.backlog.events i.entries) (f.is before))) in record {
              has = λ q.
                  ap (λ o. find key_cmp q (after_events (option_to_list i.late ++ waiting_in o) i.entries)) queue
                  ∙ ap (find key_cmp q) (after_both (option_to_list i.late) (waiting_in (after_turns turns old.queues i.subscriber)) i.entries)
                  ∙ ap (λ l. find key_cmp q (after_events (waiting_in (after_turns turns old.queues i.subscriber)) (after_events (events_told l) copy))) (sym takes)
                  ∙ law.has q
                  ∙ ap (λ p. cond (starts_with nat_eq q p) (find key_cmp q (after_events (came_to f.queue.tree turns) f.named.map)) None) f.under
                  ∙ ap (λ n. cond (starts_with nat_eq q i.prefix) (find key_cmp q (after_events (came_to n turns) f.named.map)) None) f.of_tree
                  ∙ ap (λ m. cond (starts_with nat_eq q i.prefix) (find key_cmp q m) None) (sym t.map);
            };
      };
      all = λ q there fits.
          ap (λ o. i.is_lost || not (nat_eq (backlog_in o).missed 0)) queue
          ∙ ap (λ m. i.is_lost || not (nat_eq m 0)) (none_missed turns i.subscriber old.queues q there stays takes fits ∙ sym (ap (λ o. (backlog_in o).missed) there));
    }
  where
    is_zero : (b : Bool) (n : ℕ) → (b || not (nat_eq n 0)) ≡ false → n ≡ 0
    is_zero true n e = absurd cc
    is_zero false n e = go (nat_eq n 0) refl e
      where
        go : (t : Bool) → nat_eq n 0 ≡ t → not t ≡ false → n ≡ 0
        go true z e = eqb-true n 0 z
        go false z e = absurd cc

    missed_none : (b : Bool) (n : ℕ) → b ≡ false → n ≡ 0 → (b || not (nat_eq n 0)) ≡ false
    missed_none b n e z = ap (λ c. c || not (nat_eq n 0)) e ∙ ap (λ m. not (nat_eq m 0)) z

-- a call on the tree, which takes nothing
module _ (old new : State) (tree : Tree) (call : Call) (reply : Reply) (d : DecidesPoint old tree call reply new) where
  abbrev made : Effect
  made = (decision_of d.named.merge call (find key_cmp (key_of call) d.named.map)).effect

  abbrev turns : Effect → List Turn
  turns e = turns_of_event d.named.number (event_of e (key_of call))

  moved : (e : Effect) → queues_after d.named.number (event_of e (key_of call)) old.queues ≡ after_turns (turns e) old.queues
  moved Nothing = refl
  moved (Set v) = refl
  moved effect.Remove = refl

  came : (e : Effect) → map_after e (key_of call) d.named.map ≡ after_events (came_to d.named.number (turns e)) d.named.map
  came Nothing = refl
  came (Set v) = ap (λ b. after_events (cond b (Insert (key_of call) v ∷ []) [] ++ []) d.named.map) (sym (eq-eqb d.named.number d.named.number refl))
  came effect.Remove = ap (λ b. after_events (cond b (Remove (key_of call) ∷ []) [] ++ []) d.named.map) (sym (eq-eqb d.named.number d.named.number refl))

  stays : (n : ℕ) (e : Effect) → Stays n (turns e)
  stays n Nothing = tt
  stays n (Set v) = (refl, tt)
  stays n effect.Remove = (refl, tt)

  takes : (n : ℕ) (e : Effect) → taken_by n (turns e) old.queues ≡ []
  takes n Nothing = refl
  takes n (Set v) = refl
  takes n effect.Remove = refl

  some_is : {X : Type 0} {x y : X} → Some x ≡ Some y → x ≡ y
  some_is e = cc

  tree_after : IsTreeAfter tree.name d.named (turns made) new
  tree_after = record {
    tree = record (d.named) { map = map_after made (key_of call) d.named.map };
    there = ap (λ (s : State). s.trees tree.name) d.is ∙ put_name_here old.trees tree.name (Some (record (d.named) { map = map_after made (key_of call) d.named.map }));
    number = refl;
    map = came made;
  }

  pub decided_follows : (i : EndingsValue) → i.tree ≡ tree → IsIndex old i → IsIndex new i
  decided_follows i of f = (still_follows old new i (turns made) f
      (ap (λ (s : State). s.queues) d.is ∙ moved made)
      (λ t e. subst (λ (x : Tree). IsTreeAfter x.name t (turns made) new) (sym of) (subst (λ (n : NamedTree). IsTreeAfter tree.name n (turns made) new) (some_is (sym d.there ∙ ap (λ (x : Tree). old.trees x.name) (sym of) ∙ e)) tree_after))
      (stays i.subscriber made)
      (takes i.subscriber made)).index

  -- what an event makes of a backlog
  longer_by_one : (e : Event) (b : Backlog) → length (comes e b).events ≤ length b.events + 1
  longer_by_one e b = go (nat_le queue_limit (length b.events))
    where
      dropped : length (drop 1 b.events ++ e ∷ []) ≤ length b.events + 1
      dropped = omega (arith, length-append (drop 1 b.events) (e ∷ []), length-drop 1 b.events)

      added : length (b.events ++ e ∷ []) ≤ length b.events + 1
      added = le_of_eq (length-append b.events (e ∷ []))

      go : (t : Bool) → length (cond t (record { missed = min (b.missed + 1) greatest_of_all; events = drop 1 b.events ++ e ∷ [] }) (record b { events = b.events ++ e ∷ [] })).events ≤ length b.events + 1
      go true = dropped
      go false = added

  -- .. and of a queue
  abbrev after_event_in : Event → Option Queue → Option Queue
  after_event_in e q = option_map (λ (q : Queue). cond (matches d.named.number e q) (record q { backlog = comes e q.backlog }) q) q

  one_more : (e : Event) (q : Option Queue) → length (waiting_in (after_event_in e q)) ≤ length (waiting_in q) + 1
  one_more e None = omega arith
  one_more e (Some q) = go (matches d.named.number e q)
    where
      go : (b : Bool) → length (waiting_in (Some (cond b (record q { backlog = comes e q.backlog }) q))) ≤ length q.backlog.events + 1
      go true = longer_by_one e q.backlog
      go false = omega arith

  same_count : (e : Event) (q : Option Queue) → length (waiting_in q) + 1 ≤ queue_limit → (backlog_in (after_event_in e q)).missed ≡ (backlog_in q).missed
  same_count e None fits = refl
  same_count e (Some q) fits = go (matches d.named.number e q)
    where
      go : (b : Bool) → (backlog_in (Some (cond b (record q { backlog = comes e q.backlog }) q))).missed ≡ q.backlog.missed
      go true = (comes_fits e q.backlog 0 fits).0
      go false = refl

  at_most_one : (e : Effect) (n : ℕ) → length (waiting_in (queues_after d.named.number (event_of e (key_of call)) old.queues n)) ≤ length (waiting_in (old.queues n)) + 1
  at_most_one Nothing n = omega arith
  at_most_one (Set v) n = one_more (Insert (key_of call) v) (old.queues n)
  at_most_one effect.Remove n = one_more (Remove (key_of call)) (old.queues n)

  count_kept : (e : Effect) (n : ℕ) → length (waiting_in (old.queues n)) + 1 ≤ queue_limit → (backlog_in (queues_after d.named.number (event_of e (key_of call)) old.queues n)).missed ≡ (backlog_in (old.queues n)).missed
  count_kept Nothing n fits = refl
  count_kept (Set v) n fits = same_count (Insert (key_of call) v) (old.queues n) fits
  count_kept effect.Remove n fits = same_count (Remove (key_of call)) (old.queues n) fits

  pub decided_keeps : KeepsFollowing old tree 1 new
  decided_keeps = record {
    follows = decided_follows;
    within = λ i.
        longer (length (option_to_list i.late)) _ _ _ _
        (length-append (option_to_list i.late) (waiting_in (new.queues i.subscriber)))
        (length-append (option_to_list i.late) (waiting_in (old.queues i.subscriber)))
        (subst (λ (queues : ℕ → Option Queue). length (waiting_in (queues i.subscriber)) ≤ length (waiting_in (old.queues i.subscriber)) + 1) (sym (ap (λ (s : State). s.queues) d.is)) (at_most_one made i.subscriber));
    all = λ i fits.
        ap (λ (s : State). has_missed i s) d.is
        ∙ ap (λ m. i.is_lost || not (nat_eq m 0)) (count_kept made i.subscriber (fewer (length (option_to_list i.late)) (length (waiting_in (old.queues i.subscriber))) (length (to_come i old)) (length-append (option_to_list i.late) (waiting_in (old.queues i.subscriber))) fits));
  }
    where
      longer : (n a b c e : ℕ) → c ≡ n + a → e ≡ n + b → a ≤ b + 1 → c ≤ e + 1
      longer n a b c e f g h = omega arith

      fewer : (n a c : ℕ) → c ≡ n + a → c + 1 ≤ queue_limit → a + 1 ≤ queue_limit
      fewer n a c e f = omega arith

pub keeps_both : (old mid new : State) (tree : Tree) → KeepsFollowing old tree 1 mid → KeepsFollowing mid tree 1 new → KeepsFollowing old tree 2 new
keeps_both old mid new tree k l = record {
  follows = λ i of f. l.follows i of (k.follows i of f);
  within = λ i. let a = k.within i in let b = l.within i in omega arith;
  all = λ i fits. let a = k.within i in l.all i (omega arith) ∙ k.all i (omega arith);
}

-- ---- a use from the begin to the end

-- the subscriber is ended, and the tree stays
pub finds_then : (old new : State) (n : ℕ) (tree : Tree) (prefix ending : Key) (found : Map) → GivesUpQueue old n new → FindsInTree old tree prefix ending found → FindsInTree new tree prefix ending found
finds_then old new n tree prefix ending found g f = record { named = f.named; there = ap (λ (s : State). s.trees tree.name) g ∙ f.there; is = f.is }

pub follows_to_end : (a b c d : State) (tree : Tree) (prefix ending : Key) (i : EndingsValue) (found : Map) (n : ℕ) → BeginsIndex a tree prefix i → KeepsFollowing a tree 2 b
    → (IsIndex b i → FindsInTree c i.tree i.prefix ending found) → GivesUpQueue c n d → FindsInTree d tree prefix ending found
follows_to_end a b c d tree prefix ending i found n begun kept finds ends = finds_then c d n tree prefix ending found ends
    (subst (λ t. FindsInTree c t prefix ending found) begun.of_tree (subst (λ p. FindsInTree c i.tree p ending found) begun.under (finds (kept.follows i begun.of_tree begun.follows.index))))
