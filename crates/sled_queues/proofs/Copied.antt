-- Copies of a part of a map.
use Rattle.std.proofs.Common.{◌≡◌, ℕ, ◌+◌, Bool, true, false, cond, not, nat_eq, nat_le, ◌&&◌, min, List, [], ◌∷◌, ◌++◌, append_assoc, append-nil, length, drop, Option, Some, None, option_map, slice_get, sym, refl, ap, ◌∙◌, subst, arith}
use Rattle.std.specs.List.{starts_with}
use Rattle.std.specs.Option.{option_to_list}
use Rattle.std.proofs.lemmas.Bool.{eqb-true}
use Rattle.std.specs.Ordering.{eq_by_cmp}
use Rattle.std.specs.FinMap.Entries.{find, find-put, find-where_key}
use Rattle.sled_nodes.proofs.Basics.{true_false, not_cond, key_total, key_same, tied}
use Rattle.sled_nodes.specs.Order.{Key, key_cmp}
use Rattle.sled_model.specs.Maps.{Map}
use Rattle.sled_model.specs.Event.{key_of_event}
use Rattle.sled_model.specs.State.{Queue, matches}
use Rattle.sled_model.specs.Backlog.{Backlog, queue_limit, comes, next_of, after_next}
use Rattle.sled_model.specs.Queues.{backlog_in, waiting_in, without_next}
use Rattle.sled_model.specs.Ids.{greatest_of_all}
use Rattle.sled_model.specs.declared.decision.Effect.TheVariants as effect
use Rattle.sled_model.specs.declared.event.Event.{Event}
use Rattle.sled_model.specs.declared.event.Event.TheVariants.{Insert, Remove}
use Rattle.sled_model.specs.declared.event.Next.{Next}
use Rattle.sled_model.specs.declared.event.Next.TheVariants as told
use Rattle.sled_model.proofs.Shapes.{next_in}
use Rattle.sled_queues.specs.Events.{Turn, Comes, Watches, Takes, Ends, after_turn, after_turns, taken_at, taken_by, brought_at, brought, Stays}
use Rattle.sled_queues.specs.Copies.{after_event, after_events, ChangesLaw, is_under, events_under, IsCopy, CopyLaw, came_to, events_told, TellsEvents, FollowsLaw}
use Rattle.sled_queues.proofs.Hearing.{turned, eqb_flip, after_one, brought_all, turned_tree, turned_prefix}

pub changes_law : ChangesLaw
changes_law effect.Nothing key m = refl
changes_law (effect.Set v) key m = refl
changes_law effect.Remove key m = refl

-- what is found at a key after a change of the value at another, or the same. So much is known of the two: whether they are the same,
-- whether each is under the prefix, and that the same keys are both or neither
changed : (v : Option Key) (same here under : Bool) (in_copy in_map : Option Key) → (same ≡ true → here ≡ under) → in_copy ≡ cond here in_map None
    → cond under (cond same v in_copy) in_copy ≡ cond here (cond same v in_map) None
changed v true true true in_copy in_map e h = refl
changed v true true false in_copy in_map e h = true_false (e refl)
changed v true false true in_copy in_map e h = true_false (sym (e refl))
changed v true false false in_copy in_map e h = h
changed v false true true in_copy in_map e h = h
changed v false true false in_copy in_map e h = h
changed v false false true in_copy in_map e h = h
changed v false false false in_copy in_map e h = h

-- the value that an event leaves at its key
abbrev value_of : Event → Option Key
value_of (Insert key value) = Some value
value_of (Remove key) = None

found_after : (e : Event) (m : Map) (q : Key) → find key_cmp q (after_event e m) ≡ cond (eq_by_cmp key_cmp q (key_of_event e)) (value_of e) (find key_cmp q m)
found_after (Insert k v) m q = find-put key_cmp key_total q k v m
found_after (Remove k) m q =
    find-where_key key_cmp (λ x. not (eq_by_cmp key_cmp k x)) q (λ x e. ap (λ y. not (eq_by_cmp key_cmp k y)) (sym (key_same q x e))) m
    ∙ not_cond (eq_by_cmp key_cmp k q) (find key_cmp q m) None
    ∙ ap (λ b. cond b None (find key_cmp q m)) (flip k q)
  where
    flip : (a b : Key) → eq_by_cmp key_cmp a b ≡ eq_by_cmp key_cmp b a
    flip a b = go (eq_by_cmp key_cmp a b) refl (eq_by_cmp key_cmp b a) refl
      where
        go : (x : Bool) → eq_by_cmp key_cmp a b ≡ x → (y : Bool) → eq_by_cmp key_cmp b a ≡ y → x ≡ y
        go true e true f = refl
        go true e false f = sym e ∙ ap (λ z. eq_by_cmp key_cmp z b) (tied a b e) ∙ ap (λ z. eq_by_cmp key_cmp b z) (sym (tied a b e)) ∙ f
        go false e true f = sym e ∙ ap (λ z. eq_by_cmp key_cmp z b) (sym (tied b a f)) ∙ ap (λ z. eq_by_cmp key_cmp b z) (tied b a f) ∙ f
        go false e false f = refl

-- the copy after one event, which changes it where it is under the prefix
one_copied : (prefix : Key) (e : Event) (copy m : Map) → IsCopy prefix copy m → IsCopy prefix (cond (is_under prefix e) (after_event e copy) copy) (after_event e m)
one_copied prefix e copy m c = record {
  has = λ q.
      pushed (is_under prefix e) q
      ∙ ap (λ o. cond (is_under prefix e) o (find key_cmp q copy)) (found_after e copy q)
      ∙ changed (value_of e) (eq_by_cmp key_cmp q (key_of_event e)) (starts_with nat_eq q prefix) (is_under prefix e) (find key_cmp q copy) (find key_cmp q m)
      (λ s. ap (λ k. starts_with nat_eq k prefix) (tied q (key_of_event e) s)) (c.has q)
      ∙ ap (λ o. cond (starts_with nat_eq q prefix) o None) (sym (found_after e m q));
}
  where
    pushed : (b : Bool) (q : Key) → find key_cmp q (cond b (after_event e copy) copy) ≡ cond b (find key_cmp q (after_event e copy)) (find key_cmp q copy)
    pushed true q = refl
    pushed false q = refl

pub copy_law : CopyLaw
copy_law prefix [] copy m c = c
copy_law prefix (e ∷ es) copy m c = go (is_under prefix e) (copy_law prefix es (cond (is_under prefix e) (after_event e copy) copy) (after_event e m) (one_copied prefix e copy m c))
  where
    go : (b : Bool) → IsCopy prefix (after_events (events_under prefix es) (cond b (after_event e copy) copy)) (after_events es (after_event e m))
        → IsCopy prefix (after_events (cond b (e ∷ events_under prefix es) (events_under prefix es)) copy) (after_events es (after_event e m))
    go true h = h
    go false h = h

pub after_both : (xs ys : List Event) (m : Map) → after_events (xs ++ ys) m ≡ after_events ys (after_events xs m)
after_both [] ys m = refl
after_both (x ∷ xs) ys m = after_both xs ys (after_event x m)

-- what comes for a queue is what comes to its tree under its prefix
brought_under : (q : Queue) (ts : List Turn) → brought q ts ≡ events_under q.prefix (came_to q.tree ts)
brought_under q [] = refl
brought_under q (Watches m tree prefix ∷ ts) = brought_under q ts
brought_under q (Takes m ∷ ts) = brought_under q ts
brought_under q (Ends m ∷ ts) = brought_under q ts
brought_under q (Comes tree e ∷ ts) = go (nat_eq q.tree tree) (is_under q.prefix e) refl (brought_under q ts)
  where
    rest : List Event
    rest = events_under q.prefix (came_to q.tree ts)

    go : (b c : Bool) → is_under q.prefix e ≡ c → brought q ts ≡ rest → cond (b && c) (e ∷ []) [] ++ brought q ts ≡ events_under q.prefix (cond b (e ∷ []) [] ++ came_to q.tree ts)
    go true true h more = ap (λ l. e ∷ l) more ∙ sym (ap (λ d. cond d (e ∷ rest) rest) h)
    go true false h more = more ∙ sym (ap (λ d. cond d (e ∷ rest) rest) h)
    go false c h more = more

-- what is told of several turns, where it tells events alone
told_both : (xs ys : List Next) → events_told (xs ++ ys) ≡ events_told xs ++ events_told ys
told_both [] ys = refl
told_both (told.Event e ∷ xs) ys = ap (λ l. e ∷ l) (told_both xs ys)
told_both (told.Missed n ∷ xs) ys = told_both xs ys

first_told : (xs ys : List Next) → TellsEvents (xs ++ ys) → TellsEvents xs
first_told [] ys h = tt
first_told (told.Event e ∷ xs) ys h = first_told xs ys h
first_told (told.Missed n ∷ xs) ys h = absurd h

then_told : (xs ys : List Next) → TellsEvents (xs ++ ys) → TellsEvents ys
then_told [] ys h = h
then_told (told.Event e ∷ xs) ys h = then_told xs ys h
then_told (told.Missed n ∷ xs) ys h = absurd h

-- Where a backlog counts no missed event after a turn at which none was told, it counted none before, and the events that were told and
-- those that wait are those that waited and the one that came
record Passes (ns : List Next) (came : List Event) (a b : Backlog) : Type 0 where
  none : a.missed ≡ 0
  events : events_told ns ++ b.events ≡ a.events ++ came

come_passes : (e : Event) (a : Backlog) → (comes e a).missed ≡ 0 → Passes [] (e ∷ []) a (comes e a)
come_passes e a h = go (nat_le queue_limit (length a.events)) h
  where
    go : (b : Bool) → (cond b (record { missed = min (a.missed + 1) greatest_of_all; events = drop 1 a.events ++ e ∷ [] }) (record a { events = a.events ++ e ∷ [] })).missed ≡ 0
        → Passes [] (e ∷ []) a (cond b (record { missed = min (a.missed + 1) greatest_of_all; events = drop 1 a.events ++ e ∷ [] }) (record a { events = a.events ++ e ∷ [] }))
    go true h = absurd (omega (arith, h))
    go false h = record { none = h; events = refl }

next_passes : (a : Backlog) → TellsEvents (option_to_list (next_of a)) → Passes (option_to_list (next_of a)) [] a (after_next a)
next_passes a h = go (nat_eq a.missed 0) refl h
  where
    first : (xs : List Event) → events_told (option_to_list (option_map told.Event (slice_get xs 0))) ++ drop 1 xs ≡ xs ++ []
    first [] = refl
    first (x ∷ xs) = ap (λ l. x ∷ l) (sym (append-nil xs))

    go : (b : Bool) → nat_eq a.missed 0 ≡ b → TellsEvents (option_to_list (cond b (option_map told.Event (slice_get a.events 0)) (Some (told.Missed a.missed))))
        → Passes (option_to_list (cond b (option_map told.Event (slice_get a.events 0)) (Some (told.Missed a.missed)))) [] a (cond b (record a { events = drop 1 a.events }) (record a { missed = 0 }))
    go true e h = record { none = eqb-true a.missed 0 e; events = first a.events }
    go false e h = absurd h

stays_same : (a : Backlog) → a.missed ≡ 0 → Passes [] [] a a
stays_same a h = record { none = h; events = sym (append-nil a.events) }

turn_passes : (t : Turn) (n : ℕ) (queues : ℕ → Option Queue) (q : Queue) → queues n ≡ Some q → TellsEvents (taken_at n t queues) → (turned n t q).backlog.missed ≡ 0
    → Passes (taken_at n t queues) (brought_at q t) q.backlog (turned n t q).backlog
turn_passes (Comes tree e) n queues q h tells none = go (matches tree e q) none
  where
    go : (b : Bool) → (cond b (record q { backlog = comes e q.backlog }) q).backlog.missed ≡ 0 → Passes [] (cond b (e ∷ []) []) q.backlog (cond b (record q { backlog = comes e q.backlog }) q).backlog
    go true none = come_passes e q.backlog none
    go false none = stays_same q.backlog none
turn_passes (Takes m) n queues q h tells none = subst (λ l. Passes l [] q.backlog (cond (nat_eq n m) (without_next q) q).backlog) (sym same) (go (nat_eq n m) (subst TellsEvents same tells) none)
  where
    same : cond (nat_eq m n) (option_to_list (next_in (queues n))) [] ≡ cond (nat_eq n m) (option_to_list (next_of q.backlog)) []
    same = ap (λ b. cond b (option_to_list (next_in (queues n))) []) (eqb_flip m n) ∙ ap (λ o. cond (nat_eq n m) (option_to_list (next_in o)) []) h

    go : (b : Bool) → TellsEvents (cond b (option_to_list (next_of q.backlog)) []) → (cond b (without_next q) q).backlog.missed ≡ 0 → Passes (cond b (option_to_list (next_of q.backlog)) []) [] q.backlog (cond b (without_next q) q).backlog
    go true tells none = next_passes q.backlog tells
    go false tells none = stays_same q.backlog none
turn_passes (Watches m tree prefix) n queues q h tells none = stays_same q.backlog none
turn_passes (Ends m) n queues q h tells none = stays_same q.backlog none

turns_pass : (ts : List Turn) (n : ℕ) (queues : ℕ → Option Queue) (q : Queue) → queues n ≡ Some q → Stays n ts → TellsEvents (taken_by n ts queues) → (backlog_in (after_turns ts queues n)).missed ≡ 0
    → Passes (taken_by n ts queues) (brought q ts) q.backlog (backlog_in (after_turns ts queues n))
turns_pass [] n queues q h s tells none = subst (λ o. Passes [] [] q.backlog (backlog_in o)) (sym h) (stays_same q.backlog (sym (ap (λ o. (backlog_in o).missed) h) ∙ none))
turns_pass (t ∷ ts) n queues q h s tells none =
    let ns : List Next = taken_at n t queues in
    let ms : List Next = taken_by n ts (after_turn t queues) in
    let end : Backlog = backlog_in (after_turns ts (after_turn t queues) n) in
    let r : Queue = turned n t q in
    let rest = turns_pass ts n (after_turn t queues) r (after_one t n queues q s.0 h) s.1 (then_told ns ms tells) none in
    let one = turn_passes t n queues q h (first_told ns ms tells) rest.none in
    record {
      none = one.none;
      events =
          ap (λ l. l ++ end.events) (told_both ns ms)
          ∙ append_assoc (events_told ns) (events_told ms) end.events
          ∙ ap (λ l. events_told ns ++ l) (rest.events ∙ ap (λ l. r.backlog.events ++ l) (brought_all ts q r (turned_tree n t q) (turned_prefix n t q)))
          ∙ sym (append_assoc (events_told ns) r.backlog.events (brought q ts))
          ∙ ap (λ l. l ++ brought q ts) one.events
          ∙ append_assoc q.backlog.events (brought_at q t) (brought q ts);
    }

pub follows_law : FollowsLaw
follows_law turns n queues q h s tells none copy m c =
    same_copy (sym (after_both (events_told (taken_by n turns queues)) (waiting_in (after_turns turns queues n)) copy)
    ∙ ap (λ l. after_events l copy) ((turns_pass turns n queues q h s tells none).events ∙ ap (λ l. q.backlog.events ++ l) (brought_under q turns))
    ∙ after_both q.backlog.events (events_under q.prefix (came_to q.tree turns)) copy)
    (copy_law q.prefix (came_to q.tree turns) (after_events q.backlog.events copy) m c)
  where
    same_copy : {a b : Map} → a ≡ b → IsCopy q.prefix b (after_events (came_to q.tree turns) m) → IsCopy q.prefix a (after_events (came_to q.tree turns) m)
    same_copy e z = record { has = λ k. ap (find key_cmp k) e ∙ z.has k }
