-- Events of several trees that are prepared one after the other, and those that the writes of a group bring.
use Rattle.std.proofs.Common.{◌≡◌, ℕ, Bool, true, false, cond, nat_eq, List, [], ◌∷◌, ◌++◌, append_assoc, append-nil, Option, Some, None, option_map, sym, refl, ap, ◌∙◌}
use Rattle.std.proofs.Math.Path.{fun_ext}
use Rattle.std.specs.Prelude.{map}
use Rattle.std.specs.Option.{option_to_list}
use Rattle.sled_nodes.proofs.Basics.{none_some, some_is}
use Rattle.sled_nodes.specs.Order.{Key}
use Rattle.sled_store.specs.Update.{put_at}
use Rattle.sled_model.specs.Backlog.{Backlog, no_backlog, comes, come_all}
use Rattle.sled_model.specs.State.{State, NamedTree, Queue, matches, queues_after}
use Rattle.sled_model.specs.Groups.{Write, after_write_on, after_writes, events_of_write, events_of_writes}
use Rattle.sled_model.specs.declared.event.Event.{Event}
use Rattle.sled_model.proofs.Shapes.{after_write, answer_of_write}
use Rattle.sled_queues.specs.Values.{WaitingValue, Waitings}
use Rattle.sled_queues.specs.Events.{after_turns}
use Rattle.sled_queues.specs.Turns.{turns_of_events}
use Rattle.sled_queues.specs.Queues.{queues_of, IsCalm, prepared_in, prepared, committed_in, committed, cancelled_in, taken_in}
use Rattle.sled_queues.specs.Laws.{CalmLaw, prepared_all, delivered_all, DeliversGroupLaw}
use Rattle.sled_queues.proofs.Lawful.{on_option, map_twice, map_same, calm_from}
use Rattle.sled_queues.proofs.Shapes.{queue_of}

-- what some events make of one queue
abbrev gain : List (ℕ × Event) → WaitingValue → WaitingValue
gain [] w = w
gain (e ∷ es) w = gain es (prepared_in e.0 e.1 w)

gain_at : (es : List (ℕ × Event)) (queues : Waitings) (n : ℕ) → prepared_all es queues n ≡ option_map (gain es) (queues n)
gain_at [] queues n = sym (map_same (queues n))
gain_at (e ∷ es) queues n = gain_at es (prepared e.0 e.1 queues) n ∙ map_twice (prepared_in e.0 e.1) (gain es) (queues n)

-- the events that a queue of this tree and this prefix waits for
abbrev watching : ℕ → Key → Queue
watching tree prefix = record { tree = tree; prefix = prefix; backlog = no_backlog }

abbrev came : List (ℕ × Event) → ℕ → Key → List Event
came [] tree prefix = []
came (e ∷ es) tree prefix = cond (matches e.0 e.1 (watching tree prefix)) (e.1 ∷ []) [] ++ came es tree prefix

abbrev with_coming : WaitingValue → List Event → WaitingValue
with_coming w l = record w { coming = l }

gain_is : (es : List (ℕ × Event)) (w : WaitingValue) → gain es w ≡ with_coming w (w.coming ++ came es w.tree w.prefix)
gain_is [] w = ap (with_coming w) (sym (append-nil w.coming))
gain_is (e ∷ es) w = go (matches e.0 e.1 (queue_of w))
    (gain_is es (with_coming w (w.coming ++ e.1 ∷ []))) (gain_is es w)
  where
    go : (b : Bool) → gain es (with_coming w (w.coming ++ e.1 ∷ [])) ≡ with_coming w ((w.coming ++ e.1 ∷ []) ++ came es w.tree w.prefix) → gain es w ≡ with_coming w (w.coming ++ came es w.tree w.prefix)
        → gain es (cond b (with_coming w (w.coming ++ e.1 ∷ [])) w) ≡ with_coming w (w.coming ++ (cond b (e.1 ∷ []) [] ++ came es w.tree w.prefix))
    go true more same = more ∙ ap (with_coming w) (append_assoc w.coming (e.1 ∷ []) (came es w.tree w.prefix))
    go false more same = same

-- a queue in which nothing was prepared, after all of it
gained : (es : List (ℕ × Event)) (w : WaitingValue) → w.coming ≡ [] → gain es w ≡ with_coming w (came es w.tree w.prefix)
gained es w calm = gain_is es w ∙ ap (λ l. with_coming w (l ++ came es w.tree w.prefix)) calm

gone : (es : List (ℕ × Event)) (w : WaitingValue) → w.coming ≡ [] → cancelled_in (gain es w) ≡ w
gone es w calm = ap cancelled_in (gained es w calm) ∙ ap (with_coming w) (sym calm)

-- what the model's queue receives
abbrev with_backlog : Queue → Backlog → Queue
with_backlog q b = record q { backlog = b }

abbrev receive : List (ℕ × Event) → Queue → Queue
receive [] q = q
receive (e ∷ es) q = receive es (cond (matches e.0 e.1 q) (with_backlog q (comes e.1 q.backlog)) q)

receive_at : (es : List (ℕ × Event)) (queues : ℕ → Option Queue) (n : ℕ) → delivered_all es queues n ≡ option_map (receive es) (queues n)
receive_at [] queues n = sym (map_same (queues n))
receive_at (e ∷ es) queues n = receive_at es (queues_after e.0 (Some e.1) queues) n ∙ map_twice (λ (q : Queue). cond (matches e.0 e.1 q) (with_backlog q (comes e.1 q.backlog)) q) (receive es) (queues n)

receive_is : (es : List (ℕ × Event)) (q : Queue) → receive es q ≡ with_backlog q (come_all (came es q.tree q.prefix) q.backlog)
receive_is [] q = refl
receive_is (e ∷ es) q = go (matches e.0 e.1 q) (receive_is es (with_backlog q (comes e.1 q.backlog))) (receive_is es q)
  where
    go : (b : Bool) → receive es (with_backlog q (comes e.1 q.backlog)) ≡ with_backlog q (come_all (came es q.tree q.prefix) (comes e.1 q.backlog)) → receive es q ≡ with_backlog q (come_all (came es q.tree q.prefix) q.backlog)
        → receive es (cond b (with_backlog q (comes e.1 q.backlog)) q) ≡ with_backlog q (come_all (cond b (e.1 ∷ []) [] ++ came es q.tree q.prefix) q.backlog)
    go true more same = more
    go false more same = same

ended : (es : List (ℕ × Event)) (w : WaitingValue) → w.coming ≡ [] → queue_of (committed_in (gain es w)) ≡ receive es (queue_of w)
ended es w calm = ap (λ z. queue_of (committed_in z)) (gained es w calm) ∙ sym (receive_is es (queue_of w))

pub group_law : DeliversGroupLaw
group_law queues calm es = record {
  hidden = fun_ext (λ n. ap (option_map queue_of) (gain_at es queues n) ∙ map_twice (gain es) queue_of (queues n) ∙ on_option (λ w. queue_of (gain es w)) queue_of (queues n) (λ w there. ap queue_of (gain_is es w)));
  shown = fun_ext (λ n.
      ap (option_map queue_of) (all n)
      ∙ map_twice (λ w. committed_in (gain es w)) queue_of (queues n)
      ∙ on_option (λ w. queue_of (committed_in (gain es w))) (λ w. receive es (queue_of w)) (queues n) (λ w there. ended es w (calm.none n w there))
      ∙ sym (receive_at es (queues_of queues) n ∙ map_twice queue_of (receive es) (queues n)));
  calm = record {
    none = λ n w there. calm_from (λ w. committed_in (gain es w)) (queues n) w (λ v h. refl) (sym (all n) ∙ there);
  };
  undone = fun_ext (λ n.
      ap (option_map cancelled_in) (gain_at es queues n) ∙ map_twice (gain es) cancelled_in (queues n)
      ∙ on_option (λ w. cancelled_in (gain es w)) (λ w. w) (queues n) (λ w there. gone es w (calm.none n w there))
      ∙ map_same (queues n));
}
  where
    all : (n : ℕ) → committed (prepared_all es queues) n ≡ option_map (λ w. committed_in (gain es w)) (queues n)
    all n = ap (option_map committed_in) (gain_at es queues n) ∙ map_twice (gain es) committed_in (queues n)

calm_put : (queues : Waitings) → IsCalm queues → (n : ℕ) (o : Option WaitingValue) → ((w : WaitingValue) → o ≡ Some w → w.coming ≡ []) → IsCalm (put_at queues n o)
calm_put queues calm n o h = record { none = λ k w e. go k w (nat_eq k n) e }
  where
    go : (k : ℕ) (w : WaitingValue) (b : Bool) → cond b o (queues k) ≡ Some w → w.coming ≡ []
    go k w true e = h w e
    go k w false e = calm.none k w e

pub calm_law : CalmLaw
calm_law queues calm = record {
  watches = λ n tree prefix. calm_put queues calm n (Some (record { tree = tree; prefix = prefix; backlog = no_backlog; coming = [] })) (λ w e. ap (λ (z : WaitingValue). z.coming) (sym (some_is e)));
  takes = λ n. calm_put queues calm n (option_map taken_in (queues n)) (λ w e. calm_from taken_in (queues n) w (λ v h. calm.none n v h) e);
  gives_up = λ n. calm_put queues calm n None (λ w e. none_some e);
}

abbrev Queues : Type 0
Queues = ℕ → Option Queue

delivered_both : (xs ys : List (ℕ × Event)) (queues : Queues) → delivered_all (xs ++ ys) queues ≡ delivered_all ys (delivered_all xs queues)
delivered_both [] ys queues = refl
delivered_both (x ∷ xs) ys queues = delivered_both xs ys (queues_after x.0 (Some x.1) queues)

-- an event that there may be, to the tree of a number
event_delivers : (tree : ℕ) (e : Option Event) (queues : Queues) → queues_after tree e queues ≡ delivered_all (map (λ e. (tree, e)) (option_to_list e)) queues
event_delivers tree None queues = refl
event_delivers tree (Some e) queues = refl

write_delivers : (o : Option NamedTree) (w : Write) (s : State) → (after_write_on o w s).queues ≡ delivered_all (events_of_write o w) s.queues
write_delivers None w s = refl
write_delivers (Some t) w s = event_delivers t.number (answer_of_write t w).event s.queues

-- the queues after writes are those that the writes' events are given to
pub writes_deliver : (ws : List Write) (s : State) → (after_writes ws s).queues ≡ delivered_all (events_of_writes ws s) s.queues
writes_deliver [] s = refl
writes_deliver (w ∷ ws) s =
    let first = events_of_write (s.trees w.tree.name) w in let rest = events_of_writes ws (after_write w s) in
    writes_deliver ws (after_write w s)
    ∙ ap (delivered_all rest) (write_delivers (s.trees w.tree.name) w s)
    ∙ sym (delivered_both first rest s.queues)

-- .. and events that come are given to the same
pub turns_deliver : (es : List (ℕ × Event)) (queues : Queues) → after_turns (turns_of_events es) queues ≡ delivered_all es queues
turns_deliver [] queues = refl
turns_deliver (e ∷ es) queues = turns_deliver es (queues_after e.0 (Some e.1) queues)
