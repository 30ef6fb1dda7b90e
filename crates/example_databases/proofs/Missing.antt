-- What a subscriber misses that takes nothing.
use Rattle.std.proofs.Common.{◌≡◌, ◌≤◌, ◌<◌, ◌+◌, ℕ, min, nat_eq, nat_le, Bool, true, false, cond, drop, length, List, [], ◌∷◌, ◌++◌, Option, Some, None, option_map, slice_get, length-append, sym, refl, ap, ◌∙◌, subst, arith}
use Rattle.std.proofs.lemmas.Bool.{eq-eqb, eqb-true}
use Rattle.std.proofs.lemmas.Bool.Decides.{nat_tests}
use Rattle.std.specs.Option.{option_to_list}
use Rattle.sled_model.specs.Backlog.{Backlog, comes, next_of, queue_limit}
use Rattle.sled_model.specs.Queues.{backlog_in, without_next}
use Rattle.sled_model.specs.State.{Queue, matches}
use Rattle.sled_model.specs.Ids.{greatest_of_all}
use Rattle.sled_model.specs.declared.event.Event.{Event}
use Rattle.sled_model.specs.declared.event.Next.{Next}
use Rattle.sled_model.specs.declared.event.Next.TheVariants as next
use Rattle.sled_model.proofs.Shapes.{next_in}
use Rattle.sled_queues.specs.Events.{Turn, Comes, Watches, Takes, Ends, after_turn, after_turns, taken_at, taken_by, brought_at, brought, Stays}
use Rattle.sled_queues.proofs.Hearing.{turned, turned_tree, turned_prefix, after_one, brought_all}

-- ---- a backlog

-- what is next of a backlog
abbrev pub GivenBy : Backlog → Option Next → Type 0
GivenBy b None = (nat_eq b.missed 0 ≡ true) × (b.events ≡ [])
GivenBy b (Some (next.Event e)) = (nat_eq b.missed 0 ≡ true) × (b.events ≡ e ∷ drop 1 b.events)
GivenBy b (Some (next.Missed n)) = nat_eq b.missed 0 ≡ false

pub given_by : (b : Backlog) → GivenBy b (next_of b)
given_by b = go (nat_eq b.missed 0) refl b.events refl
  where
    go : (t : Bool) → nat_eq b.missed 0 ≡ t → (es : List Event) → b.events ≡ es → GivenBy b (cond t (option_map next.Event (slice_get es 0)) (Some (next.Missed b.missed)))
    go true m [] e = (m, e)
    go true m (x ∷ es) e = (m, e ∙ ap (λ l. x ∷ drop 1 l) (sym e))
    go false m es e = m

-- an event comes: the count does not go back to 0
counted_on : (m : ℕ) (last : ℕ) → 0 < last → min (m + 1) last ≡ 0 → m ≡ 0
counted_on m last l e = omega arith

pub comes_counted : (e : Event) (b : Backlog) → (comes e b).missed ≡ 0 → b.missed ≡ 0
comes_counted e b = go (nat_le queue_limit (length b.events))
  where
    go : (t : Bool) → (cond t (record { missed = min (b.missed + 1) greatest_of_all; events = drop 1 b.events ++ e ∷ [] }) (record b { events = b.events ++ e ∷ [] })).missed ≡ 0 → b.missed ≡ 0
    go true z = counted_on b.missed greatest_of_all (omega arith) z
    go false z = z

-- .. and where there is room for it, it stays
pub comes_fits : (e : Event) (b : Backlog) (more : ℕ) → length b.events + (1 + more) ≤ queue_limit → ((comes e b).missed ≡ b.missed) × (length (comes e b).events + more ≤ queue_limit)
comes_fits e b more fits = go (nat_le queue_limit (length b.events)) refl
  where
    room : (n limit : ℕ) → nat_le limit n ≡ true → n + (1 + more) ≤ limit → ⊥
    room n limit t f = grind (arith, nat_tests)

    longer : (n m : ℕ) → m ≡ n + 1 → n + (1 + more) ≤ queue_limit → m + more ≤ queue_limit
    longer n m e f = omega arith

    made : Bool → Backlog
    made t = cond t (record { missed = min (b.missed + 1) greatest_of_all; events = drop 1 b.events ++ e ∷ [] }) (record b { events = b.events ++ e ∷ [] })

    go : (t : Bool) → nat_le queue_limit (length b.events) ≡ t → ((made t).missed ≡ b.missed) × (length (made t).events + more ≤ queue_limit)
    go true t = absurd (room (length b.events) queue_limit t fits)
    go false t = (refl, longer (length b.events) (length (b.events ++ e ∷ [])) (length-append b.events (e ∷ [])) fits)

-- ---- one turn

-- at which the subscriber of a queue takes nothing: its count does not go back to 0, and where there is room it stays
pub record Misses (q r : Queue) (came : List Event) : Type 0 where
  pub counted : r.backlog.missed ≡ 0 → q.backlog.missed ≡ 0
  pub fits : (more : ℕ) → length q.backlog.events + (length came + more) ≤ queue_limit → (r.backlog.missed ≡ q.backlog.missed) × (length r.backlog.events + more ≤ queue_limit)

misses_none : (q : Queue) → Misses q q []
misses_none q = record { counted = λ z. z; fits = λ more f. (refl, as_before more f) }
  where
    as_before : (more : ℕ) → length q.backlog.events + (0 + more) ≤ queue_limit → length q.backlog.events + more ≤ queue_limit
    as_before more f = omega arith

-- it was told nothing, and nothing is there
told_none : (q : Queue) → option_to_list (next_of q.backlog) ≡ [] → Misses q (without_next q) []
told_none q none = go (next_of q.backlog) (given_by q.backlog) none
  where
    go : (o : Option Next) → GivenBy q.backlog o → option_to_list o ≡ [] → Misses q (without_next q) []
    go (Some x) g e = absurd cc
    go None g e = subst (λ t. Misses q (record q { backlog = cond t (record (q.backlog) { events = drop 1 q.backlog.events }) (record (q.backlog) { missed = 0 }) }) []) (sym g.0) (record {
      counted = λ z. z;
      fits = λ more f. (refl, shorter (length (drop 1 q.backlog.events)) more (ap (λ l. length (drop 1 l)) g.1) f);
    })
      where
        shorter : (n more : ℕ) → n ≡ 0 → length q.backlog.events + (0 + more) ≤ queue_limit → n + more ≤ queue_limit
        shorter n more z f = omega arith

one_turn : (t : Turn) (n : ℕ) (queues : ℕ → Option Queue) (q : Queue) → queues n ≡ Some q → taken_at n t queues ≡ [] → Misses q (turned n t q) (brought_at q t)
one_turn (Comes tree e) n queues q h none = go (matches tree e q)
  where
    go : (b : Bool) → Misses q (cond b (record q { backlog = comes e q.backlog }) q) (cond b (e ∷ []) [])
    go true = record { counted = comes_counted e q.backlog; fits = comes_fits e q.backlog }
    go false = misses_none q
one_turn (Takes m) n queues q h none = go (nat_eq n m) refl
  where
    go : (b : Bool) → nat_eq n m ≡ b → Misses q (cond b (without_next q) q) []
    go true e = told_none q (sym (ap (λ b. cond b (option_to_list (next_in (queues n))) []) (eq-eqb m n (sym (eqb-true n m e))) ∙ ap (λ o. option_to_list (next_in o)) h) ∙ none)
    go false e = misses_none q
one_turn (Watches m tree prefix) n queues q h none = misses_none q
one_turn (Ends m) n queues q h none = misses_none q

-- ---- turns

-- a subscriber that stays has a queue still, which watches what it did
pub record Stands (after : Option Queue) (q : Queue) : Type 0 where
  pub queue : Queue
  pub there : after ≡ Some queue
  pub tree : queue.tree ≡ q.tree
  pub prefix : queue.prefix ≡ q.prefix

pub stands_after : (ts : List Turn) (n : ℕ) (queues : ℕ → Option Queue) (q : Queue) → queues n ≡ Some q → Stays n ts → Stands (after_turns ts queues n) q
stands_after [] n queues q h s = record { queue = q; there = h; tree = refl; prefix = refl }
stands_after (t ∷ ts) n queues q h s =
    let k = stands_after ts n (after_turn t queues) (turned n t q) (after_one t n queues q s.0 h) s.1 in
    record { queue = k.queue; there = k.there; tree = k.tree ∙ turned_tree n t q; prefix = k.prefix ∙ turned_prefix n t q }

none_before : {X : Type 0} (xs ys : List X) → xs ++ ys ≡ [] → (xs ≡ []) × (ys ≡ [])
none_before [] ys e = (refl, e)
none_before (x ∷ xs) ys e = absurd cc

-- where the count is 0 after them, it was before
pub some_missed : (ts : List Turn) (n : ℕ) (queues : ℕ → Option Queue) (q : Queue) → queues n ≡ Some q → Stays n ts → taken_by n ts queues ≡ [] → (backlog_in (after_turns ts queues n)).missed ≡ 0 → q.backlog.missed ≡ 0
some_missed [] n queues q h s none z = sym (ap (λ o. (backlog_in o).missed) h) ∙ z
some_missed (t ∷ ts) n queues q h s none z =
    let parts = none_before (taken_at n t queues) (taken_by n ts (after_turn t queues)) none in
    (one_turn t n queues q h parts.0).counted (some_missed ts n (after_turn t queues) (turned n t q) (after_one t n queues q s.0 h) s.1 parts.1 z)

-- where there is room for all that came, it stays
pub none_missed : (ts : List Turn) (n : ℕ) (queues : ℕ → Option Queue) (q : Queue) → queues n ≡ Some q → Stays n ts → taken_by n ts queues ≡ [] → length q.backlog.events + length (brought q ts) ≤ queue_limit → (backlog_in (after_turns ts queues n)).missed ≡ q.backlog.missed
none_missed [] n queues q h s none fits = ap (λ o. (backlog_in o).missed) h
none_missed (t ∷ ts) n queues q h s none fits =
    let parts = none_before (taken_at n t queues) (taken_by n ts (after_turn t queues)) none in
    let r = turned n t q in
    let one = (one_turn t n queues q h parts.0).fits (length (brought q ts)) (subst (λ k. length q.backlog.events + k ≤ queue_limit) (length-append (brought_at q t) (brought q ts)) fits) in
    let all : brought r ts ≡ brought q ts = brought_all ts q r (turned_tree n t q) (turned_prefix n t q) in
    none_missed ts n (after_turn t queues) r (after_one t n queues q s.0 h) s.1 parts.1 (subst (λ l. length r.backlog.events + length l ≤ queue_limit) (sym all) one.1) ∙ one.0
