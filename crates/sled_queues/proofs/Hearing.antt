-- What a subscriber is told, and what waits for it.
use Rattle.std.proofs.Common.{◌≡◌, ℕ, zero, suc, ◌+◌, ◌≤◌, ◌<◌, Bool, true, false, cond, nat_eq, nat_le, min, List, [], ◌∷◌, ◌++◌, append_assoc, append-nil, length, drop, Option, Some, None, option_map, slice_get, sym, refl, ap, ◌∙◌, subst, arith}
use mathlib.Core.Bool.{true≢false}
use Rattle.std.specs.Option.{option_to_list}
use Rattle.std.proofs.lemmas.Bool.{eq-eqb, ne_eqb, eqb-true, leb-true}
use Rattle.std.proofs.lemmas.List.{length-append}
use Rattle.sled_model.specs.Backlog.{Backlog, queue_limit, no_backlog, comes, next_of, after_next}
use Rattle.sled_model.specs.State.{Queue, matches}
use Rattle.sled_model.specs.Queues.{backlog_in, without_next}
use Rattle.sled_model.specs.Ids.{greatest_of_all}
use Rattle.sled_model.specs.declared.event.Event.{Event}
use Rattle.sled_model.specs.declared.event.Next.{Next}
use Rattle.sled_model.specs.declared.event.Next.TheVariants as told
use Rattle.sled_model.proofs.Shapes.{next_in}
use Rattle.sled_queues.specs.Events.{Turn, Comes, Watches, Takes, Ends, after_turn, after_turns, taken_at, taken_by, brought_at, brought, begins_or_ends, Stays}
use Rattle.sled_queues.specs.Hears.{Accounts, Holds, Hears, HearsLaw, HearsAllLaw, CountsLaw}

-- what one turn makes of a queue whose subscriber stays
abbrev pub turned : ℕ → Turn → Queue → Queue
turned n (Comes tree e) q = cond (matches tree e q) (record q { backlog = comes e q.backlog }) q
turned n (Takes m) q = cond (nat_eq n m) (without_next q) q
turned n (Watches m tree prefix) q = q
turned n (Ends m) q = q

pub eqb_flip : (m n : ℕ) → nat_eq m n ≡ nat_eq n m
eqb_flip m n = go (nat_eq n m) refl
  where
    go : (b : Bool) → nat_eq n m ≡ b → nat_eq m n ≡ b
    go true e = eq-eqb m n (sym (eqb-true n m e))
    go false e = ne_eqb m n (λ s. true≢false (sym (eq-eqb n m (sym s)) ∙ e))

pub after_one : (t : Turn) (n : ℕ) (queues : ℕ → Option Queue) (q : Queue) → begins_or_ends n t ≡ false → queues n ≡ Some q → after_turn t queues n ≡ Some (turned n t q)
after_one (Comes tree e) n queues q s h = ap (option_map (λ (q : Queue). cond (matches tree e q) (record q { backlog = comes e q.backlog }) q)) h
after_one (Takes m) n queues q s h = go (nat_eq n m) refl
  where
    go : (b : Bool) → nat_eq n m ≡ b → cond b (option_map without_next (queues m)) (queues n) ≡ Some (cond b (without_next q) q)
    go true e = ap (λ k. option_map without_next (queues k)) (sym (eqb-true n m e)) ∙ ap (option_map without_next) h
    go false e = h
after_one (Watches m tree prefix) n queues q s h = ap (λ b. cond b (Some (record { tree = tree; prefix = prefix; backlog = no_backlog })) (queues n)) (eqb_flip n m ∙ s) ∙ h
after_one (Ends m) n queues q s h = ap (λ b. cond b None (queues n)) (eqb_flip n m ∙ s) ∙ h

-- a turn at which a subscriber that is not there neither begins nor ends
pub after_none : (t : Turn) (n : ℕ) (queues : ℕ → Option Queue) → begins_or_ends n t ≡ false → queues n ≡ None → after_turn t queues n ≡ None
after_none (Comes tree e) n queues s h = ap (option_map (λ (q : Queue). cond (matches tree e q) (record q { backlog = comes e q.backlog }) q)) h
after_none (Takes m) n queues s h = go (nat_eq n m) refl
  where
    go : (b : Bool) → nat_eq n m ≡ b → cond b (option_map without_next (queues m)) (queues n) ≡ None
    go true e = ap (λ k. option_map without_next (queues k)) (sym (eqb-true n m e)) ∙ ap (option_map without_next) h
    go false e = h
after_none (Watches m tree prefix) n queues s h = ap (λ b. cond b (Some (record { tree = tree; prefix = prefix; backlog = no_backlog })) (queues n)) (eqb_flip n m ∙ s) ∙ h
after_none (Ends m) n queues s h = ap (λ b. cond b None (queues n)) (eqb_flip n m ∙ s) ∙ h

-- the queue watches what it did
brought_same : (t : Turn) (q : Queue) (r : Queue) → r.tree ≡ q.tree → r.prefix ≡ q.prefix → brought_at r t ≡ brought_at q t
brought_same (Comes tree e) q r a b = ap (λ k. cond (matches tree e (record { tree = k; prefix = r.prefix; backlog = no_backlog })) (e ∷ []) []) a ∙ ap (λ k. cond (matches tree e (record { tree = q.tree; prefix = k; backlog = no_backlog })) (e ∷ []) []) b
brought_same (Takes m) q r a b = refl
brought_same (Watches m tree prefix) q r a b = refl
brought_same (Ends m) q r a b = refl

pub brought_all : (ts : List Turn) (q : Queue) (r : Queue) → r.tree ≡ q.tree → r.prefix ≡ q.prefix → brought r ts ≡ brought q ts
brought_all [] q r a b = refl
brought_all (t ∷ ts) q r a b = ap (λ l. l ++ brought r ts) (brought_same t q r a b) ∙ ap (λ l. brought_at q t ++ l) (brought_all ts q r a b)

-- a turn changes no more of a queue than its backlog
turned_keeps : {A : Type 0} (of : Queue → A) → ((q : Queue) (l : Backlog) → of (record q { backlog = l }) ≡ of q) → (n : ℕ) (t : Turn) (q : Queue) → of (turned n t q) ≡ of q
turned_keeps of keeps n (Comes tree e) q = go (matches tree e q)
  where
    go : (b : Bool) → of (cond b (record q { backlog = comes e q.backlog }) q) ≡ of q
    go true = keeps q _
    go false = refl
turned_keeps of keeps n (Takes m) q = go (nat_eq n m)
  where
    go : (b : Bool) → of (cond b (without_next q) q) ≡ of q
    go true = keeps q _
    go false = refl
turned_keeps of keeps n (Watches m tree prefix) q = refl
turned_keeps of keeps n (Ends m) q = refl

pub turned_tree : (n : ℕ) (t : Turn) (q : Queue) → (turned n t q).tree ≡ q.tree
turned_tree = turned_keeps (λ q. q.tree) (λ q l. refl)

pub turned_prefix : (n : ℕ) (t : Turn) (q : Queue) → (turned n t q).prefix ≡ q.prefix
turned_prefix = turned_keeps (λ q. q.prefix) (λ q l. refl)

drop_end : (n : ℕ) (xs ys : List Event) → n ≤ length xs → drop n (xs ++ ys) ≡ drop n xs ++ ys
drop_end zero xs ys l = refl
drop_end (suc n) [] ys l = absurd (omega (arith, l))
drop_end (suc n) (x ∷ xs) ys l = drop_end n xs ys (omega (arith, l))

drop_more : (n : ℕ) (xs : List Event) → drop 1 (drop n xs) ≡ drop (n + 1) xs
drop_more zero xs = refl
drop_more (suc n) [] = let e : suc n + 1 ≡ suc (n + 1) = omega arith in sym (ap (λ k. drop k []) e)
drop_more (suc n) (x ∷ xs) = let e : suc n + 1 ≡ suc (n + 1) = omega arith in drop_more n xs ∙ sym (ap (λ k. drop k (x ∷ xs)) e)

-- an event that comes, and is counted
come_holds : (e : Event) (q : Backlog) (all : List Event) → (comes e q).missed < greatest_of_all → Holds q all → Holds (comes e q) (all ++ e ∷ [])
come_holds e q all few h = go (nat_le queue_limit (length q.events)) refl few
  where
    longer : length (all ++ e ∷ []) ≡ length all + 1
    longer = length-append all (e ∷ [])

    go : (b : Bool) → nat_le queue_limit (length q.events) ≡ b → (cond b (record { missed = min (q.missed + 1) greatest_of_all; events = drop 1 q.events ++ e ∷ [] }) (record q { events = q.events ++ e ∷ [] })).missed < greatest_of_all
        → Holds (cond b (record { missed = min (q.missed + 1) greatest_of_all; events = drop 1 q.events ++ e ∷ [] }) (record q { events = q.events ++ e ∷ [] })) (all ++ e ∷ [])
    go true full low =
        let count : min (q.missed + 1) greatest_of_all ≡ q.missed + 1 = omega (arith, low) in
        let some : 1 ≤ length q.events = (let up : queue_limit ≤ length q.events = leb-true queue_limit (length q.events) full in omega (arith, up)) in
        let left = dropped q.missed all q.events h.waits some in
        record {
          counted = omega (arith, count, longer, left);
          waits = ap (λ k. drop k (all ++ e ∷ [])) count ∙ drop_end (q.missed + 1) all (e ∷ []) left ∙ ap (λ l. l ++ e ∷ []) (sym (drop_more q.missed all) ∙ ap (drop 1) h.waits);
        }
      where
        dropped : (n : ℕ) (xs ys : List Event) → drop n xs ≡ ys → 1 ≤ length ys → n + 1 ≤ length xs
        dropped zero xs ys is l = omega (arith, ap length is, l)
        dropped (suc n) [] ys is l = absurd (let e : 0 ≡ length ys = ap length is in omega (arith, e, l))
        dropped (suc n) (x ∷ xs) ys is l = let r = dropped n xs ys is l in omega (arith, r)
    go false room low = record {
      counted = (let c = h.counted in omega (arith, longer, c));
      waits = drop_end q.missed all (e ∷ []) h.counted ∙ ap (λ l. l ++ e ∷ []) h.waits;
    }

-- of the events that a backlog has, what is told accounts for the first, and what it holds then are the others
record Leaves (told : List Next) (all came : List Event) (b : Backlog) : Type 0 where
  left : List Event
  holds : Holds b left
  accounts : (more rest : List Event) (ns : List Next) → Accounts ns (left ++ more) rest → Accounts (told ++ ns) (all ++ (came ++ more)) rest

-- nothing is told, and nothing comes
rests : (all : List Event) (b : Backlog) → Holds b all → Leaves [] all [] b
rests all b h = record { left = all; holds = h; accounts = λ more rest ns t. t }

-- what is next is told
tells_next : (all : List Event) (b : Backlog) → Holds b all → Leaves (option_to_list (next_of b)) all [] (after_next b)
tells_next all q h = go (nat_eq q.missed 0) refl
  where
    first : (events : List Event) → all ≡ events → Leaves (option_to_list (option_map told.Event (slice_get events 0))) all [] (record { missed = 0; events = drop 1 events })
    first [] is = record { left = []; holds = record { counted = omega arith; waits = refl }; accounts = λ more rest ns t. subst (λ l. Accounts ns (l ++ more) rest) (sym is) t }
    first (x ∷ xs) is = record { left = xs; holds = record { counted = omega arith; waits = refl }; accounts = λ more rest ns t. subst (λ l. Accounts (told.Event x ∷ ns) (l ++ more) rest) (sym is) (refl, t) }

    within : (more : List Event) → q.missed ≤ length (all ++ more)
    within more = let l = length-append all more in let c = h.counted in omega (arith, l, c)

    go : (b : Bool) → nat_eq q.missed 0 ≡ b → Leaves (option_to_list (cond b (option_map told.Event (slice_get q.events 0)) (Some (told.Missed q.missed)))) all [] (cond b (record q { events = drop 1 q.events }) (record q { missed = 0 }))
    go true e =
        let none : q.missed ≡ 0 = eqb-true q.missed 0 e in
        let is : all ≡ q.events = sym (ap (λ n. drop n all) none) ∙ h.waits in
        subst (λ n. Leaves (option_to_list (option_map told.Event (slice_get q.events 0))) all [] (record { missed = n; events = drop 1 q.events })) (sym none) (first q.events is)
    go false e = record {
      left = drop q.missed all;
      holds = record { counted = omega arith; waits = h.waits };
      accounts = λ more rest ns t. (within more, subst (λ l. Accounts ns l rest) (sym (drop_end q.missed all more h.counted)) t);
    }

-- one turn: what is told is accounted for, and what came is held
one_turn : (t : Turn) (n : ℕ) (queues : ℕ → Option Queue) (q : Queue) → queues n ≡ Some q → (turned n t q).backlog.missed < greatest_of_all → (all : List Event) → Holds q.backlog all
    → Leaves (taken_at n t queues) all (brought_at q t) (turned n t q).backlog
one_turn (Comes tree e) n queues q h few all holds = go (matches tree e q) few
  where
    go : (b : Bool) → (cond b (record q { backlog = comes e q.backlog }) q).backlog.missed < greatest_of_all → Leaves [] all (cond b (e ∷ []) []) (cond b (record q { backlog = comes e q.backlog }) q).backlog
    go true few = record { left = all ++ e ∷ []; holds = come_holds e q.backlog all few holds; accounts = λ more rest ns t. subst (λ l. Accounts ns l rest) (append_assoc all (e ∷ []) more) t }
    go false few = rests all q.backlog holds
one_turn (Takes m) n queues q h few all holds =
    subst (λ l. Leaves l all [] (cond (nat_eq n m) (without_next q) q).backlog) (sym (ap (λ b. cond b (option_to_list (next_in (queues n))) []) (eqb_flip m n) ∙ ap (λ o. cond (nat_eq n m) (option_to_list (next_in o)) []) h)) (go (nat_eq n m))
  where
    go : (b : Bool) → Leaves (cond b (option_to_list (next_of q.backlog)) []) all [] (cond b (without_next q) q).backlog
    go true = tells_next all q.backlog holds
    go false = rests all q.backlog holds
one_turn (Watches m tree prefix) n queues q h few all holds = rests all q.backlog holds
one_turn (Ends m) n queues q h few all holds = rests all q.backlog holds

pub hears_law : HearsLaw
hears_law [] n queues q h s counts all holds = record { left = all; accounts = append-nil all; holds = subst (λ o. Holds (backlog_in o) all) (sym h) holds }
hears_law (t ∷ ts) n queues q h s counts all holds =
    let next : after_turn t queues n ≡ Some (turned n t q) = after_one t n queues q s.0 h in
    let one = one_turn t n queues q h (subst (λ o. (backlog_in o).missed < greatest_of_all) next counts.0) all holds in
    let rest = hears_law ts n (after_turn t queues) (turned n t q) next s.1 counts.1 one.left one.holds in
    record {
      left = rest.left;
      accounts = one.accounts (brought q ts) rest.left (taken_by n ts (after_turn t queues))
          (subst (λ l. Accounts (taken_by n ts (after_turn t queues)) (one.left ++ l) rest.left) (brought_all ts q (turned n t q) (turned_tree n t q) (turned_prefix n t q)) rest.accounts);
      holds = rest.holds;
    }

-- a subscriber that stays has a queue still
pub stays_there : (ts : List Turn) (n : ℕ) (queues : ℕ → Option Queue) (q : Queue) → queues n ≡ Some q → Stays n ts → (r : Queue) × (after_turns ts queues n ≡ Some r)
stays_there [] n queues q h s = (q, h)
stays_there (t ∷ ts) n queues q h s = stays_there ts n (after_turn t queues) (turned n t q) (after_one t n queues q s.0 h) s.1

-- a subscriber that is not there takes nothing
taken_none : (t : Turn) (n : ℕ) (queues : ℕ → Option Queue) → queues n ≡ None → taken_at n t queues ≡ []
taken_none (Comes tree e) n queues h = refl
taken_none (Watches m tree prefix) n queues h = refl
taken_none (Ends m) n queues h = refl
taken_none (Takes m) n queues h = ap (λ o. cond (nat_eq m n) (option_to_list (next_in o)) []) h ∙ go (nat_eq m n)
  where
    go : (b : Bool) → cond b (option_to_list (next_in None)) [] ≡ []
    go true = refl
    go false = refl

pub hears_all_law : HearsAllLaw
hears_all_law [] after n tree prefix queues none before stays counts =
    hears_law after n (after_turn (Watches n tree prefix) queues) (record { tree = tree; prefix = prefix; backlog = no_backlog })
    (ap (λ b. cond b (Some (record { tree = tree; prefix = prefix; backlog = no_backlog })) (queues n)) (eq-eqb n n refl)) stays counts.1
    [] (record { counted = omega arith; waits = refl })
hears_all_law (t ∷ ts) after n tree prefix queues none before stays counts =
    subst (λ l. Hears (l ++ taken_by n (ts ++ Watches n tree prefix ∷ after) (after_turn t queues)) (brought (record { tree = tree; prefix = prefix; backlog = no_backlog }) after) (backlog_in (after_turns (ts ++ Watches n tree prefix ∷ after) (after_turn t queues) n)))
    (sym (taken_none t n queues none))
    (hears_all_law ts after n tree prefix (after_turn t queues) (after_none t n queues before.0 none) before.1 stays counts.1)

few_turned : (t : Turn) (n : ℕ) (q : Queue) → (turned n t q).backlog.missed ≤ q.backlog.missed + length (brought_at q t)
few_turned (Comes tree e) n q = go (matches tree e q)
  where
    come : (b : Bool) → (cond b (record { missed = min (q.backlog.missed + 1) greatest_of_all; events = drop 1 q.backlog.events ++ e ∷ [] }) (record (q.backlog) { events = q.backlog.events ++ e ∷ [] })).missed ≤ q.backlog.missed + 1
    come true = omega arith
    come false = omega arith

    go : (b : Bool) → (cond b (record q { backlog = comes e q.backlog }) q).backlog.missed ≤ q.backlog.missed + length (cond b (e ∷ []) [])
    go true = come (nat_le queue_limit (length q.backlog.events))
    go false = omega arith
few_turned (Takes m) n q = go (nat_eq n m)
  where
    next : (b : Bool) → (cond b (record (q.backlog) { events = drop 1 q.backlog.events }) (record (q.backlog) { missed = 0 })).missed ≤ q.backlog.missed + 0
    next true = omega arith
    next false = omega arith

    go : (b : Bool) → (cond b (without_next q) q).backlog.missed ≤ q.backlog.missed + 0
    go true = next (nat_eq q.backlog.missed 0)
    go false = omega arith
few_turned (Watches m tree prefix) n q = omega arith
few_turned (Ends m) n q = omega arith

pub counts_law : CountsLaw
counts_law [] n queues q h s few = tt
counts_law (t ∷ ts) n queues q h s few =
    let next : after_turn t queues n ≡ Some (turned n t q) = after_one t n queues q s.0 h in
    let low = few_turned t n q in
    let both : length (brought q (t ∷ ts)) ≡ length (brought_at q t) + length (brought q ts) = length-append (brought_at q t) (brought q ts) in
    let same : length (brought (turned n t q) ts) ≡ length (brought q ts) = ap length (brought_all ts q (turned n t q) (turned_tree n t q) (turned_prefix n t q)) in
    let here : (turned n t q).backlog.missed < greatest_of_all = omega (arith, low, both, few) in (
      subst (λ o. (backlog_in o).missed < greatest_of_all) (sym next) here,
      counts_law ts n (after_turn t queues) (turned n t q) next s.1 (omega (arith, low, both, same, few)),
    )
