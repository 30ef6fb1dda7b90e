-- The queues of the subscribers that are listed at the beginnings of a key are those that wait for it.
use Rattle.std.proofs.Common.{◌≡◌, ◌≢◌, ℕ, ◌+◌, ◌<◌, ◌≤◌, Bool, true, false, cond, nat_eq, nat_le, ◌||◌, ◌&&◌, ◌⊎◌, inl, inr, List, [], ◌∷◌, ◌++◌, length, drop, min, Option, Some, None, option_map, sym, refl, ap, ◌∙◌, subst, arith}
use Rattle.std.proofs.Math.Path.{fun_ext}
use mathlib.Core.Bool.{true≢false}
use Rattle.std.specs.BTreeMap.{BTreeMap, get}
use Rattle.std.specs.Ordering.{nat_cmp}
use Rattle.std.specs.Str.{bytes_eq}
use Rattle.std.proofs.lemmas.Bool.{eq-eqb, ne_eqb, eqb-true, leb-true, leb-false}
use Rattle.std.proofs.lemmas.List.{length-append}
use Rattle.std.proofs.lemmas.List.Folds.{list_any-append}
use Rattle.sled_nodes.proofs.Basics.{none_some, some_is}
use Rattle.sled_nodes.specs.Order.{Key}
use Rattle.sled_store.specs.Update.{put_at}
use Rattle.sled_model.specs.Backlog.{Backlog, queue_limit, comes, come_all}
use Rattle.sled_model.specs.Event.{key_of_event}
use Rattle.sled_model.specs.State.{matches}
use Rattle.sled_model.specs.Ids.{greatest_of_all}
use Rattle.sled_model.specs.declared.event.Event.{Event}
use Rattle.sled_queues.specs.Values.{WaitingValue, QueuesValue, Waitings, queue_at}
use Rattle.sled_queues.specs.Queues.{AreQueues, Becomes, prepared_in, prepared, committed_in, cancelled_in, taken_in, without_next_of}
use Rattle.sled_queues.specs.Tells.{waits_for, IsWatched, is_watched_as}
use Rattle.sled_queues.specs.Lists.{is_in, Once, watches, AreListed, ArePending}
use Rattle.sled_queues.specs.theory.Lists.{without, waits_in, has_some, changed_at, changed_in, gains}
use Rattle.sled_queues.proofs.Single.{push_once, without_once, without_keeps, without_gone, push_without}
use Rattle.sled_queues.proofs.Shapes.{queue_of}

-- how many events wait in a queue
abbrev waiting : WaitingValue → ℕ
waiting w = length w.backlog.events

-- what a queue was that is changed
was : {W : Type 0} (g : W → W) (o : Option W) (w : W) → option_map g o ≡ Some w → (v : W) × (o ≡ Some v) × (w ≡ g v)
was g None w e = none_some e
was g (Some v) w e = (v, refl, sym (some_is e))

-- the queues that are changed keep what they watch, and so their lists
same_watch : (g : WaitingValue → WaitingValue) (o : Option WaitingValue) (t : ℕ) (p : Key) → ((w : WaitingValue) → (g w).tree ≡ w.tree) → ((w : WaitingValue) → (g w).prefix ≡ w.prefix) → watches t p (option_map g o) ≡ watches t p o
same_watch g None t p a b = refl
same_watch g (Some w) t p a b = ap (λ k. nat_eq k t && bytes_eq (g w).prefix p) (a w) ∙ ap (λ k. nat_eq w.tree t && bytes_eq k p) (b w)

pub changed_listed : (g : ℕ → WaitingValue → WaitingValue) (a b : Waitings) (lists : ℕ → Key → List ℕ) → ((n : ℕ) (w : WaitingValue) → (g n w).tree ≡ w.tree) → ((n : ℕ) (w : WaitingValue) → (g n w).prefix ≡ w.prefix)
    → ((n : ℕ) → b n ≡ option_map (g n) (a n)) → AreListed a lists → AreListed b lists
changed_listed g a b lists trees prefixes is l = record {
  listed = λ n t p. l.listed n t p ∙ sym (ap (watches t p) (is n) ∙ same_watch (g n) (a n) t p (trees n) (prefixes n));
  once = l.once;
}

-- .. and where nothing more is prepared in them, no more are pending
pub changed_pending : (g : ℕ → WaitingValue → WaitingValue) (a b : Waitings) (ps : List ℕ) → ((n : ℕ) (w : WaitingValue) → (g n w).coming ≡ w.coming) → ((n : ℕ) → b n ≡ option_map (g n) (a n)) → ArePending a ps → ArePending b ps
changed_pending g a b ps keeps is h = record {
  rest = λ n w e out. let v = was (g n) (a n) w (sym (is n) ∙ e) in ap (λ (z : WaitingValue). z.coming) v.2 ∙ keeps n v.0 ∙ h.rest n v.0 v.1 out;
}

-- .. and their numbers; of their lengths it is to be shown
pub changed_queues : (g : ℕ → WaitingValue → WaitingValue) (a b : QueuesValue) → ((n : ℕ) (w : WaitingValue) → queue_at a n ≡ Some w → waiting w ≤ queue_limit → waiting (g n w) ≤ queue_limit)
    → ((n : ℕ) → queue_at b n ≡ option_map (g n) (queue_at a n)) → b.given ≡ a.given → AreQueues a → AreQueues b
changed_queues g a b keeps is same q = record {
  numbered = λ n w e. let v = was (g n) (queue_at a n) w (sym (is n) ∙ e) in let h = q.numbered n v.0 v.1 in (h.0, subst (λ k. n ≤ k) (sym same) h.1);
  within = λ n w e. let v = was (g n) (queue_at a n) w (sym (is n) ∙ e) in subst (λ z. waiting z ≤ queue_limit) (sym v.2) (keeps n v.0 v.1 (q.within n v.0 v.1));
}

out : {W : Type 0} (c : Bool) (v w : W) → cond c (Some v) (Some w) ≡ Some (cond c v w)
out true v w = refl
out false v w = refl

in_option : {W : Type 0} (f : W → W) (b : Bool) (o : Option W) (t : W → Bool) → ((w : W) → o ≡ Some w → b ≡ t w) → cond b (option_map f o) o ≡ option_map (λ w. cond (t w) (f w) w) o
in_option f true None t h = refl
in_option f false None t h = refl
in_option f b (Some w) t h = ap (λ c. cond c (Some (f w)) (Some w)) (h w refl) ∙ out (t w) (f w) w

bounded : (b : Bool) (v w : WaitingValue) → waiting v ≤ waiting w → waiting w ≤ queue_limit → waiting (cond b v w) ≤ queue_limit
bounded true v w e h = omega arith
bounded false v w e h = h

at_number : (f g : Waitings) (n : ℕ) → f ≡ g → f n ≡ g n
at_number f g n e = ap (λ h. h n) e

-- each queue is changed, where the others are as after the change
all_changed : (f : WaitingValue → WaitingValue) (ps : List ℕ) (a b : Waitings) → ((n : ℕ) (w : WaitingValue) → a n ≡ Some w → is_in n ps ≡ false → f w ≡ w) → ((n : ℕ) → b n ≡ changed_in f ps a n) → (n : ℕ) → b n ≡ option_map f (a n)
all_changed f ps a b h is n = is n ∙ go (a n) refl (is_in n ps) refl
  where
    go : (o : Option WaitingValue) → a n ≡ o → (c : Bool) → is_in n ps ≡ c → cond c (option_map f o) o ≡ option_map f o
    go o e true k = refl
    go None e false k = refl
    go (Some w) e false k = ap Some (sym (h n w e k))

-- an event that comes leaves at most 1024
drop_one : (xs : List Event) (n : ℕ) → n ≤ length xs → 1 ≤ n → length xs ≤ n → length (drop 1 xs) + 1 ≡ length xs
drop_one [] n a b c = absurd (omega (arith, a, b))
drop_one (x ∷ xs) n a b c = omega arith

come_bound : (e : Event) (q : Backlog) → length q.events ≤ queue_limit → length (comes e q).events ≤ queue_limit
come_bound e q h = go (nat_le queue_limit (length q.events)) refl
  where
    go : (b : Bool) → nat_le queue_limit (length q.events) ≡ b → length (cond b (record { missed = min (q.missed + 1) greatest_of_all; events = drop 1 q.events ++ e ∷ [] }) (record q { events = q.events ++ e ∷ [] })).events ≤ queue_limit
    go true full =
        let up : queue_limit ≤ length q.events = leb-true queue_limit (length q.events) full in
        let l = length-append (drop 1 q.events) (e ∷ []) in
        let d = drop_one q.events queue_limit up (omega arith) h in
        omega (arith, l, d, h)
    go false room =
        let low : length q.events < queue_limit = leb-false queue_limit (length q.events) room in
        let l = length-append q.events (e ∷ []) in
        omega (arith, l, low)

come_all_bound : (es : List Event) (q : Backlog) → length q.events ≤ queue_limit → length (come_all es q).events ≤ queue_limit
come_all_bound [] q h = h
come_all_bound (e ∷ es) q h = come_all_bound es (comes e q) (come_bound e q h)

-- what a queue becomes where what is prepared is committed or dropped: no more is prepared in it
pub record Settles (f : WaitingValue → WaitingValue) : Type 0 where
  pub calm : (w : WaitingValue) → w.coming ≡ [] → f w ≡ w
  pub none : (w : WaitingValue) → (f w).coming ≡ []
  pub tree : (w : WaitingValue) → (f w).tree ≡ w.tree
  pub prefix : (w : WaitingValue) → (f w).prefix ≡ w.prefix
  pub bound : (w : WaitingValue) → waiting w ≤ queue_limit → waiting (f w) ≤ queue_limit

pub commits : Settles committed_in
commits = record {
  calm = λ w calm. ap (λ l. record w { backlog = come_all l w.backlog; coming = [] }) calm ∙ ap (λ l. record w { coming = l }) (sym calm);
  none = λ w. refl;
  tree = λ w. refl;
  prefix = λ w. refl;
  bound = λ w h. come_all_bound w.coming w.backlog h;
}

pub cancels : Settles cancelled_in
cancels = record { calm = λ w calm. ap (λ l. record w { coming = l }) (sym calm); none = λ w. refl; tree = λ w. refl; prefix = λ w. refl; bound = λ w h. h }

module _ {f : WaitingValue → WaitingValue} (s : Settles f) (old new : BTreeMap ℕ WaitingValue) (ps qs : List ℕ) (same : ps ≡ qs) (pending : ArePending (get nat_cmp old) qs) (is : (n : ℕ) → get nat_cmp new n ≡ changed_in f ps (get nat_cmp old) n) where
  settled_at : (n : ℕ) → get nat_cmp new n ≡ option_map f (get nat_cmp old n)
  settled_at = all_changed f ps (get nat_cmp old) (get nat_cmp new) (λ n w e out. s.calm w (pending.rest n w e (ap (is_in n) (sym same) ∙ out))) is

  pub settled : get nat_cmp new ≡ (λ n. option_map f (get nat_cmp old n))
  settled = fun_ext settled_at

  -- what always holds of queues holds of them
  pub settled_keeps : (given : ℕ) (lists : ℕ → Key → List ℕ) (rest : List ℕ) → AreQueues (record { queues = old.entries; given = given }) → AreListed (get nat_cmp old) lists → AreQueues (record { queues = new.entries; given = given }) × AreListed (get nat_cmp new) lists × ArePending (get nat_cmp new) rest
  settled_keeps given lists rest q l = (
    changed_queues (λ n. f) (record { queues = old.entries; given = given }) (record { queues = new.entries; given = given }) (λ n w there h. s.bound w h) settled_at refl q,
    changed_listed (λ n. f) (get nat_cmp old) (get nat_cmp new) lists (λ n. s.tree) (λ n. s.prefix) settled_at l,
    record { rest = λ n w e out. let v = was f (get nat_cmp old n) w (sym (settled_at n) ∙ e) in ap (λ (z : WaitingValue). z.coming) v.2 ∙ s.none v.0 },
  )

-- an event is prepared in the queues of those that are listed at the beginnings of its key
pub prepares : (tree : ℕ) (e : Event) (ns : List ℕ) (a b : Waitings) → ((n : ℕ) → is_in n ns ≡ waits_in tree (key_of_event e) (a n)) → ((n : ℕ) → b n ≡ changed_in (gains e) ns a n) → b ≡ prepared tree e a
prepares tree e ns a b found is = fun_ext (λ n.
    is n ∙ in_option (gains e) (is_in n ns) (a n) (waits_for tree (key_of_event e)) (λ w h. found n ∙ ap (waits_in tree (key_of_event e)) h))

still_watched : (e : Event) (w : WaitingValue) (b : Bool) → (cond b (gains e w) w).tree ≡ w.tree
still_watched e w true = refl
still_watched e w false = refl

still_under : (e : Event) (w : WaitingValue) (b : Bool) → (cond b (gains e w) w).prefix ≡ w.prefix
still_under e w true = refl
still_under e w false = refl

pub prepared_listed : (tree : ℕ) (e : Event) (a b : Waitings) (lists : ℕ → Key → List ℕ) → b ≡ prepared tree e a → AreListed a lists → AreListed b lists
prepared_listed tree e a b lists k l = changed_listed (λ n. prepared_in tree e) a b lists (λ n w. still_watched e w (matches tree e (queue_of w))) (λ n w. still_under e w (matches tree e (queue_of w))) (λ n. at_number b (prepared tree e a) n k) l

pub prepared_pending : (e : Event) (ps ns : List ℕ) (a b : Waitings) → ((n : ℕ) → b n ≡ changed_in (gains e) ns a n) → ArePending a ps → ArePending b (ps ++ ns)
prepared_pending e ps ns a b is h = record {
  rest = λ n w there out. let o = sym (list_any-append (nat_eq n) ps ns) ∙ out in
      h.rest n w (sym (ap (λ c. cond c (option_map (gains e) (a n)) (a n)) (right (is_in n ps) (is_in n ns) o)) ∙ sym (is n) ∙ there) (left (is_in n ps) (is_in n ns) o);
}
  where
    left : (a b : Bool) → (a || b) ≡ false → a ≡ false
    left true b e = e
    left false b e = refl

    right : (a b : Bool) → (a || b) ≡ false → b ≡ false
    right true b e = absurd (true≢false e)
    right false b e = e

as_long : (e : Event) (w : WaitingValue) (b : Bool) → waiting w ≤ queue_limit → waiting (cond b (record w { coming = w.coming ++ e ∷ [] }) w) ≤ queue_limit
as_long e w true h = h
as_long e w false h = h

pub prepared_queues : (tree : ℕ) (e : Event) (a b : QueuesValue) → queue_at b ≡ prepared tree e (queue_at a) → b.given ≡ a.given → AreQueues a → AreQueues b
prepared_queues tree e a b k same q = changed_queues (λ n. prepared_in tree e) a b (λ n w there h. as_long e w (matches tree e (queue_of w)) h) (λ n. at_number (queue_at b) (prepared tree e (queue_at a)) n k) same q

-- whether some queue waits for the key
pub watched : (tree : ℕ) (key : Key) (ns : List ℕ) (a : Waitings) → ((n : ℕ) → is_in n ns ≡ waits_in tree key (a n)) → is_watched_as tree key a (has_some ns)
watched tree key [] a found = record { none = λ n w there. sym (found n ∙ ap (waits_in tree key) there) }
watched tree key (n ∷ ns) a found = go (a n) refl (sym (found n) ∙ ap (λ b. b || is_in n ns) (eq-eqb n n refl))
  where
    go : (o : Option WaitingValue) → a n ≡ o → waits_in tree key o ≡ true → IsWatched tree key a
    go None there h = absurd (true≢false (sym h))
    go (Some w) there h = record { subscriber = n; queue = w; there = there; waits = h }

-- what is next in one queue is taken
at_option : {W : Type 0} (f : W → W) (b : Bool) (o : Option W) → cond b (option_map f o) o ≡ option_map (λ w. cond b (f w) w) o
at_option f true None = refl
at_option f true (Some w) = refl
at_option f false None = refl
at_option f false (Some w) = refl

pub takes : (k : ℕ) (a b : Waitings) → ((n : ℕ) → b n ≡ changed_at taken_in k a n) → b ≡ without_next_of k a
takes k a b is = fun_ext (λ n. is n ∙ go n (nat_eq n k) refl)
  where
    go : (n : ℕ) (c : Bool) → nat_eq n k ≡ c → cond c (option_map taken_in (a n)) (a n) ≡ cond c (option_map taken_in (a k)) (a n)
    go n true e = ap (λ m. option_map taken_in (a m)) (eqb-true n k e)
    go n false e = refl

taken_tree : (b : Bool) (w : WaitingValue) → (cond b (taken_in w) w).tree ≡ w.tree
taken_tree true w = refl
taken_tree false w = refl

taken_prefix : (b : Bool) (w : WaitingValue) → (cond b (taken_in w) w).prefix ≡ w.prefix
taken_prefix true w = refl
taken_prefix false w = refl

taken_coming : (b : Bool) (w : WaitingValue) → (cond b (taken_in w) w).coming ≡ w.coming
taken_coming true w = refl
taken_coming false w = refl

pub taken_listed : (k : ℕ) (a b : Waitings) (lists : ℕ → Key → List ℕ) → ((n : ℕ) → b n ≡ changed_at taken_in k a n) → AreListed a lists → AreListed b lists
taken_listed k a b lists is l = changed_listed (λ n w. cond (nat_eq n k) (taken_in w) w) a b lists (λ n w. taken_tree (nat_eq n k) w) (λ n w. taken_prefix (nat_eq n k) w) (λ n. is n ∙ at_option taken_in (nat_eq n k) (a n)) l

pub taken_pending : (k : ℕ) (a b : Waitings) (ps : List ℕ) → ((n : ℕ) → b n ≡ changed_at taken_in k a n) → ArePending a ps → ArePending b ps
taken_pending k a b ps is h = changed_pending (λ n w. cond (nat_eq n k) (taken_in w) w) a b ps (λ n w. taken_coming (nat_eq n k) w) (λ n. is n ∙ at_option taken_in (nat_eq n k) (a n)) h

fewer : {X : Type 0} (xs : List X) → length (drop 1 xs) ≤ length xs
fewer [] = omega arith
fewer (x ∷ xs) = omega arith

taken_shorter : (w : WaitingValue) → waiting (taken_in w) ≤ waiting w
taken_shorter w = go (nat_eq w.backlog.missed 0)
  where
    go : (b : Bool) → length (cond b (record w.backlog { events = drop 1 w.backlog.events }) (record w.backlog { missed = 0 })).events ≤ waiting w
    go true = fewer w.backlog.events
    go false = omega arith

pub taken_queues : (k : ℕ) (a b : QueuesValue) → ((n : ℕ) → queue_at b n ≡ changed_at taken_in k (queue_at a) n) → b.given ≡ a.given → AreQueues a → AreQueues b
taken_queues k a b is same q = changed_queues (λ n w. cond (nat_eq n k) (taken_in w) w) a b (λ n w there h. bounded (nat_eq n k) (taken_in w) w (taken_shorter w) h) (λ n. is n ∙ at_option taken_in (nat_eq n k) (queue_at a n)) same q

-- nothing is changed
pub same_listed : (a b : Waitings) (lists more : ℕ → Key → List ℕ) → ((n : ℕ) → b n ≡ a n) → ((t : ℕ) (p : Key) → more t p ≡ lists t p) → AreListed a lists → AreListed b more
same_listed a b lists more is same l = record {
  listed = λ n t p. ap (is_in n) (same t p) ∙ l.listed n t p ∙ ap (watches t p) (sym (is n));
  once = λ t p. subst Once (sym (same t p)) (l.once t p);
}

pub same_pending : (a b : Waitings) (ps : List ℕ) → ((n : ℕ) → b n ≡ a n) → ArePending a ps → ArePending b ps
same_pending a b ps is h = record { rest = λ n w e out. h.rest n w (sym (is n) ∙ e) out }

pub same_entries : (a b : List (ℕ × WaitingValue)) (given : ℕ) → b ≡ a → (n : ℕ) → queue_at (record { queues = b; given = given }) n ≡ queue_at (record { queues = a; given = given }) n
same_entries a b given e n = ap (λ (es : List (ℕ × WaitingValue)). queue_at (record { queues = es; given = given }) n) e

pub same_queues : (a b : QueuesValue) → ((n : ℕ) → queue_at b n ≡ queue_at a n) → b.given ≡ a.given → AreQueues a → AreQueues b
same_queues a b is same q = record {
  numbered = λ n w e. let h = q.numbered n w (sym (is n) ∙ e) in (h.0, subst (λ k. n ≤ k) (sym same) h.1);
  within = λ n w e. q.within n w (sym (is n) ∙ e);
}

-- a number is put into a list and taken out again
pub put_back : (tree k : ℕ) (prefix : Key) (a : Waitings) (lists more last : ℕ → Key → List ℕ) → a k ≡ None → AreListed a lists
    → ((t : ℕ) (p : Key) → more t p ≡ cond (nat_eq tree t && bytes_eq prefix p) (lists t p ++ k ∷ []) (lists t p))
    → ((t : ℕ) (p : Key) → last t p ≡ cond (nat_eq tree t && bytes_eq prefix p) (without k (more t p)) (more t p)) → (t : ℕ) (p : Key) → last t p ≡ lists t p
put_back tree k prefix a lists more last none l put back t p = back t p ∙ ap (λ x. cond (nat_eq tree t && bytes_eq prefix p) (without k x) x) (put t p) ∙ go (nat_eq tree t && bytes_eq prefix p)
  where
    go : (b : Bool) → cond b (without k (cond b (lists t p ++ k ∷ []) (lists t p))) (cond b (lists t p ++ k ∷ []) (lists t p)) ≡ lists t p
    go true = push_without k (lists t p) (l.listed k t p ∙ ap (watches t p) none)
    go false = refl

-- the same place, by the values that it was named by
pub at_place : (tree was : ℕ) (prefix under : Key) → tree ≡ was → prefix ≡ under → (xs ys : List ℕ) (t : ℕ) (p : Key) → cond (nat_eq tree t && bytes_eq prefix p) xs ys ≡ cond (nat_eq was t && bytes_eq under p) xs ys
at_place tree was prefix under e h xs ys t p = ap (λ k. cond (nat_eq k t && bytes_eq prefix p) xs ys) e ∙ ap (λ q. cond (nat_eq was t && bytes_eq q p) xs ys) h

-- a queue is put at a number, or is gone
put_is : {W : Type 0} (a : ℕ → Option W) (k : ℕ) (o : Option W) (n : ℕ) (w : W) → put_at a k o n ≡ Some w → ((n ≡ k) × (o ≡ Some w)) ⊎ ((n ≢ k) × (a n ≡ Some w))
put_is a k o n w e = go (nat_eq n k) refl e
  where
    go : (b : Bool) → nat_eq n k ≡ b → cond b o (a n) ≡ Some w → ((n ≡ k) × (o ≡ Some w)) ⊎ ((n ≢ k) × (a n ≡ Some w))
    go true h f = inl (eqb-true n k h, f)
    go false h f = inr ((λ s. true≢false (sym (eq-eqb n k s) ∙ h)), f)

in_pushed : (n k : ℕ) (ns : List ℕ) → n ≢ k → is_in n (ns ++ k ∷ []) ≡ is_in n ns
in_pushed n k ns h = list_any-append (nat_eq n) ns (k ∷ []) ∙ ap (λ b. is_in n ns || (b || false)) (ne_eqb n k h) ∙ or_false (is_in n ns)
  where
    or_false : (b : Bool) → (b || (false || false)) ≡ b
    or_false true = refl
    or_false false = refl

pushed_in : (k : ℕ) (ns : List ℕ) → is_in k (ns ++ k ∷ []) ≡ true
pushed_in k ns = list_any-append (nat_eq k) ns (k ∷ []) ∙ ap (λ b. is_in k ns || (b || false)) (eq-eqb k k refl) ∙ or_true (is_in k ns)
  where
    or_true : (b : Bool) → (b || (true || false)) ≡ true
    or_true true = refl
    or_true false = refl

-- a new queue stands in the list of its tree and prefix
pub added_listed : (tree k : ℕ) (prefix : Key) (fresh : WaitingValue) (a b : Waitings) (lists more : ℕ → Key → List ℕ) → fresh.tree ≡ tree → fresh.prefix ≡ prefix → a k ≡ None → ((n : ℕ) → b n ≡ put_at a k (Some fresh) n)
    → ((t : ℕ) (p : Key) → more t p ≡ cond (nat_eq tree t && bytes_eq prefix p) (lists t p ++ k ∷ []) (lists t p)) → AreListed a lists → AreListed b more
added_listed tree k prefix fresh a b lists more of under none is put l = record {
  listed = λ n t p. ap (is_in n) (put t p) ∙ go n t p (nat_eq n k) refl ∙ ap (watches t p) (sym (is n));
  once = λ t p. subst Once (sym (put t p)) (once t p (nat_eq tree t && bytes_eq prefix p));
}
  where
    out : (t : ℕ) (p : Key) → is_in k (lists t p) ≡ false
    out t p = l.listed k t p ∙ ap (watches t p) none

    new : (t : ℕ) (p : Key) (b : Bool) → is_in k (cond b (lists t p ++ k ∷ []) (lists t p)) ≡ b
    new t p true = pushed_in k (lists t p)
    new t p false = out t p

    older : (n t : ℕ) (p : Key) (b : Bool) → n ≢ k → is_in n (cond b (lists t p ++ k ∷ []) (lists t p)) ≡ is_in n (lists t p)
    older n t p true h = in_pushed n k (lists t p) h
    older n t p false h = refl

    go : (n t : ℕ) (p : Key) (c : Bool) → nat_eq n k ≡ c → is_in n (cond (nat_eq tree t && bytes_eq prefix p) (lists t p ++ k ∷ []) (lists t p)) ≡ watches t p (cond c (Some fresh) (a n))
    go n t p true e =
        ap (λ m. is_in m (cond (nat_eq tree t && bytes_eq prefix p) (lists t p ++ k ∷ []) (lists t p))) (eqb-true n k e)
        ∙ new t p (nat_eq tree t && bytes_eq prefix p)
        ∙ ap (λ z. nat_eq z t && bytes_eq prefix p) (sym of) ∙ ap (λ z. nat_eq fresh.tree t && bytes_eq z p) (sym under)
    go n t p false e = older n t p (nat_eq tree t && bytes_eq prefix p) (λ s. true≢false (sym (eq-eqb n k s) ∙ e)) ∙ l.listed n t p

    once : (t : ℕ) (p : Key) (b : Bool) → Once (cond b (lists t p ++ k ∷ []) (lists t p))
    once t p true = push_once k (lists t p) (l.once t p) (out t p)
    once t p false = l.once t p

pub added_pending : (k : ℕ) (fresh : WaitingValue) (a b : Waitings) (ps : List ℕ) → fresh.coming ≡ [] → ((n : ℕ) → b n ≡ put_at a k (Some fresh) n) → ArePending a ps → ArePending b ps
added_pending k fresh a b ps none is h = record { rest = λ n w e out. go n w out (put_is a k (Some fresh) n w (sym (is n) ∙ e)) }
  where
    go : (n : ℕ) (w : WaitingValue) → is_in n ps ≡ false → ((n ≡ k) × (Some fresh ≡ Some w)) ⊎ ((n ≢ k) × (a n ≡ Some w)) → w.coming ≡ []
    go n w out (inl e) = ap (λ (z : WaitingValue). z.coming) (sym (some_is e.1)) ∙ none
    go n w out (inr e) = h.rest n w e.1 out

pub added_queues : (fresh : WaitingValue) (a b : QueuesValue) → waiting fresh ≡ 0 → ((n : ℕ) → queue_at b n ≡ put_at (queue_at a) (a.given + 1) (Some fresh) n) → b.given ≡ a.given + 1 → AreQueues a → AreQueues b
added_queues fresh a b none is same q = record {
  numbered = λ n w e. number n w (put_is (queue_at a) (a.given + 1) (Some fresh) n w (sym (is n) ∙ e));
  within = λ n w e. bound n w (put_is (queue_at a) (a.given + 1) (Some fresh) n w (sym (is n) ∙ e));
}
  where
    number : (n : ℕ) (w : WaitingValue) → ((n ≡ a.given + 1) × (Some fresh ≡ Some w)) ⊎ ((n ≢ a.given + 1) × (queue_at a n ≡ Some w)) → (0 < n) × (n ≤ b.given)
    number n w (inl h) = let e = h.0 in (omega (arith, e), omega (arith, e, same))
    number n w (inr h) = let m = q.numbered n w h.1 in let low = m.0 in let high = m.1 in (low, omega (arith, high, same))

    bound : (n : ℕ) (w : WaitingValue) → ((n ≡ a.given + 1) × (Some fresh ≡ Some w)) ⊎ ((n ≢ a.given + 1) × (queue_at a n ≡ Some w)) → waiting w ≤ queue_limit
    bound n w (inl h) = subst (λ (z : WaitingValue). waiting z ≤ queue_limit) (some_is h.1) (subst (λ k. k ≤ queue_limit) (sym none) (omega arith))
    bound n w (inr h) = q.within n w h.1

pub none_next : (a : QueuesValue) → AreQueues a → queue_at a (a.given + 1) ≡ None
none_next a q = go (queue_at a (a.given + 1)) refl
  where
    go : (o : Option WaitingValue) → queue_at a (a.given + 1) ≡ o → o ≡ None
    go None e = refl
    go (Some w) e = let h = (q.numbered (a.given + 1) w e).1 in absurd (omega (arith, h))

-- a queue that goes leaves its list
pub removed_listed : (k : ℕ) (w : WaitingValue) (a b : Waitings) (lists more : ℕ → Key → List ℕ) → a k ≡ Some w → ((n : ℕ) → b n ≡ put_at a k None n)
    → ((t : ℕ) (p : Key) → more t p ≡ cond (nat_eq w.tree t && bytes_eq w.prefix p) (without k (lists t p)) (lists t p)) → AreListed a lists → AreListed b more
removed_listed k w a b lists more there is out l = record {
  listed = λ n t p. ap (is_in n) (out t p) ∙ go n t p (nat_eq n k) refl ∙ ap (watches t p) (sym (is n));
  once = λ t p. subst Once (sym (out t p)) (once t p (nat_eq w.tree t && bytes_eq w.prefix p));
}
  where
    gone : (t : ℕ) (p : Key) (b : Bool) → is_in k (lists t p) ≡ b → is_in k (cond b (without k (lists t p)) (lists t p)) ≡ false
    gone t p true e = without_gone k (lists t p)
    gone t p false e = e

    others : (n t : ℕ) (p : Key) (b : Bool) → n ≢ k → is_in n (cond b (without k (lists t p)) (lists t p)) ≡ is_in n (lists t p)
    others n t p true h = without_keeps k n (lists t p) h
    others n t p false h = refl

    go : (n t : ℕ) (p : Key) (c : Bool) → nat_eq n k ≡ c → is_in n (cond (nat_eq w.tree t && bytes_eq w.prefix p) (without k (lists t p)) (lists t p)) ≡ watches t p (cond c None (a n))
    go n t p true e =
        ap (λ m. is_in m (cond (nat_eq w.tree t && bytes_eq w.prefix p) (without k (lists t p)) (lists t p))) (eqb-true n k e)
        ∙ gone t p (nat_eq w.tree t && bytes_eq w.prefix p) (l.listed k t p ∙ ap (watches t p) there)
    go n t p false e = others n t p (nat_eq w.tree t && bytes_eq w.prefix p) (λ s. true≢false (sym (eq-eqb n k s) ∙ e)) ∙ l.listed n t p

    once : (t : ℕ) (p : Key) (b : Bool) → Once (cond b (without k (lists t p)) (lists t p))
    once t p true = without_once k (lists t p) (l.once t p)
    once t p false = l.once t p

pub removed_pending : (k : ℕ) (a b : Waitings) (ps : List ℕ) → ((n : ℕ) → b n ≡ put_at a k None n) → ArePending a ps → ArePending b ps
removed_pending k a b ps is h = record { rest = λ n w e out. go n w out (put_is a k None n w (sym (is n) ∙ e)) }
  where
    go : (n : ℕ) (w : WaitingValue) → is_in n ps ≡ false → ((n ≡ k) × (None ≡ Some w)) ⊎ ((n ≢ k) × (a n ≡ Some w)) → w.coming ≡ []
    go n w out (inl e) = none_some e.1
    go n w out (inr e) = h.rest n w e.1 out

pub removed_queues : (k : ℕ) (a b : QueuesValue) → ((n : ℕ) → queue_at b n ≡ put_at (queue_at a) k None n) → b.given ≡ a.given → AreQueues a → AreQueues b
removed_queues k a b is same q = record {
  numbered = λ n w e. let h = q.numbered n w (left n w (put_is (queue_at a) k None n w (sym (is n) ∙ e))) in (h.0, subst (λ k. n ≤ k) (sym same) h.1);
  within = λ n w e. q.within n w (left n w (put_is (queue_at a) k None n w (sym (is n) ∙ e)));
}
  where
    left : (n : ℕ) (w : WaitingValue) → ((n ≡ k) × (None ≡ Some w)) ⊎ ((n ≢ k) × (queue_at a n ≡ Some w)) → queue_at a n ≡ Some w
    left n w (inl h) = none_some h.1
    left n w (inr h) = h.1

-- what the queues become, where the value before is seen as another
pub becomes : (f : Waitings → Waitings) (was old new : QueuesValue) → was ≡ old → queue_at new ≡ f (queue_at was) → new.given ≡ was.given → Becomes (f (queue_at old)) old.given new
becomes f was old new e held count = record { held = held ∙ ap (λ v. f (queue_at v)) e; count = count ∙ ap (λ (v : QueuesValue). v.given) e }
