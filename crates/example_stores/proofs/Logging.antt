-- What a list of all that was done says, from its end, and of a beginning of it.
use Rattle.std.proofs.Common.{◌≡◌, ◌≢◌, ℕ, zero, suc, ◌+◌, ◌-◌, ◌<◌, ◌≤◌, ◌^◌, Bool, true, false, cond, nat_lt, List, [], ◌∷◌, ◌++◌, length, Option, Some, None, refl, sym, ap, subst, ◌∙◌, take, drop, get_or, set, is_some, arith, slice_get, Result, Ok, Err, IfOk, IfErr}
use Rattle.std.proofs.lemmas.Bool.Decides.{nat_tests}
use Rattle.std.proofs.lemmas.List.{take_more, take_all, drop_all, length-append, length-take-le, take-map, drop-take, take-take, map-append, drop-append-le, take-append-le, length-map, length-drop}
use Rattle.std.proofs.lemmas.Option.{get_or_from_slice_get}
use Rattle.std.specs.Cmp.Lexicographic.{slice_cmp, nat_list_cmp_total}
use Rattle.std.specs.FinMap.Entries.{put, is_sorted}
use Rattle.std.specs.List.{list_all, insert}
use Rattle.std.specs.List.Sorted.{IsBinarySearchResult, IsSearchInRange}
use Rattle.std.specs.Option.{option_map}
use Rattle.std.specs.Ordering.{nat_cmp}
use Rattle.std.specs.Str.{bytes_eq}
use mathlib.Core.Bool.{true≢false}
use Rattle.sled_nodes.proofs.Basics.{first_true, second_true, and_true}
use Rattle.sled_nodes.specs.declared.node.Node.{Node}
use Rattle.sled_store.specs.declared.page.Page.{Page}
use Rattle.sled_store.specs.Crash.{Crashes}
use Rattle.sled_pages.specs.Memory.{empty_store}
use Rattle.sled_nodes.specs.Order.{Key, key_cmp}
use Rattle.sled_store.specs.Roots.{roots_of}
use Rattle.sled_store.specs.Update.{put_at, put_name}
use Rattle.sled_store.specs.State.{State, Action, PageBecomes, after, after_all}
use Rattle.sled_store.specs.Store.{Store, now, after_action, after_flush, version_now, ActsAt, Allocates, IsRoots}
use Rattle.sled_store.specs.theory.Facts.{after_last, put_here, put_elsewhere, put_name_here, put_name_elsewhere, same_name, name_itself}
use Rattle.sled_nodes.proofs.All.{all_push, all_weaker}
use Rattle.sled_pages.proofs.Kept.{next_fresh, next_version}
use Rattle.sled_pages.proofs.Places.{one_place, now_below}
use Rattle.sled_nodes.specs.theory.Rising.{IsHit, IsGap}
use Rattle.sled_nodes.proofs.Rising.{rises_put, searched, hit_stands, gap_goes}
use Rattle.example_stores.specs.declared.log_pages.LogPages.{LogPages}
use Rattle.example_stores.specs.declared.log_pages.Logged.{Logged}
use Rattle.example_stores.specs.declared.log_pages.Logged.TheVariants.{PageBecame, RootBecame, GroupBegan, GroupEnded}
use Rattle.example_stores.specs.Log.{action_of, actions_of, state_after, up_to, below, is_given, IsLog, KeepsMost}
use Rattle.example_stores.specs.LogStore.{meaning, store_of}
use Rattle.example_stores.specs.theory.Laws.{parts, now_is, page_given}

-- after one action more
pub after_push : (log : List Logged) (a : Logged) → state_after (log ++ a ∷ []) ≡ after (action_of a) (state_after log)
after_push log a = ap (λ (x : List Action). after_all x empty_store.base) (map-append action_of log (a ∷ [])) ∙ after_last (actions_of log) (action_of a) empty_store.base

pub step : (log : List Logged) (i : ℕ) (d : Logged) → i < length log → state_after (take (i + 1) log) ≡ after (action_of (get_or log i d)) (state_after (take i log))
step log i d h = ap state_after (take_more log i d h) ∙ after_push (take i log) (get_or log i d)

-- one entry of the list, gone through from its end
module _ (log : List Logged) (i : ℕ) (a : Logged) (h : i < length log) (at : slice_get log (length log - 1 - i) ≡ Some a) where
  ended : state_after (take (length log - i) log) ≡ after (action_of a) (state_after (take (length log - (i + 1)) log))
  ended =
      let next : length log - (i + 1) + 1 ≡ length log - i = omega arith in
      let place : length log - 1 - i ≡ length log - (i + 1) = omega arith in
      ap (λ n. state_after (take n log)) (sym next)
      ∙ (step log (length log - (i + 1)) a (omega arith)
      ∙ ap (λ b. after (action_of b) (state_after (take (length log - (i + 1)) log))) (ap (λ n. get_or log n a) (sym place) ∙ get_or_from_slice_get log (length log - 1 - i) a a at))

  pages_ended : (b : Logged) (pid : ℕ) → a ≡ b → (state_after (take (length log - i) log)).pages pid ≡ (after (action_of b) (state_after (take (length log - (i + 1)) log))).pages pid
  pages_ended b pid e = ap (λ (s : State). s.pages pid) (ended ∙ ap (λ x. after (action_of x) (state_after (take (length log - (i + 1)) log))) e)

  pub page_said : (of pid : ℕ) (page : Option Page) → a ≡ PageBecame of page → of ≡ pid → (state_after (take (length log - i) log)).pages pid ≡ page
  page_said of pid page e o = pages_ended (PageBecame of page) pid e ∙ (ap (λ q. put_at (state_after (take (length log - (i + 1)) log)).pages q page pid) o ∙ put_here (state_after (take (length log - (i + 1)) log)).pages pid page)

  pub page_past : (of pid : ℕ) (page : Option Page) → a ≡ PageBecame of page → of ≢ pid → (state_after (take (length log - (i + 1)) log)).pages pid ≡ (state_after (take (length log - i) log)).pages pid
  page_past of pid page e n = sym (pages_ended (PageBecame of page) pid e ∙ put_elsewhere (state_after (take (length log - (i + 1)) log)).pages of pid page (λ d. n (sym d)))

  pub page_other : (b : Logged) (pid : ℕ) → a ≡ b → ((of : ℕ) (page : Option Page) → b ≡ PageBecame of page → ⊥) → (state_after (take (length log - (i + 1)) log)).pages pid ≡ (state_after (take (length log - i) log)).pages pid
  page_other (PageBecame of page) pid e n = absurd (n of page refl)
  page_other (RootBecame name root) pid e n = sym (pages_ended (RootBecame name root) pid e)
  page_other GroupBegan pid e n = sym (pages_ended GroupBegan pid e)
  page_other GroupEnded pid e n = sym (pages_ended GroupEnded pid e)

  roots_ended : (b : Logged) (name : Key) → a ≡ b → (state_after (take (length log - i) log)).roots name ≡ (after (action_of b) (state_after (take (length log - (i + 1)) log))).roots name
  roots_ended b name e = ap (λ (s : State). s.roots name) (ended ∙ ap (λ x. after (action_of x) (state_after (take (length log - (i + 1)) log))) e)

  pub root_said : (of name : Key) (root : Option ℕ) → a ≡ RootBecame of root → name ≡ of → (state_after (take (length log - i) log)).roots name ≡ root
  root_said of name root e o = roots_ended (RootBecame of root) name e ∙ (ap (λ q. put_name (state_after (take (length log - (i + 1)) log)).roots q root name) (sym o) ∙ put_name_here (state_after (take (length log - (i + 1)) log)).roots name root)

  pub root_past : (of name : Key) (root : Option ℕ) → a ≡ RootBecame of root → name ≢ of → (state_after (take (length log - (i + 1)) log)).roots name ≡ (state_after (take (length log - i) log)).roots name
  root_past of name root e n = sym (roots_ended (RootBecame of root) name e ∙ put_name_elsewhere (state_after (take (length log - (i + 1)) log)).roots of name root n)

  pub root_other : (b : Logged) (name : Key) → a ≡ b → ((of : Key) (root : Option ℕ) → b ≡ RootBecame of root → ⊥) → (state_after (take (length log - (i + 1)) log)).roots name ≡ (state_after (take (length log - i) log)).roots name
  root_other (RootBecame of root) name e n = absurd (n of root refl)
  root_other (PageBecame of page) name e n = sym (roots_ended (PageBecame of page) name e)
  root_other GroupBegan name e n = sym (roots_ended GroupBegan name e)
  root_other GroupEnded name e n = sym (roots_ended GroupEnded name e)

  group_ended : (b : Logged) → a ≡ b → (state_after (take (length log - i) log)).in_group ≡ (after (action_of b) (state_after (take (length log - (i + 1)) log))).in_group
  group_ended b e = ap (λ (s : State). s.in_group) (ended ∙ ap (λ x. after (action_of x) (state_after (take (length log - (i + 1)) log))) e)

  pub group_begun : a ≡ GroupBegan → (state_after (take (length log - i) log)).in_group ≡ true
  group_begun e = group_ended GroupBegan e

  pub group_over : a ≡ GroupEnded → (state_after (take (length log - i) log)).in_group ≡ false
  group_over e = group_ended GroupEnded e

  pub group_other : (b : Logged) → a ≡ b → (b ≡ GroupBegan → ⊥) → (b ≡ GroupEnded → ⊥) → (state_after (take (length log - (i + 1)) log)).in_group ≡ (state_after (take (length log - i) log)).in_group
  group_other (PageBecame of page) e n m = sym (group_ended (PageBecame of page) e)
  group_other (RootBecame of root) e n m = sym (group_ended (RootBecame of root) e)
  group_other GroupBegan e n m = absurd (n refl)
  group_other GroupEnded e n m = absurd (m refl)

-- two names by the test
pub same_text : (a b c : Key) → bytes_eq a b ≡ true → b ≡ c → a ≡ c
same_text a b c e d = same_name a b e ∙ d

pub other_text : (a b c : Key) → bytes_eq a b ≡ false → b ≡ c → a ≢ c
other_text a b c e d k = true≢false (sym (name_itself a) ∙ (ap (bytes_eq a) (k ∙ sym d) ∙ e))

-- one action more that is written
pub writes : (log log' : List Logged) (a : Logged) (flushed n last last' next next' f mk : ℕ) (rc : Bool) → flushed ≤ length log → log' ≡ log ++ a ∷ [] →
    meaning log' flushed (n + 1) last' next' f mk rc ≡ record (after_action (action_of a) (meaning log flushed n last next f mk rc)) { pids = up_to last'; versions = below next' }
writes log log' a flushed n last last' next next' f mk rc h l = rw l (
    ap (λ (b : List Logged). record (meaning (log ++ a ∷ []) flushed (n + 1) last' next' f mk rc) { base = state_after b }) (take-append-le flushed log (a ∷ []) h)
    ∙ ap (λ (r : List Action). record (meaning (log ++ a ∷ []) flushed (n + 1) last' next' f mk rc) { base = state_after (take flushed log); recent = r })
    (ap actions_of (drop-append-le flushed log (a ∷ []) h) ∙ map-append action_of (drop flushed log) (a ∷ [])))

up_later : (last last' p : ℕ) → last ≤ last' → up_to last p ≡ true → up_to last' p ≡ true
up_later last last' p h e = grind (arith, nat_tests)

below_later : (next next' v : ℕ) → next ≤ next' → below next v ≡ true → below next' v ≡ true
below_later next next' v h e = grind (arith, nat_tests)

given_later : (last last' next next' : ℕ) → last ≤ last' → next ≤ next' → (a : Logged) → is_given last next a ≡ true → is_given last' next' a ≡ true
given_later last last' next next' h k (PageBecame pid (Some page)) e =
    and_true (up_to last' pid) _ (up_later last last' pid h (first_true _ _ e)) (below_later next next' page.version k (second_true (up_to last pid) _ e))
given_later last last' next next' h k (PageBecame pid None) e = refl
given_later last last' next next' h k (RootBecame name root) e = refl
given_later last last' next next' h k GroupBegan e = refl
given_later last last' next next' h k GroupEnded e = refl

pub written : (log log' : List Logged) (a : Logged) (flushed last last' next next' : ℕ) → log' ≡ log ++ a ∷ [] → is_given last' next' a ≡ true → last ≤ last' → next ≤ next' → last' < 2 ^ 64 → IsLog log flushed last next → IsLog log' flushed last' next'
written log log' a flushed last last' next next' l e h k n kept = rw l (record {
  within = let w = kept.within in omega (arith, length-append log (a ∷ []));
  sealed = ap (λ (b : List Logged). (state_after b).in_group) (take-append-le flushed log (a ∷ []) kept.within) ∙ kept.sealed;
  given = all_push (is_given last' next') log a (all_weaker (is_given last next) (is_given last' next') (given_later last last' next next' h k) log kept.given) e;
  numbered = n;
})

-- a page that is there has a number that was given, and a new version of it one more
pub there : (m : LogPages) (pid : ℕ) → is_some ((now (store_of m)).pages pid) ≡ true → up_to m.last_pid pid ≡ true
there m pid h =
    elim ((now (store_of m)).pages pid) as (λ o. (now (store_of m)).pages pid ≡ o → is_some o ≡ true → up_to m.last_pid pid ≡ true) [
      | None ↦ λ e k. cc
      | Some page ↦ λ e k. first_true _ _ (page_given m pid page e)
    ] refl h

pub change_given : (m : LogPages) (pid version : ℕ) (node : Node) → is_some ((now (store_of m)).pages pid) ≡ true → version ≡ m.next_version →
    is_given m.last_pid (m.next_version + 1) (PageBecame pid (Some (record { version = version; node = node }))) ≡ true
change_given m pid version node h e = and_true (up_to m.last_pid pid) _ (there m pid h) (ap (λ v. nat_lt v (m.next_version + 1)) e ∙ now_below m.next_version)

pub acts : (a : Action) (m : LogPages) (new : Store) → new ≡ record (after_action a (store_of m)) { pids = up_to m.last_pid; versions = below (m.next_version + 1) } → ActsAt a m.next_version (store_of m) new
acts a m new e = record {
  fresh = next_fresh m.next_version;
  is = e ∙ ap (λ (f : ℕ → Bool). record (after_action a (store_of m)) { versions = f }) (next_version m.next_version);
}

next_up : (n : ℕ) → up_to (n + 1) (n + 1) ≡ true
next_up n = grind (arith, nat_tests)

other_up : (n q : ℕ) → (q ≡ n + 1 → ⊥) → up_to (n + 1) q ≡ up_to n q
other_up n q h = grind (arith, nat_tests)

up_more : (n : ℕ) → up_to (n + 1) ≡ put_at (up_to n) (n + 1) true
up_more n = one_place (up_to (n + 1)) (up_to n) (n + 1) true (next_up n) (other_up n)

fresh_up : (n : ℕ) → up_to n (n + 1) ≡ false
fresh_up n = grind (arith, nat_tests)

pub new_given : (last next : ℕ) (node : Node) → is_given (last + 1) (next + 1) (PageBecame (last + 1) (Some (record { version = next; node = node }))) ≡ true
new_given last next node = and_true (up_to (last + 1) (last + 1)) _ (next_up last) (now_below next)

pub allocates : (node : Node) (m : LogPages) (new : Store) →
    new ≡ record (after_action (PageBecomes (m.last_pid + 1) (Some (record { version = m.next_version; node = node }))) (store_of m)) { pids = up_to (m.last_pid + 1); versions = below (m.next_version + 1) } →
    Allocates node (m.last_pid + 1) m.next_version (store_of m) new
allocates node m new e = record {
  positive = omega arith;
  fresh_pid = fresh_up m.last_pid;
  fresh = next_fresh m.next_version;
  is = let b : Store = after_action (PageBecomes (m.last_pid + 1) (Some (record { version = m.next_version; node = node }))) (store_of m) in
      e ∙ (ap (λ (f : ℕ → Bool). record b { pids = f; versions = below (m.next_version + 1) }) (up_more m.last_pid)
      ∙ ap (λ (f : ℕ → Bool). record b { pids = put_at (up_to m.last_pid) (m.last_pid + 1) true; versions = f }) (next_version m.next_version));
}

-- a flush
pub flushes : (m : LogPages) (flushed : ℕ) → flushed ≡ length m.log.items → meaning m.log.items flushed m.actions m.last_pid m.next_version m.faults m.mark m.recovered ≡ after_flush (store_of m)
flushes m flushed e = rw e (
    ap (λ (b : State). record (after_flush (store_of m)) { base = b; recent = actions_of (drop (length m.log.items) m.log.items) }) (ap state_after (take_all (length m.log.items) m.log.items (omega arith)) ∙ sym (now_is m))
    ∙ ap (λ (r : List Logged). record (after_flush (store_of m)) { recent = actions_of r }) (drop_all (length m.log.items) m.log.items (omega arith)))

pub flush_keeps : (m : LogPages) (flushed : ℕ) → flushed ≡ length m.log.items → (now (store_of m)).in_group ≡ false → IsLog m.log.items flushed m.last_pid m.next_version
flush_keeps m flushed e h = record {
  within = omega arith;
  sealed = ap (λ (s : State). s.in_group) (ap state_after (take_all flushed m.log.items (omega arith)) ∙ sym (now_is m)) ∙ h;
  given = m.kept.given;
  numbered = m.kept.numbered;
}

-- how many are recent
pub count_recent : (m : LogPages) → length (store_of m).recent ≡ length m.log.items - m.flushed
count_recent m = length-map (drop m.flushed m.log.items) action_of ∙ length-drop m.flushed m.log.items

-- some of the recent ones, after the base
part : (flushed kept : ℕ) (log : List Logged) → after_all (take kept (actions_of (drop flushed log))) (state_after (take flushed log)) ≡ state_after (take (flushed + kept) log)
part flushed kept log =
    ap (λ (x : List Action). after_all x (state_after (take flushed log))) (take-map action_of kept (drop flushed log) ∙ ap actions_of (sym (drop-take flushed kept log)))
    ∙ (ap (λ (x : List Logged). after_all (actions_of (drop flushed (take (flushed + kept) log))) (state_after x)) (sym (take-take flushed (flushed + kept) log (omega arith)))
    ∙ parts flushed (take (flushed + kept) log) empty_store.base)

all_taken : {X : Type 0} (p : X → Bool) (n : ℕ) (xs : List X) → list_all p xs ≡ true → list_all p (take n xs) ≡ true
all_taken p zero xs e = refl
all_taken p (suc n) [] e = refl
all_taken p (suc n) (x ∷ xs) e = and_true (p x) _ (first_true _ _ e) (all_taken p n xs (second_true (p x) _ e))

-- what is left of a list after a crash is one
pub crash_keeps : (m : LogPages) (log : List Logged) (keep kept : ℕ) → log ≡ take (m.flushed + kept) m.log.items → KeepsMost keep m.flushed m.log.items kept → IsLog log (m.flushed + kept) m.last_pid m.next_version
crash_keeps m log keep kept l h = rw l (record {
  within = let w = h.within in omega (arith, length-take-le (m.flushed + kept) m.log.items w);
  sealed = ap (λ (x : List Logged). (state_after x).in_group) (take-take (m.flushed + kept) (m.flushed + kept) m.log.items (omega arith)) ∙ h.sealed;
  given = all_taken (is_given m.last_pid m.next_version) (m.flushed + kept) m.log.items m.kept.given;
  numbered = m.kept.numbered;
})

pub crashes : (m : LogPages) (log : List Logged) (keep kept : ℕ) → log ≡ take (m.flushed + kept) m.log.items → KeepsMost keep m.flushed m.log.items kept →
    Crashes keep (store_of m) (meaning log (m.flushed + kept) m.actions m.last_pid m.next_version 0 m.mark true)
crashes m log keep kept l h =
    let count = count_recent m in
    let within = h.within in
    let old : Store = store_of m in
    let crashed : State → List Action → Store = λ b r. record old { base = b; recent = r; faults = 0; is_readable = λ _. true; recovered = true } in
    record {
      kept = kept;
      at_most = h.at_most;
      within = omega arith;
      sealed = ap (λ (s : State). s.in_group) (part m.flushed kept m.log.items) ∙ h.sealed;
      most = λ j a b c. ap (λ (s : State). s.in_group) (part m.flushed j m.log.items) ∙ h.most j a b (omega arith);
      is = rw l (ap (λ (b : State). crashed b (actions_of (drop (m.flushed + kept) (take (m.flushed + kept) m.log.items)))) (ap state_after (take-take (m.flushed + kept) (m.flushed + kept) m.log.items (omega arith)) ∙ sym (part m.flushed kept m.log.items))
          ∙ ap (λ (x : List Logged). crashed (after_all (take kept old.recent) old.base) (actions_of x)) (drop_all (m.flushed + kept) (take (m.flushed + kept) m.log.items) (omega (arith, length-take-le (m.flushed + kept) m.log.items within))));
    }

-- roots stay in order
pub put_ascends : (name : Key) (pid : ℕ) (roots new : List (Key × ℕ)) → new ≡ put (slice_cmp nat_cmp) name pid roots → is_sorted key_cmp roots ≡ true → is_sorted key_cmp new ≡ true
unfolding key_cmp
put_ascends name pid roots new e h = ap (is_sorted (slice_cmp nat_cmp)) e ∙ rises_put (slice_cmp nat_cmp) nat_list_cmp_total name pid roots h

-- the state now is what the whole list comes to
pub same_now : (m : LogPages) (log : List Logged) → log ≡ m.log.items → state_after log ≡ now (store_of m)
same_now m log e = ap state_after e ∙ sym (now_is m)

pub page_here : (m : LogPages) (log : List Logged) (pid : ℕ) (found page : Option Page) → log ≡ m.log.items → found ≡ (state_after log).pages pid → found ≡ page → (now (store_of m)).pages pid ≡ page
page_here m log pid found page e is f = ap (λ (s : State). s.pages pid) (sym (same_now m log e)) ∙ (sym is ∙ f)

pub version_here : (m : LogPages) (pid : ℕ) (page : Option Page) → (now (store_of m)).pages pid ≡ page → option_map (λ (p : Page). p.version) page ≡ version_now (store_of m) pid
version_here m pid page e = sym (ap (option_map (λ (p : Page). p.version)) e)

-- a root in the place that was found
module _ (name : Key) (pid : ℕ) (roots slice : List (Key × ℕ)) (r : Result ℕ ℕ) (same : slice ≡ roots) (ascends : is_sorted (slice_cmp nat_cmp) roots ≡ true)
    (bound : IsSearchInRange r (length slice)) (found : IsBinarySearchResult (λ e. slice_cmp nat_cmp e.0 name) slice r) where
  pub root_at : (i : ℕ) (p : Key × ℕ) → r ≡ Ok i → p ≡ get_or roots i p → set roots i (p.0, pid) ≡ put (slice_cmp nat_cmp) name pid roots
  root_at i p is read =
      let hit : IfOk r (IsHit (slice_cmp nat_cmp) name slice) = (searched (slice_cmp nat_cmp) nat_list_cmp_total name slice (rw same ascends) r bound found).ok in
      let here : IsHit (slice_cmp nat_cmp) name roots i = subst (λ xs. IsHit (slice_cmp nat_cmp) name xs i) same (subst (λ q. IfOk q (IsHit (slice_cmp nat_cmp) name slice)) is hit) in
      ap (λ k. set roots i (k, pid)) (ap (λ (q : Key × ℕ). q.0) read) ∙ (hit_stands (slice_cmp nat_cmp) name roots i here).put_is pid p

  pub root_before : (i : ℕ) → r ≡ Err i → insert roots i (name, pid) ≡ put (slice_cmp nat_cmp) name pid roots
  root_before i is =
      let gap : IfErr r (IsGap (slice_cmp nat_cmp) name slice) = (searched (slice_cmp nat_cmp) nat_list_cmp_total name slice (rw same ascends) r bound found).err in
      let here : IsGap (slice_cmp nat_cmp) name roots i = subst (λ xs. IsGap (slice_cmp nat_cmp) name xs i) same (subst (λ q. IfErr q (IsGap (slice_cmp nat_cmp) name slice)) is gap) in
      (gap_goes (slice_cmp nat_cmp) name roots i here).put_is pid

-- one entry of the list, gone through from its front
module _ (log : List Logged) (i : ℕ) (a : Logged) (h : i < length log) (at : a ≡ get_or log i a) (f g : Key → Option ℕ) (so_far : (name : Key) → (state_after (take i log)).roots name ≡ f name) where
  begun : (b : Logged) → a ≡ b → (name : Key) → (state_after (take (i + 1) log)).roots name ≡ (after (action_of b) (state_after (take i log))).roots name
  begun b e name = ap (λ (s : State). s.roots name) (step log i a h ∙ ap (λ x. after (action_of x) (state_after (take i log))) (sym at ∙ e))

  pub root_listed : (of : Key) (root : Option ℕ) → a ≡ RootBecame of root → g ≡ put_name f of root → (name : Key) → (state_after (take (i + 1) log)).roots name ≡ g name
  root_listed of root e is name = begun (RootBecame of root) e name ∙ (ap (λ x. cond (bytes_eq name of) root x) (so_far name) ∙ ap (λ (k : Key → Option ℕ). k name) (sym is))

  pub root_kept : (b : Logged) → a ≡ b → ((of : Key) (root : Option ℕ) → b ≡ RootBecame of root → ⊥) → g ≡ f → (name : Key) → (state_after (take (i + 1) log)).roots name ≡ g name
  root_kept (RootBecame of root) e n is name = absurd (n of root refl)
  root_kept (PageBecame of page) e n is name = begun (PageBecame of page) e name ∙ (so_far name ∙ ap (λ (k : Key → Option ℕ). k name) (sym is))
  root_kept GroupBegan e n is name = begun GroupBegan e name ∙ (so_far name ∙ ap (λ (k : Key → Option ℕ). k name) (sym is))
  root_kept GroupEnded e n is name = begun GroupEnded e name ∙ (so_far name ∙ ap (λ (k : Key → Option ℕ). k name) (sym is))

pub all_listed : (m : LogPages) (log : List Logged) (i : ℕ) (roots : List (Key × ℕ)) → log ≡ m.log.items → length log ≤ i → is_sorted key_cmp roots ≡ true → ((name : Key) → (state_after (take i log)).roots name ≡ roots_of roots name) → IsRoots (now (store_of m)) roots
all_listed m log i roots e h ascends is = record {
  ascends = ascends;
  is = λ name. ap (λ (s : State). s.roots name) (sym (same_now m log e) ∙ ap state_after (sym (take_all i log h))) ∙ is name;
}
