-- What follows of the state now, and of what a crash may leave, from an action. Clients of a store cite these.
use Rattle.std.proofs.Common.{◌≡◌, ◌≢◌, ℕ, zero, suc, take, true, false, cond, List, [], ◌∷◌, ◌++◌, Option, Some, None, Result, Ok, Err, inl, inr, refl, sym, ap, subst, ◌∙◌, append_assoc, if◌then◌else◌}
use Rattle.std.proofs.lemmas.Bool.{eq-eqb, ne_eqb}
use Rattle.std.proofs.lemmas.Slice.Eq.{bytes_eq-Decides}
use mathlib.Core.Bool.{true≢false}
use Rattle.std.specs.Str.{bytes_eq}
use Rattle.sled_store.specs.In.{In}
use Rattle.sled_nodes.specs.Order.{Key}
use Rattle.sled_store.specs.Update.{put_at, put_name}
use Rattle.sled_nodes.specs.declared.node.Node.{Node}
use Rattle.sled_store.specs.declared.page.Page.{Page}
use Rattle.sled_store.specs.State.{State, Action, PageBecomes, RootBecomes, after, after_all}
use Rattle.sled_store.specs.Store.{Store, now, after_action, ActsAt, Allocates, SwapsRoot, AreGiven}
use Rattle.sled_store.specs.Crash.{left_from, crash_states, IsCrashState, Crashes}

-- the state after actions and one more
pub after_last : (actions : List Action) (a : Action) (s : State) → after_all (actions ++ a ∷ []) s ≡ after a (after_all actions s)
after_last [] a s = refl
after_last (b ∷ actions) a s = after_last actions a (after b s)

-- the state now, after one more action
pub now_acted : (a : Action) (s : Store) → now (after_action a s) ≡ after a (now s)
now_acted a s = after_last s.recent a s.base

-- the same, after an action that gave a version
pub now_acts : (a : Action) (version : ℕ) (old new : Store) → ActsAt a version old new → now new ≡ after a (now old)
now_acts a version old new h = ap now h.is ∙ now_acted a old

-- the state now, after a page was made
pub now_allocates : (node : Node) (pid version : ℕ) (old new : Store) → Allocates node pid version old new → now new ≡ after (PageBecomes pid (Some (record { version = version; node = node }))) (now old)
now_allocates node pid version old new h = ap now h.is ∙ now_acted _ old

-- the state now, after a name's root was swapped
pub now_swaps : (name : Key) (expected proposed : Option ℕ) (done : Unit {0}) (old new : Store) → SwapsRoot name expected proposed old new (Ok done) → now new ≡ after (RootBecomes name proposed) (now old)
now_swaps name expected proposed done old new h = ap now h.is.1 ∙ now_acted _ old

-- a function that was put over at one number, there and elsewhere
pub put_here : {X : Type 0} (f : ℕ → X) (p : ℕ) (a : X) → put_at f p a p ≡ a
put_here f p a = ap (λ b. cond b a (f p)) (eq-eqb p p refl)

pub put_elsewhere : {X : Type 0} (f : ℕ → X) (p q : ℕ) (a : X) → q ≢ p → put_at f p a q ≡ f q
put_elsewhere f p q a h = ap (λ b. cond b a (f q)) (ne_eqb q p h)

-- two names by the test are one, and a name is itself
pub same_name : (q name : Key) → bytes_eq q name ≡ true → q ≡ name
same_name q name = (bytes_eq-Decides q name).0

pub name_itself : (name : Key) → bytes_eq name name ≡ true
name_itself name = (bytes_eq-Decides name name).1 refl

pub other_name : (q name : Key) → q ≢ name → bytes_eq q name ≡ false
other_name q name h = elim (bytes_eq q name) as (λ b. bytes_eq q name ≡ b → bytes_eq q name ≡ false) [ true ↦ λ e. absurd (h (same_name q name e)) | false ↦ λ e. e ] refl

-- a function that was put over at one name, there and elsewhere
pub put_name_here : {X : Type 0} (f : Key → X) (name : Key) (a : X) → put_name f name a name ≡ a
put_name_here f name a = ap (λ b. cond b a (f name)) (name_itself name)

pub put_name_elsewhere : {X : Type 0} (f : Key → X) (name q : Key) (a : X) → q ≢ name → put_name f name a q ≡ f q
put_name_elsewhere f name q a h = ap (λ b. cond b a (f q)) (other_name q name h)

-- the page that was changed
pub page_changed : (pid version : ℕ) (page : Option Page) (old new : Store) → ActsAt (PageBecomes pid page) version old new → (now new).pages pid ≡ page
page_changed pid version page old new h = ap (λ s. s.pages pid) (now_acts _ version old new h) ∙ put_here (now old).pages pid page

-- the states that a crash may leave after actions and one more: those before it, and the last one if no group is open in it
left_step : (s : State) (xs : List State) → (if s.in_group then xs else (s ∷ xs)) ≡ left_from s [] ++ xs
left_step s xs = elim s.in_group as (λ b. cond b xs (s ∷ xs) ≡ cond b [] (s ∷ []) ++ xs) [ true ↦ refl | false ↦ refl ]

pub left_last : (actions : List Action) (a : Action) (s : State) → left_from s (actions ++ a ∷ []) ≡ left_from s actions ++ left_from (after_all (actions ++ a ∷ []) s) []
left_last [] a s = left_step s (left_from (after a s) [])
left_last (b ∷ actions) a s =
    left_step s (left_from (after b s) (actions ++ a ∷ []))
    ∙ (ap (λ r. left_from s [] ++ r) (left_last actions a (after b s))
    ∙ (sym (append_assoc (left_from s []) (left_from (after b s) actions) (left_from (after_all (actions ++ a ∷ []) (after b s)) []))
    ∙ ap (λ r. r ++ left_from (after_all (actions ++ a ∷ []) (after b s)) []) (sym (left_step s (left_from (after b s) actions)))))

left_out : (s : State) → s.in_group ≡ false → left_from s [] ≡ s ∷ []
left_out s e = ap (λ b. cond b [] (s ∷ [])) e

-- if no group is open, the state now is the last that may be left
pub left_end : (actions : List Action) (s : State) → (after_all actions s).in_group ≡ false → (before : List State) × (left_from s actions ≡ before ++ after_all actions s ∷ [])
left_end [] s e = ([], left_out s e)
left_end (a ∷ actions) s e =
    let rest = left_end actions (after a s) e in
    (left_from s [] ++ rest.0, left_step s (left_from (after a s) actions) ∙ (ap (λ r. left_from s [] ++ r) rest.1 ∙ sym (append_assoc (left_from s []) rest.0 (after_all actions (after a s) ∷ []))))

pub now_left : (s : Store) → (now s).in_group ≡ false → (before : List State) × (crash_states s ≡ before ++ now s ∷ [])
now_left s e = left_end s.recent s.base e

-- a crash may leave the state at the last flush
in_first : (actions : List Action) (s : State) → s.in_group ≡ false → In s (left_from s actions)
in_first [] s e = subst (In s) (sym (left_out s e)) (inl refl)
in_first (a ∷ actions) s e = subst (λ b. In s (cond b (left_from (after a s) actions) (s ∷ left_from (after a s) actions))) (sym e) (inl refl)

pub may_leave_base : (s : Store) → s.base.in_group ≡ false → IsCrashState s s.base
may_leave_base s e = record { is = in_first s.recent s.base e }

-- what a crash leaves is a state that it may leave
left_at : (k : ℕ) (actions : List Action) (s : State) → (after_all (take k actions) s).in_group ≡ false → In (after_all (take k actions) s) (left_from s actions)
left_at zero actions s e = in_first actions s e
left_at (suc k) [] s e = in_first [] s e
left_at (suc k) (a ∷ actions) s e =
    let x : State = after_all (take k actions) (after a s) in
    elim s.in_group as (λ b. In x (cond b (left_from (after a s) actions) (s ∷ left_from (after a s) actions))) [
      | true ↦ left_at k actions (after a s) e
      | false ↦ inr (left_at k actions (after a s) e)
    ]

pub may_leave_crashed : (keep : ℕ) (old new : Store) → Crashes keep old new → IsCrashState old new.base
may_leave_crashed keep old new h = record { is = subst (λ (x : State). In x (crash_states old)) (sym (ap (λ (t : Store). t.base) h.is)) (left_at h.kept old.recent old.base h.sealed) }

-- a swap of a root begins and ends no group, and leaves the pages
pub swaps_group : (name : Key) (expected proposed : Option ℕ) (old new : Store) (answer : Result (Unit {0}) (Option ℕ)) → SwapsRoot name expected proposed old new answer → (now new).in_group ≡ (now old).in_group
swaps_group name expected proposed old new (Ok done) h = ap (λ s. s.in_group) (now_swaps name expected proposed done old new h)
swaps_group name expected proposed old new (Err present) h = ap (λ s. (now s).in_group) h.is.0

-- a number that was never given has no page
pub fresh_page : (s : Store) (pid : ℕ) → AreGiven s → s.pids pid ≡ false → (now s).pages pid ≡ None
fresh_page s pid given fresh =
    elim ((now s).pages pid) as (λ o. (now s).pages pid ≡ o → o ≡ None) [ None ↦ λ e. refl | Some page ↦ λ e. absurd (true≢false (sym (given.pid pid page e) ∙ fresh)) ] refl
