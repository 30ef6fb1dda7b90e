-- A step of a call in flight, stage by stage.
use Rattle.std.proofs.Common.{◌≡◌, ℕ, ◌+◌, ◌≤◌, Bool, false, Option, Some, None, Result, Ok, Err, MatchOption, sym, refl, ap, ◌∙◌, subst, inl, inr, ◌⊎◌, arith}
use Rattle.std.specs.declared.ops.Bound.{Bound}
use Rattle.sled_nodes.proofs.Basics.{true_false}
use Rattle.sled_nodes.specs.Node.{count, after_link}
use Rattle.sled_nodes.specs.Order.{Key}
use Rattle.sled_nodes.specs.declared.error.Error.{Error}
use Rattle.sled_nodes.specs.declared.error.Error.TheVariants.{NoMemory, Io}
use Rattle.sled_nodes.specs.declared.link.Link.{Link}
use Rattle.sled_nodes.specs.declared.link.Link.TheVariants.{Set, Del}
use Rattle.sled_nodes.specs.declared.node.Node.{Node}
use Rattle.sled_store.specs.In.{In}
use Rattle.sled_store.specs.State.{State, nodes_of, PageBecomes, RootBecomes, after}
use Rattle.sled_store.specs.Store.{Store, now, IsRefused, is_refused_as, swaps_as, frees_as}
use Rattle.sled_store.specs.theory.Facts.{now_acted, now_acts, now_allocates}
use Rattle.sled_store.specs.declared.page.View.{View}
use Rattle.sled_model.specs.declared.decision.Effect.{Effect}
use Rattle.sled_model.specs.declared.decision.Effect.TheVariants as effect
use Rattle.tree_laws.specs.Forest.{Tree, Forest, Place}
use Rattle.tree_laws.specs.Snapshot.{Snapshot, HasForest, snapshot_of, IsActing}
use Rattle.tree_laws.proofs.Known.{as_page}
use Rattle.tree_laws.specs.Stages.{IsStage}
use Rattle.tree_laws.specs.declared.flight.Stage.{Stage}
use Rattle.tree_laws.specs.declared.flight.Stage.TheVariants as stage
use Rattle.sled_model.specs.Answer.{key_of}
use Rattle.sled_model.specs.Maps.{Merge as Operator}
use Rattle.sled_tree.specs.Change.{link_of, decision_at}
use Rattle.sled_tree.specs.Course.{Course}
use Rattle.sled_tree.specs.Follows.{TakesWay, OrRefused, links_by, follows_as, follows_split}
use Rattle.sled_tree.specs.declared.flight.Sequel.{Sequel}
use Rattle.sled_tree.specs.declared.flight.Sequel.TheVariants.{Go, Decided}
use Rattle.tree_progress.specs.ToDo.{to_do}
use Rattle.tree_progress.specs.Laws.{Lowers, Raises, Intends}
use Rattle.tree_progress.specs.Steps.{Leaves, HasHalves, weighs_as, StepLaw}
use Rattle.tree_progress.proofs.Capping.{cap_lowers}
use Rattle.tree_progress.proofs.Confirming.{confirm_lowers}
use Rattle.tree_progress.proofs.Hoisting.{swap_lowers}
use Rattle.tree_progress.proofs.Intending.{intend_lowers}
use Rattle.tree_progress.proofs.Linking.{link_raises}
use Rattle.tree_progress.proofs.Posting.{post_lowers}
use Rattle.tree_progress.proofs.Receiving.{receiving_lowers}
use Rattle.tree_progress.proofs.Splitting.{install_lowers}
use Rattle.tree_progress.proofs.Staying.{stray_stays}

-- the pages and the roots are the same
stays : (a b : State) → b ≡ a → Leaves a b
stays a b e u = ap (λ s. to_do s u) e

pub refused_now : (e : Error) (old new : Store) → IsRefused e old new → now new ≡ now old
refused_now e old new k = go e k.is
  where
    go : (e : Error) → is_refused_as e old new → now new ≡ now old
    go NoMemory r = ap now r
    go (Io fault) r = ap now r
    go other r = absurd r

-- less is left by as much, and so by 1
one_at_least : (a b : State) (t : Tree) (by : ℕ) → 1 ≤ by → Lowers a b t by → Lowers a b t 1
one_at_least a b t by l k = record { here = less _ _ k.here; pages = k.pages; others = k.others }
  where
    less : (x y : ℕ) → x + by ≤ y → x + 1 ≤ y
    less x y u = omega arith

-- a change that was made, or came too late
taken : {change : Node → Node} {pid version : ℕ} {old new : Store} {next : Sequel} {took : ℕ → Sequel} {late : Option ℕ → Sequel} → TakesWay change pid version old new next took late
    → (now new ≡ now old) ⊎ ((given : ℕ) × (node : Node) × ((now old).pages pid ≡ Some (record { version = version; node = node })) × (now new ≡ after (PageBecomes pid (Some (record { version = given; node = change node }))) (now old)))
taken {change} {pid} {version} {old} {new} (inl k) = inr (k.0, k.1.is.0, k.1.is.1, now_acts (PageBecomes pid (Some (record { version = k.0; node = change k.1.is.0 }))) k.0 old new k.1.is.2)
taken (inr k) = inl (ap now k.1.is.0)

-- what a change that was made lowers
changed : {change : Node → Node} {pid version : ℕ} {old new : Store} {next : Sequel} {took : ℕ → Sequel} {late : Option ℕ → Sequel} (t : Tree) (by : ℕ) → 1 ≤ by
    → ((given : ℕ) (node : Node) → (now old).pages pid ≡ Some (record { version = version; node = node }) → Lowers (now old) (after (PageBecomes pid (Some (record { version = given; node = change node }))) (now old)) t by)
    → TakesWay change pid version old new next took late → Leaves (now old) (now new) ⊎ Lowers (now old) (now new) t 1
changed {change} {pid} {version} {old} {new} t by l law k = elim (taken k) [
  | inl e ↦ inl (stays (now old) (now new) e)
  | inr a ↦ inr (one_at_least (now old) (now new) t by l (subst (λ (z : State). Lowers (now old) z t by) (sym a.3) (law a.0 a.1 a.2)))
]

-- .. unless the store refused it
or_refused : {old new : Store} {next : Sequel} {comes : Type 0} (t : Tree) → (comes → Leaves (now old) (now new) ⊎ Lowers (now old) (now new) t 1) → OrRefused old new next comes → Leaves (now old) (now new) ⊎ Lowers (now old) (now new) t 1
or_refused {old} {new} t law (inl k) = law k
or_refused {old} {new} t law (inr k) = inl (stays (now old) (now new) (refused_now k.0 old new k.2))

one : (1 ≤ 1) × (1 ≤ 3) × (1 ≤ 4)
one = (omega arith, omega arith, omega arith)

-- a page number that was never given is in no chain
pub fresh_out : {m : Snapshot} {w : Forest} → HasForest m w → (q : ℕ) → m.pids q ≡ false → (x : Place) → ¬ (In q (w.chain x))
fresh_out {m} {w} is q fresh x i =
    let b = is.formed.page x q (is.formed.homed x q i) in
    let g = as_page m q b.0 b.1.live in
    true_false (sym (is.pids q g.0 g.1) ∙ fresh)

still : {a b : State} {t : Tree} (by : ℕ) → Leaves a b → Raises a b t by
still {a} {b} {t} by l = record { here = same _ _ (l t); others = λ u off. l u }
  where
    same : (x y : ℕ) → x ≡ y → x ≤ y + by
    same x y e = omega arith

-- the link of a change, by what the call comes to at its leaf
linked : (j : Course) (old new : Store) (next : Sequel) {w : Forest} {number : ℕ} {aim : Bound Key} (numbers : Tree → Option ℕ) (given : ℕ → Bool) → HasForest (snapshot_of old numbers given) w → numbers j.tree.name ≡ Some number → (v : View) → IsActing (snapshot_of old numbers given) w j.tree.name number aim v
    → (operator : Option Operator) → links_by operator j old new v next → Raises (now old) (now new) j.tree.name 2
linked j old new next {w} {number} {aim} numbers given is named v k operator x = go (next ≡ Go stage.Root) (λ _. Decided (decision_at operator j.call v.node.content).reply) (λ _. Go stage.Root) (decision_at operator j.call v.node.content).effect (key_of j.call) x
  where
    more : {a b : State} {t : Tree} → Raises a b t 1 → Raises a b t 2
    more {a} {b} {t} r = record { here = up _ _ r.here; others = r.others }
      where
        up : (x y : ℕ) → x ≤ y + 1 → x ≤ y + 2
        up x y l = omega arith

    by_link : (link : Link) {took : ℕ → Sequel} {late : Option ℕ → Sequel} → ((version : ℕ) (node : Node) → (now old).pages v.pid ≡ Some (record { version = v.version; node = node }) → Raises (now old) (after (PageBecomes v.pid (Some (record { version = version; node = after_link link node }))) (now old)) j.tree.name 2)
        → TakesWay (after_link link) v.pid v.version old new next took late → Raises (now old) (now new) j.tree.name 2
    by_link link law y = elim (taken y) [
      | inl e ↦ still 2 (stays (now old) (now new) e)
      | inr a ↦ subst (λ (z : State). Raises (now old) z j.tree.name 2) (sym a.3) (law a.0 a.1 a.2)
    ]

    go : (none : Type 0) (took : ℕ → Sequel) (late : Option ℕ → Sequel) (e : Effect) (key : Key) → MatchOption (link_of e key) ((new ≡ old) × none) (λ link. TakesWay (after_link link) v.pid v.version old new next took late) → Raises (now old) (now new) j.tree.name 2
    go none took late effect.Nothing key y = still 2 (stays (now old) (now new) (ap now y.0))
    go none took late (effect.Set value) key y = by_link (Set key value) (λ version node page. more ((link_raises (snapshot_of old numbers given) w j.tree.name number aim v node key version is named k page).sets value)) y
    go none took late effect.Remove key y = by_link (Del key) (λ version node page. (link_raises (snapshot_of old numbers given) w j.tree.name number aim v node key version is named k page).removes) y

pub step_law : StepLaw
step_law j old new numbers given w number at next is named k halves follows = record { is = go at k halves follows.is }
  where
    go : (a : Stage) → IsStage (snapshot_of old numbers given) w j.tree.name number j.aim a → HasHalves (nodes_of (now old)) a → follows_as j old a next new → weighs_as (nodes_of (now old)) a (now old) (now new) j.tree.name
    go stage.Root k h x = inl (stays (now old) (now new) (ap now x.0))
    go (stage.Walk a) k h x = inl (stays (now old) (now new) (ap now x.0))
    go (stage.Child a) k h x = inl (stays (now old) (now new) (ap now x.0))
    go (stage.Seek a) k h x = inl (stays (now old) (now new) (ap now x.0))
    go (stage.Give a) k h x = absurd x
    go (stage.Act v) k h x = elim x [
      | inl y ↦ linked j old new next numbers given is named v k.0 y.operator y.is
      | inr y ↦ still 2 (stays (now old) (now new) (refused_now y.0 old new y.2))
    ]
    go (stage.Split a) k h x = or_refused j.tree.name split x
      where
        split : follows_split old new a next → Leaves (now old) (now new) ⊎ Lowers (now old) (now new) j.tree.name 1
        split (inl y) = inl (made (now_allocates _ y.1.right y.1.version old new y.1.made) (stray_stays (now old) w is.formed is.below y.1.right _ (fresh_out is y.1.right y.1.made.fresh_pid)))
          where
            made : {s : State} → now new ≡ s → Leaves (now old) s → Leaves (now old) (now new)
            made e l u = ap (λ z. to_do z u) e ∙ l u
        split (inr y) = inl (stays (now old) (now new) (ap now y.1.0))
    go (stage.InstallLeft a) k h x = or_refused j.tree.name (changed j.tree.name 3 one.1 (λ v node page. install_lowers (snapshot_of old numbers given) w j.tree.name number a node v is named k page h.0 h.1 h.2)) x
    go (stage.Post a) k h x = or_refused j.tree.name (λ y. elim y [
      | inl z ↦ changed j.tree.name 3 one.1 (λ v node page. post_lowers (snapshot_of old numbers given) w j.tree.name number a node v is named k page z.0) z.1
      | inr z ↦ inl (stays (now old) (now new) (ap now z.1.0))
    ]) x
    go (stage.Hoist a) k h x = or_refused j.tree.name (λ y. inl (λ u. ap (λ z. to_do z u) (now_allocates y.node y.root y.version old new y.made) ∙ stray_stays (now old) w is.formed is.below y.root _ (fresh_out is y.root y.made.fresh_pid) u)) x
    go (stage.SwapRoot a) k h x = or_refused j.tree.name (λ y. swap y.answer y.swaps.is) x
      where
        swap : (answer : Result (Unit {0}) (Option ℕ)) → swaps_as j.tree.name (Some a.old) (Some a.new) old new answer → Leaves (now old) (now new) ⊎ Lowers (now old) (now new) j.tree.name 1
        swap (Ok done) y = inr (subst (λ (z : State). Lowers (now old) z j.tree.name 1) (sym (ap now y.1 ∙ now_acted (RootBecomes j.tree.name (Some a.new)) old)) (one_at_least (now old) _ j.tree.name 4 one.2 (swap_lowers (snapshot_of old numbers given) w j.tree.name number a is named y.0 k)))
        swap (Err present) y = inl (stays (now old) (now new) (ap now y.0))
    go (stage.Free a) k h x = or_refused j.tree.name (λ y. free y.answer y.frees.is) x
      where
        free : (answer : Result (Unit {0}) (Option ℕ)) → frees_as a.pid a.version old new answer → Leaves (now old) (now new) ⊎ Lowers (now old) (now new) j.tree.name 1
        free (Ok done) y = inl (λ u. ap (λ z. to_do z u) (ap now y.1 ∙ now_acted (PageBecomes a.pid None) old) ∙ stray_stays (now old) w is.formed is.below a.pid None (λ z i. k.own.stray z (is.formed.homed z a.pid i)) u)
        free (Err present) y = inl (stays (now old) (now new) (ap now y.0))
    go (stage.Intend a) k h x = elim x [
      | inl y ↦ elim (taken y) [
        | inl e ↦ inl (stays (now old) (now new) e)
        | inr b ↦
            let u = k.under named (record { page = record { version = a.parent.version; node = b.1 }; live = b.2; same = refl }) in
            inr (u.node, u.live, subst (λ (z : State). Intends (now old) z j.tree.name (count u.node.content)) (sym b.3) (intend_lowers (snapshot_of old numbers given) w j.tree.name number a b.1 u.node b.0 is named k b.2 u.live))
      ]
      | inr y ↦ inl (stays (now old) (now new) (refused_now y.0 old new y.2))
    ]
    go (stage.Cap a) k h x = or_refused j.tree.name (changed j.tree.name 1 one.0 (λ v node page. cap_lowers (snapshot_of old numbers given) w j.tree.name number a node v is named k page)) x
    go (stage.Receive a) k h x = or_refused j.tree.name (changed j.tree.name 1 one.0 (λ v node page. receiving_lowers (snapshot_of old numbers given) w j.tree.name number a node v is named k page)) x
    go (stage.Confirm a) k h x = or_refused j.tree.name (changed j.tree.name 1 one.0 (λ v node page. confirm_lowers (snapshot_of old numbers given) w j.tree.name number a node v is named k page)) x
