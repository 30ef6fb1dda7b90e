-- The pages that calls are to make merging children, over a step of one of several calls.
use Rattle.std.proofs.Common.{◌≡◌, ℕ, suc, Bool, true, false, cond, nat_eq, List, [], ◌∷◌, Option, Some, None, sym, refl, ap, ◌∙◌, subst, inl, inr, ◌⊎◌}
use Rattle.std.proofs.lemmas.Bool.{eq-eqb, eqb-true}
use Rattle.sled_nodes.proofs.Basics.{some_is, none_some, true_false}
use Rattle.sled_nodes.specs.Node.{pointers, Within}
use Rattle.sled_nodes.specs.Order.{Key}
use Rattle.sled_nodes.specs.declared.node.Node.{Node}
use Rattle.sled_store.specs.In.{In}
use Rattle.sled_store.specs.State.{State}
use Rattle.sled_store.specs.Store.{Store, now}
use Rattle.sled_store.specs.declared.page.Page.{Page}
use Rattle.tree_laws.specs.Forest.{Tree, Forest, Place, place, later}
use Rattle.tree_laws.specs.Snapshot.{Snapshot, snapshot_of, nodes_at, HasForest, IsAtVersion}
use Rattle.tree_laws.specs.Stages.{IsStage, IsIntending, IsUnder}
use Rattle.tree_laws.specs.declared.flight.Merge.{Merge}
use Rattle.tree_laws.specs.declared.flight.Stage.{Stage}
use Rattle.tree_laws.specs.declared.flight.Stage.TheVariants as stage
use Rattle.tree_laws.proofs.Cover.{one_cover, one_later}
use Rattle.tree_laws.proofs.Known.{fresh_in, fresh_node}
use Rattle.tree_laws.proofs.Receive.{followed}
use Rattle.tree_laws.proofs.Runs.{In-right}
use Rattle.move_laws.specs.Among.{IsUnderWay}
use Rattle.move_laws.specs.Meant.{Flight, has_version, meant_by, meant}
use Rattle.move_laws.proofs.Deeds.{Receives}
use Rattle.move_laws.proofs.Lists.{gathers, gathered}

-- a call that is to make a page a merging child, where the index is as it read it
pub record IsMeant (s : State) (a : Stage) (c : ℕ) : Type 0 where
  pub merge : Merge
  pub stage_is : a ≡ stage.Intend merge
  pub child : c ≡ merge.child
  pub page : Page
  pub live : s.pages merge.parent.pid ≡ Some page
  pub same : page.version ≡ merge.parent.version

by_version : (o : Option Page) (version : ℕ) → has_version o version ≡ true → (g : Page) × (o ≡ Some g) × (g.version ≡ version)
by_version None version e = absurd (true_false (sym e))
by_version (Some g) version e = (g, refl, eqb-true g.version version e)

pub meant_is : (s : State) (a : Stage) (c : ℕ) → In c (meant_by s a) → IsMeant s a c
meant_is s (stage.Intend a) c i = go (has_version (s.pages a.parent.pid) a.parent.version) refl i
  where
    go : (b : Bool) → has_version (s.pages a.parent.pid) a.parent.version ≡ b → In c (cond b (a.child ∷ []) []) → IsMeant s (stage.Intend a) c
    go false e i = absurd i
    go true e (inr i) = absurd i
    go true e (inl i) = let g = by_version (s.pages a.parent.pid) a.parent.version e in record { merge = a; stage_is = refl; child = i; page = g.0; live = g.1; same = g.2 }
meant_is s other c i = absurd i

pub is_meant : (s : State) (a : Stage) (c : ℕ) → IsMeant s a c → In c (meant_by s a)
is_meant s a c k = subst (λ z. In c (meant_by s z)) (sym k.stage_is) (subst (λ b. In c (cond b (k.merge.child ∷ []) [])) (sym here) (inl k.child))
  where
    here : has_version (s.pages k.merge.parent.pid) k.merge.parent.version ≡ true
    here = ap (λ o. has_version o k.merge.parent.version) k.live ∙ eq-eqb k.page.version k.merge.parent.version k.same

-- .. in the tree of a number
pub meant_of : (s : State) (number : ℕ) (fs : List Flight) (c : ℕ) → In c (meant s number fs) → (f : Flight) × In f fs × (f.course.tree.number ≡ number) × IsMeant s f.stage c
meant_of s number fs c i =
    let a = gathered (λ (f : Flight). cond (nat_eq f.course.tree.number number) (meant_by s f.stage) []) fs c i in
    go a.0 a.1 (nat_eq a.0.course.tree.number number) refl a.2
  where
    go : (f : Flight) → In f fs → (b : Bool) → nat_eq f.course.tree.number number ≡ b → In c (cond b (meant_by s f.stage) []) → (f : Flight) × In f fs × (f.course.tree.number ≡ number) × IsMeant s f.stage c
    go f j false e k = absurd k
    go f j true e k = (f, j, eqb-true f.course.tree.number number e, meant_is s f.stage c k)

pub of_meant : (s : State) (number : ℕ) (fs : List Flight) (c : ℕ) (f : Flight) → In f fs → f.course.tree.number ≡ number → IsMeant s f.stage c → In c (meant s number fs)
of_meant s number fs c f i e k = gathers (λ (f : Flight). cond (nat_eq f.course.tree.number number) (meant_by s f.stage) []) fs f c i
    (subst (λ b. In c (cond b (meant_by s f.stage) [])) (sym (eq-eqb f.course.tree.number number e)) (is_meant s f.stage c k))

-- a page that a call is to make a merging child stands below the index
pub record StandsBelow (m : Snapshot) (w : Forest) (name : Tree) (a : Merge) : Type 0 where
  pub height : ℕ
  pub parent_in : In a.parent.pid (w.chain (place name (suc height)))
  pub parent_is : nodes_at m a.parent.pid ≡ Some a.parent.node
  pub open_is : a.parent.node.merging_child ≡ None
  pub key : Key
  pub pointer : In (key, a.child) (later (pointers a.parent.node.content))
  pub under : IsUnder m w (place name height) a.parent key a.child

module _ (old new : Store) (numbers : Tree → Option ℕ) (given : ℕ → Bool) (w : Forest) (is : HasForest (snapshot_of old numbers given) w) where
  abbrev m : Snapshot
  m = snapshot_of old numbers given

  abbrev m' : Snapshot
  m' = snapshot_of new numbers given

  -- versions are given once
  abbrev Fresh : Type 0
  Fresh = (p : ℕ) (g : Page) → (now new).pages p ≡ Some g → ((now old).pages p ≡ Some g) ⊎ (old.versions g.version ≡ false)

  pub intending : (f : Flight) → IsUnderWay numbers given old w f → (a : Merge) → f.stage ≡ stage.Intend a → IsIntending m w f.course.tree.name f.course.tree.number a
  intending f k a e = go f.stage e k.knows.0
    where
      go : (s : Stage) → s ≡ stage.Intend a → IsStage m w f.course.tree.name f.course.tree.number f.course.aim s → IsIntending m w f.course.tree.name f.course.tree.number a
      go s e k = subst (λ z. IsStage m w f.course.tree.name f.course.tree.number f.course.aim z) e k

  pub below : (f : Flight) → IsUnderWay numbers given old w f → (a : Merge) → f.stage ≡ stage.Intend a → IsAtVersion m a.parent → StandsBelow m w f.course.tree.name a
  below f k a e at =
      let i = intending f k a e in
      record {
        height = i.height;
        parent_in = fresh_in i.above.seen at k.named;
        parent_is = fresh_node i.above.seen at;
        open_is = i.above.seen.is_open.free;
        key = i.key;
        pointer = i.pointer;
        under = i.under k.named at;
      }

  -- who means a page after the step meant it before
  pub meant_before : Fresh → (f : Flight) → IsUnderWay numbers given old w f → (c : ℕ) → IsMeant (now new) f.stage c → IsMeant (now old) f.stage c
  meant_before fresh f k c u =
      let i = intending f k u.merge u.stage_is in
      elim (fresh u.merge.parent.pid u.page u.live) [
        | inl was ↦ record { merge = u.merge; stage_is = u.stage_is; child = u.child; page = u.page; live = was; same = u.same }
        | inr never ↦ absurd (true_false (sym i.above.seen.view.given ∙ sym (ap old.versions u.same) ∙ never))
      ]

  at_version : (a : Stage) (c : ℕ) (u : IsMeant (now old) a c) → IsAtVersion m u.merge.parent
  at_version a c u = record { page = u.page; live = u.live; same = u.same }

  pub stands : (f : Flight) → IsUnderWay numbers given old w f → (c : ℕ) (u : IsMeant (now old) f.stage c) → StandsBelow m w f.course.tree.name u.merge
  stands f k c u = below f k u.merge u.stage_is (at_version f.stage c u)

  -- a page that takes in the one behind it is no such page: that one's index would be the same
  pub not_receiving : (f : Flight) → IsUnderWay numbers given old w f → (c : ℕ) → IsMeant (now old) f.stage c → Receives m c → ⊥
  not_receiving f k c u r =
      let b = stands f k c u in
      let x : Place = place f.course.tree.name b.height in
      let c_in : In c (w.chain x) = subst (λ z. In z (w.chain x)) (sym u.child) b.under.chained in
      let z = followed is.formed x c r.child r.node c_in r.live r.next in
      let e_in : In r.child (w.chain x) = subst (λ l. In r.child l) (sym z.2) (In-right z.0 _ r.child (inr (inl refl))) in
      let i = is.formed.page x r.child (is.formed.homed x r.child e_in) in
      let q = i.1.parent (subst (λ (y : Node). y.merging ≡ true) (some_is (sym r.there ∙ i.1.live)) r.merging) in
      let same = one_later is.formed f.course.tree.name b.height z.0 z.1 c r.child r.node r.capped z.2 r.live r.there u.merge.parent.pid q.0 u.merge.parent.node q.1 b.key b.parent_in q.2 b.parent_is q.3
      (subst (λ y. In (b.key, y) (later (pointers u.merge.parent.node.content))) (sym u.child) b.pointer) q.4 in
      none_some (sym b.open_is ∙ subst (λ (y : Node). y.merging_child ≡ Some r.child) (some_is (sym q.3 ∙ ap (nodes_at m) (sym same) ∙ b.parent_is)) q.4)

  -- .. and so it does of who means a page after the step
  pub stands_now : Fresh → (f : Flight) → IsUnderWay numbers given old w f → (c : ℕ) (u : IsMeant (now new) f.stage c) → StandsBelow m w f.course.tree.name u.merge
  stands_now fresh f k c u = elim (fresh u.merge.parent.pid u.page u.live) [
    | inl was ↦ below f k u.merge u.stage_is (record { page = u.page; live = was; same = u.same })
    | inr never ↦ true_false (sym (intending f k u.merge u.stage_is).above.seen.view.given ∙ sym (ap old.versions u.same) ∙ never)
  ]

  -- a page stands below one index
  pub one_index : (name other : Tree) (y z : Merge) → StandsBelow m w name y → StandsBelow m w other z → y.child ≡ z.child → y.parent.pid ≡ z.parent.pid
  one_index name other y z a b e =
      let there : In y.child (w.chain (place other b.height)) = subst (λ q. In q (w.chain (place other b.height))) (sym e) b.under.chained in
      let same : place other b.height ≡ place name a.height = some_is (sym (is.formed.homed _ y.child there) ∙ is.formed.homed _ y.child a.under.chained) in
      let node_is : a.under.node ≡ b.under.node = some_is (sym a.under.live ∙ ap (nodes_at m) e ∙ b.under.live) in
      let key_is : b.key ≡ a.key = sym b.under.lo ∙ ap (λ (q : Node). q.lo) (sym node_is) ∙ a.under.lo in
      one_cover is.formed (place name (suc a.height)) y.parent.pid z.parent.pid y.parent.node z.parent.node a.key a.parent_in
      (subst (λ (q : Place). In z.parent.pid (w.chain (place q.tree (suc q.height)))) same b.parent_in) a.parent_is b.parent_is a.under.covers (subst (λ q. Within z.parent.node.lo z.parent.node.hi q) key_is b.under.covers)
